use Rattle.std.proofs.Common.{◌≡◌, sym, subst, rules}
use Rattle.volume_model.specs.declared.mode.Mode.TheVariants.{Rw}
use Rattle.volume_model.specs.Modes.{mode_of}
use Rattle.open_calls.proofs.FreeLemmas.{read_no_whole}
use Rattle.volume_core.specs.State.{state_of, modes_in}
use Rattle.volume_core.specs.Sound.{IsSound}
use Rattle.volume_core.proofs.Keep.{has_read_kept}
use Rattle.std.proofs.Common.{refl}
use Rattle.range_turns.specs.Order.{ticket_at}
use Rattle.open_calls.specs.Calls.{open_at, node_at, read_from}
use Rattle.volume_core.specs.State.{State}
use Rattle.volume_core.proofs.Moves.{refused_may, refused_stays, step_may, step_stays, given}
use Rattle.volume_core.proofs.world.World.apply_read.Goals as goal

pub returns-clause-sound : goal.returns-clause-sound
returns-clause-sound c =
    let place_holds = c.in-Some.ensures.place in
    let read : mode_of (modes_in (state_of c.args.self.now)) c.args.replica ≡ Rw = search rules in
    subst IsSound (sym c.read_on.ensures)
    (has_read_kept (state_of c.args.self.now) c.in-Some.i c.requires.sound place_holds.stands.within
    place_holds.reads.started (read_no_whole _ place_holds.reads.reads) c.args.replica place_holds.reads read)

pub returns-clause-may : goal.returns-clause-may
returns-clause-may c =
    let s : State = state_of c.args.self.now in
    let i = c.in-Some.i in
    step_may s (state_of c.read_on.new.self) c.args.t i c.requires.sound (returns-clause-sound c) c.in-Some.ensures.place.stands
    (read_from (open_at s.calls i) c.args.replica (node_at s.nodes c.args.replica)) s.nodes refl refl c.read_on.ensures

pub returns-clause-stays : goal.returns-clause-stays
returns-clause-stays c =
    let s : State = state_of c.args.self.now in
    let i = c.in-Some.i in
    step_stays s (state_of c.read_on.new.self) c.args.t i c.requires.sound (returns-clause-sound c) c.in-Some.ensures.place.stands
    (read_from (open_at s.calls i) c.args.replica (node_at s.nodes c.args.replica)) s.nodes refl
    (given (ticket_at s.tickets i) (open_at s.calls i) c.args.replica (node_at s.nodes c.args.replica)) c.read_on.ensures

pub returns-in_default-clause-may : goal.returns-in_default-clause-may
returns-in_default-clause-may c = refused_may c.args.t (state_of c.args.self.now) c.requires.sound

pub returns-in_default-clause-stays : goal.returns-in_default-clause-stays
returns-in_default-clause-stays c = refused_stays c.args.t (state_of c.args.self.now)

pub returns-then-ne-clause-may : goal.returns-then-ne-clause-may
returns-then-ne-clause-may c = refused_may c.args.t (state_of c.args.self.now) c.requires.sound

pub returns-then-ne-clause-stays : goal.returns-then-ne-clause-stays
returns-then-ne-clause-stays c = refused_stays c.args.t (state_of c.args.self.now)
