use Rattle.std.proofs.Common.{◌≢◌, sym, subst, rules}
use Rattle.volume_model.specs.declared.mode.Mode.TheVariants.{Err}
use Rattle.volume_model.specs.Modes.{mode_of}
use Rattle.open_calls.proofs.FreeLemmas.{write_no_whole}
use Rattle.volume_core.specs.State.{state_of, modes_in}
use Rattle.volume_core.specs.Sound.{IsSound}
use Rattle.volume_core.proofs.Keep.{wrote_kept}
use Rattle.std.proofs.Common.{refl, length-set}
use Rattle.range_turns.specs.Order.{ticket_at}
use Rattle.step_answers.specs.declared.parts.Part.TheVariants.{Taken}
use Rattle.open_calls.specs.Calls.{open_at, node_at, with_part_at, whole_of}
use Rattle.replica_node.specs.Node.{Node}
use Rattle.replica_node.specs.Room.{put_at}
use Rattle.volume_core.specs.State.{State}
use Rattle.volume_core.specs.Steps.{wrote}
use Rattle.volume_core.proofs.Moves.{refused_may, refused_stays, step_may, step_stays, parted}
use Rattle.volume_core.proofs.world.World.apply_write.Goals as goal

pub returns-clause-sound : goal.returns-clause-sound
returns-clause-sound c =
    let writes_holds = c.in-Some.ensures.place.writes in
    let up : mode_of (modes_in (state_of c.args.self.now)) c.args.replica ≢ Err = search rules in
    subst IsSound (sym c.write_on.ensures.state)
    (wrote_kept (state_of c.args.self.now) c.in-Some.i c.requires.sound c.in-Some.ensures.place.stands.within
    writes_holds.started (write_no_whole _ writes_holds.writes) c.args.replica c.write_on.ensures.chained.0 writes_holds
    up c.write_on.ensures.chained.1)

pub returns-clause-may : goal.returns-clause-may
returns-clause-may c =
    let s : State = state_of c.args.self.now in
    let i = c.in-Some.i in
    let new : Node = put_at (node_at s.nodes c.args.replica) (ticket_at s.tickets i).range.first (whole_of (open_at s.calls i)) in
    step_may s (state_of c.write_on.new.self) c.args.t i c.requires.sound (returns-clause-sound c) c.in-Some.ensures.place.stands
    (with_part_at (open_at s.calls i) c.args.replica Taken) (wrote s i c.args.replica).nodes refl
    (length-set s.nodes c.args.replica new) c.write_on.ensures.state

pub returns-clause-stays : goal.returns-clause-stays
returns-clause-stays c =
    let s : State = state_of c.args.self.now in
    let i = c.in-Some.i in
    step_stays s (state_of c.write_on.new.self) c.args.t i c.requires.sound (returns-clause-sound c) c.in-Some.ensures.place.stands
    (with_part_at (open_at s.calls i) c.args.replica Taken) (wrote s i c.args.replica).nodes refl
    (parted (ticket_at s.tickets i) (open_at s.calls i) c.args.replica Taken) c.write_on.ensures.state

pub returns-in_default-clause-may : goal.returns-in_default-clause-may
returns-in_default-clause-may c = refused_may c.args.t (state_of c.args.self.now) c.requires.sound

pub returns-in_default-clause-stays : goal.returns-in_default-clause-stays
returns-in_default-clause-stays c = refused_stays c.args.t (state_of c.args.self.now)

pub returns-then-eq-clause-may : goal.returns-then-eq-clause-may
returns-then-eq-clause-may c = refused_may c.args.t (state_of c.args.self.now) c.requires.sound

pub returns-then-eq-clause-stays : goal.returns-then-eq-clause-stays
returns-then-eq-clause-stays c = refused_stays c.args.t (state_of c.args.self.now)
