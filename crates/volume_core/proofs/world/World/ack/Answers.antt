use Rattle.std.proofs.Common.{◌≡◌, refl, sym, subst, rules, arith}
use Rattle.std.proofs.lemmas.Grind.{elements}
use Rattle.open_calls.specs.declared.open_call.OpenCall.{OpenCall}
use Rattle.step_answers.specs.Parts.{part_at, IsTaken}
use Rattle.open_calls.specs.Calls.{open_at, with_part_at}
use Rattle.step_answers.specs.declared.parts.Part.TheVariants.{Acked}
use Rattle.volume_core.specs.State.{state_of}
use Rattle.volume_core.specs.Sound.{IsSound}
use Rattle.volume_core.proofs.Keep.{acked_kept}
use Rattle.range_turns.specs.Order.{ticket_at}
use Rattle.volume_core.proofs.Moves.{refused_may, refused_stays, step_may, step_stays, parted}
use Rattle.volume_core.proofs.world.World.ack.Goals as goal

pub returns-in-Taken-clause-sound : goal.returns-in-Taken-clause-sound
returns-in-Taken-clause-sound c =
    let read : c.index.result.now ≡ open_at c.args.self.now.calls.items c.in-Some.i = grind (arith, elements) in
    let mine : IsTaken (part_at c.index.result.now.parts c.args.replica) = search rules in
    subst IsSound (sym c.ack_on.ensures)
    (acked_kept (state_of c.args.self.now) c.in-Some.i c.requires.sound c.in-Some.ensures.place.stands.within
    c.in-Some.ensures.place.started c.in-Some.ensures.place.range c.args.replica
    (subst (λ (x : OpenCall). IsTaken (part_at x.parts c.args.replica)) read mine))

pub returns-in-Taken-clause-may : goal.returns-in-Taken-clause-may
returns-in-Taken-clause-may c =
    step_may (state_of c.args.self.now) (state_of c.ack_on.new.self) c.args.t c.in-Some.i c.requires.sound
    (returns-in-Taken-clause-sound c) c.in-Some.ensures.place.stands
    (with_part_at (open_at c.args.self.now.calls.items c.in-Some.i) c.args.replica Acked) c.args.self.now.nodes.items refl
    refl c.ack_on.ensures

pub returns-in-Taken-clause-stays : goal.returns-in-Taken-clause-stays
returns-in-Taken-clause-stays c =
    let open_here = open_at c.args.self.now.calls.items c.in-Some.i in
    step_stays (state_of c.args.self.now) (state_of c.ack_on.new.self) c.args.t c.in-Some.i c.requires.sound
    (returns-in-Taken-clause-sound c) c.in-Some.ensures.place.stands
    (with_part_at open_here c.args.replica Acked) c.args.self.now.nodes.items refl
    (parted (ticket_at c.args.self.now.turns.tickets c.in-Some.i) open_here c.args.replica Acked) c.ack_on.ensures

pub returns-in_default-clause-may : goal.returns-in_default-clause-may
returns-in_default-clause-may c = refused_may c.args.t (state_of c.args.self.now) c.requires.sound

pub returns-in_default-clause-stays : goal.returns-in_default-clause-stays
returns-in_default-clause-stays c = refused_stays c.args.t (state_of c.args.self.now)

pub returns-in-Apart-clause-may : goal.returns-in-Apart-clause-may
returns-in-Apart-clause-may c = refused_may c.args.t (state_of c.args.self.now) c.requires.sound

pub returns-in-Apart-clause-stays : goal.returns-in-Apart-clause-stays
returns-in-Apart-clause-stays c = refused_stays c.args.t (state_of c.args.self.now)

pub returns-in-Apart-clause-why : goal.returns-in-Apart-clause-why
returns-in-Apart-clause-why c = c.without_step.ensures c.args.t c.in-Some.ensures.place
