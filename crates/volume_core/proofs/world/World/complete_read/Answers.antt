use Rattle.std.proofs.Common.{◌≡◌, sym, subst, arith}
use Rattle.std.proofs.lemmas.Grind.{elements}
use Rattle.open_calls.specs.declared.open_call.OpenCall.{OpenCall}
use Rattle.step_answers.specs.declared.parts.Part.TheVariants.{Acked}
use Rattle.step_answers.specs.Parts.{part_at}
use Rattle.open_calls.specs.Calls.{open_at}
use Rattle.volume_core.specs.State.{state_of}
use Rattle.volume_core.specs.Sound.{IsSound}
use Rattle.volume_core.proofs.Keep.{read_kept, none_kept}
use Rattle.volume_core.proofs.world.World.complete_read.Goals as goal

pub returns-in-Some-clause-sound : goal.returns-in-Some-clause-sound
returns-in-Some-clause-sound c =
    let s = state_of c.args.self.now in
    let at = c.requires.is.1 in
    let read : c.index.result.now ≡ open_at s.calls c.args.i = grind (arith, elements) in
    let acked : part_at (open_at s.calls c.args.i).parts c.in-Some._replica ≡ Acked =
    subst (λ (x : OpenCall). part_at x.parts c.in-Some._replica ≡ Acked) read c.in-Some.ensures in
    subst IsSound (sym c.end_read.ensures.state) (read_kept s c.args.i c.requires.sound at.stands.within at.reads c.in-Some._replica acked)

pub returns-in-None-clause-sound : goal.returns-in-None-clause-sound
returns-in-None-clause-sound c =
    let s = state_of c.args.self.now in
    let at = c.requires.is.1 in
    subst IsSound (sym c.end_at.ensures.state)
    (none_kept s c.args.i c.requires.sound at.stands.within at.reads c.in-None.ensures.found)
