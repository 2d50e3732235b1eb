use Rattle.std.proofs.Common.{refl, sym, subst}
use Rattle.volume_core.specs.State.{state_of}
use Rattle.volume_core.specs.Sound.{IsSound}
use Rattle.volume_core.specs.Streams.{MayGo}
use Rattle.volume_maint.proofs.TurnSound.{withdrawn_kept}
use Rattle.volume_core.proofs.TurnLemmas.{for_asker}
use Rattle.volume_maint.proofs.TurnStreams.{less_goes}
use Rattle.volume_maint.proofs.turn.withdraw_maint.Goals as goal

pub returns-clause-sound : goal.returns-clause-sound
returns-clause-sound c =
    subst IsSound (sym c.take_command.ensures.gone)
    (withdrawn_kept (state_of c.args.world.now) c.args.t c.waiting_command_at-k.result c.requires.sound c.waiting_command_at-k.ensures)

pub returns-clause-may : goal.returns-clause-may
returns-clause-may c =
    let s = state_of c.args.world.now in
    let s2 = state_of c.take_command.new.world in
    let k = c.waiting_command_at-k.result in
    for_asker s c.args.t k (λ stream. MayGo stream s s2) c.waiting_command_at-k.ensures.stands
    (less_goes s s2 c.requires.sound (returns-clause-sound c) k s.gave_up c.take_command.ensures.gone (λ n other. refl))
