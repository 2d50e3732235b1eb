use Rattle.std.proofs.Common.{sym, subst}
use Rattle.volume_core.specs.State.{state_of}
use Rattle.volume_core.specs.Sound.{IsSound}
use Rattle.volume_core.specs.Streams.{MayGo}
use Rattle.volume_core.proofs.Keep.{withdrawn_kept}
use Rattle.volume_maint.proofs.Owes.{gone_goes, for_caller}
use Rattle.volume_maint.proofs.whole.withdraw_whole.Goals as goal

pub returns-clause-sound : goal.returns-clause-sound
returns-clause-sound c =
    subst IsSound (sym c.take_call.ensures)
    (withdrawn_kept (state_of c.args.world.now) c.waiting_whole_at-i.result c.requires.sound
    c.waiting_whole_at-i.ensures.stands.within c.waiting_whole_at-i.ensures.waits)

pub returns-clause-may : goal.returns-clause-may
returns-clause-may c =
    let s = state_of c.args.world.now in
    let s2 = state_of c.take_call.new.world in
    let i = c.waiting_whole_at-i.result in
    for_caller s c.args.t i (λ stream. MayGo stream s s2) c.waiting_whole_at-i.ensures.stands
    (gone_goes s s2 c.requires.sound (returns-clause-sound c) i s.whole s.rebuild c.take_call.ensures)
