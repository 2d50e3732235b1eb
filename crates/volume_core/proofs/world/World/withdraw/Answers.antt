use Rattle.std.proofs.Common.{sym, subst}
use Rattle.volume_core.specs.State.{state_of}
use Rattle.volume_core.specs.Sound.{IsSound}
use Rattle.volume_core.proofs.Keep.{withdrawn_kept}
use Rattle.volume_core.proofs.Moves.{withdrawn_may, withdrawn_sees}
use Rattle.volume_core.proofs.world.World.withdraw.Goals as goal

pub returns-clause-sound : goal.returns-clause-sound
returns-clause-sound c =
    subst IsSound (sym c.take_out.ensures)
    (withdrawn_kept (state_of c.args.self.now) c.waiting_at.result c.requires.sound c.waiting_at.ensures.stands.within
    c.waiting_at.ensures.waits)

pub returns-clause-may : goal.returns-clause-may
returns-clause-may c =
    withdrawn_may (state_of c.args.self.now) (state_of c.take_out.new.self) c.args.t c.waiting_at.result c.requires.sound
    (returns-clause-sound c) c.waiting_at.ensures.stands c.take_out.ensures

pub returns-clause-sees : goal.returns-clause-sees
returns-clause-sees c =
    withdrawn_sees (state_of c.args.self.now) (state_of c.take_out.new.self) c.args.t c.waiting_at.result c.requires.sound
    (returns-clause-sound c) c.waiting_at.ensures.stands c.take_out.ensures
