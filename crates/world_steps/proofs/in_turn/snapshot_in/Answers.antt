use Rattle.std.proofs.Common.{Option, ℕ, subst}
use Rattle.volume_core.specs.State.{state_of}
use Rattle.volume_maint.specs.Answers.{EnrolsWhole}
use Rattle.world_steps.proofs.in_turn.snapshot_in.Goals as goal

pub returns-clause-ok : goal.returns-clause-ok
returns-clause-ok c =
    subst (λ (v : Option ℕ). EnrolsWhole (state_of c.args.world.now) c.args.stream c.args.op.now v (state_of c.enrol_whole.new.world))
    c.in-Some.is c.in_ok-t.ensures.ok
