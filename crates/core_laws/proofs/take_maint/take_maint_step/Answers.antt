use Rattle.std.proofs.Common.{sym, subst}
use Rattle.volume_core.specs.State.{state_of}
use Rattle.core_laws.specs.declared.maint_step.MaintStep.{MaintStep}
use Rattle.core_laws.specs.MaintTakes.{MakesMaint}
use Rattle.core_laws.proofs.take_maint.take_maint_step.Goals as goal

pub returns-in-FoldPage-clause-ok : goal.returns-in-FoldPage-clause-ok
returns-in-FoldPage-clause-ok c =
    subst (λ (x : MaintStep). MakesMaint x (state_of c.args.world.now) (state_of c.fold.new.world))
    (sym c.in-FoldPage.is) c.fold.ensures.ok

pub returns-in_ok-enrol_on_whole-in-EnrolWhole-clause-ok :
    goal.returns-in_ok-enrol_on_whole-in-EnrolWhole-clause-ok
returns-in_ok-enrol_on_whole-in-EnrolWhole-clause-ok c =
    subst (λ (x : MaintStep). MakesMaint x (state_of c.args.world.now) (state_of c.enrol_on_whole.new.world))
    (sym c.in-EnrolWhole.is) c.in_ok-enrol_on_whole-in-EnrolWhole.ensures.ok
