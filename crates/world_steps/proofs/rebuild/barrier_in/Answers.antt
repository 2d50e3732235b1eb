use Rattle.std.proofs.Common.{subst, sym}
use Rattle.volume_core.specs.State.{State, state_of}
use Rattle.step_answers.specs.declared.answers.AdmitWhole.{AdmitWhole}
use Rattle.stream_steps.specs.declared.add.AdmitBarrier.{AdmitBarrier}
use Rattle.volume_maint.specs.Answers.{AdmitsWhole}
use Rattle.world_steps.specs.Rebuild.{AdmitsBarrierIn}
use Rattle.world_steps.proofs.rebuild.barrier_in.Goals as goal
use Rattle.world_steps.proofs.rebuild.barrier_in.Goals.{in-Go, in-After, in-Never, in-Refused}

pub returns-clause-ok : goal.returns-clause-ok
returns-clause-ok c =
    let x : State = state_of c.args.world.now in
    let y : State = state_of c.admit_whole.new.world in
    let admits : AdmitsWhole x c.args.t c.in_ok-admit.admit y = c.in_ok-admit.ensures.ok in
    elim c.match-admit.branch [
      | in-Go w ↦ subst (λ (b : AdmitBarrier). AdmitsBarrierIn x c.args.t b y) (sym w.result-is)
          (subst (λ (ans : AdmitWhole). AdmitsWhole x c.args.t ans y) w.in-Go.is admits, w.begun_in.ensures)
      | in-After w ↦ subst (λ (b : AdmitBarrier). AdmitsBarrierIn x c.args.t b y) (sym w.result-is)
          (subst (λ (ans : AdmitWhole). AdmitsWhole x c.args.t ans y) w.in-After.is admits)
      | in-Never w ↦ subst (λ (b : AdmitBarrier). AdmitsBarrierIn x c.args.t b y) (sym w.result-is)
          (subst (λ (ans : AdmitWhole). AdmitsWhole x c.args.t ans y) w.in-Never.is admits)
      | in-Refused w ↦ subst (λ (b : AdmitBarrier). AdmitsBarrierIn x c.args.t b y) (sym w.result-is)
          (w.in-Refused.field-0, w.in-Refused.field-1, subst (λ (ans : AdmitWhole). AdmitsWhole x c.args.t ans y) w.in-Refused.is admits)
    ]
