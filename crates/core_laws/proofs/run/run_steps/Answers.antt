use Rattle.std.proofs.Common.{◌≡◌, sym, subst, arith}
use Rattle.std.proofs.Math.ListN.{get_or}
use Rattle.std.proofs.lemmas.Grind.{common_steps}
use Rattle.volume_core.specs.State.{State, state_of}
use Rattle.core_laws.specs.declared.step.Step.{Step}
use Rattle.core_laws.specs.Takes.{Makes}
use Rattle.core_laws.proofs.InTurn.{in_turn-more}
use Rattle.core_laws.proofs.run.run_steps.Goals as goal

pub loop-step-preserved : goal.loop-step-preserved
loop-step-preserved c =
    let x = c.step-item.result in
    let before : State = state_of c.loop-step.world in
    let after : State = state_of c.take_step.new.world in
    let at : get_or c.args.steps.now c.loop-step.step-index x ≡ x = grind (arith, common_steps) in
    let made : Makes (get_or c.args.steps.now c.loop-step.step-index x) before after =
    subst (λ (y : Step). Makes y before after) (sym at) c.in_ok-take_step.ensures.ok in
    record {
      sound = c.take_step.ensures.sound;
      made = in_turn-more c.args.steps.now c.loop-step.step-index x (state_of c.args.world.now) before after
          c.loop-step-test.true c.loop-step.invariant.made made;
    }
