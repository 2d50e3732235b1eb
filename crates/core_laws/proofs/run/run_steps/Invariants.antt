use Rattle.std.proofs.Common.{take}
use Rattle.volume_core.specs.Sound.{IsSound}
use Rattle.volume_core.specs.State.{state_of}
use Rattle.core_laws.specs.Takes.{MakeInTurn}
use Rattle.core_laws.proofs.run.run_steps.Given as goal

abbrev pub invariant-loop-step : goal.invariant-loop-step
invariant-loop-step l = record {
  sound : IsSound (state_of l.world);
  made : MakeInTurn (take l.step-index l.steps) (state_of l.initial.world) (state_of l.world);
}
