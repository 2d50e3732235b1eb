use Rattle.std.proofs.Common.{◌≡◌, drop}
use Rattle.script_head.specs.LinePlans.{planned}
use Rattle.script_head.proofs.line_plan.plan_of.Given as goal

-- none of the plans so far is of the line
abbrev pub invariant-loop-plan : goal.invariant-loop-plan
invariant-loop-plan l = planned l.lines l.worker l.replica ≡ planned (drop l.plan-index l.lines) l.worker l.replica
