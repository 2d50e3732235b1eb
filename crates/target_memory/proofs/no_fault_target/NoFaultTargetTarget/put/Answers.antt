use Rattle.std.proofs.Common.{ap}
use Rattle.target_memory.proofs.no_fault_target.NoFaultTargetTarget.put.Goals as goal

pub returns-in_err-hold-clause-others : goal.returns-in_err-hold-clause-others
returns-in_err-hold-clause-others c other differs = ap (λ f. f other) c.in_err-hold.ensures.err
