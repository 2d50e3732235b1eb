use Rattle.std.proofs.Common.{◌∙◌, ap}
use Rattle.target_memory.specs.Kept.{objects_of}
use Rattle.target_memory.proofs.memory_target.MemoryTargetTarget.put.Goals as goal

pub returns-in_err-hold-clause-others : goal.returns-in_err-hold-clause-others
returns-in_err-hold-clause-others c other differs =
    ap (λ f. f other) c.in_err-hold.ensures.err ∙ ap (λ t. objects_of t other) c.in_ok-pass.ensures.same
