use Rattle.std.proofs.Common.{List, slice_set, ap, ◌∙◌, arith}
use Rattle.std.proofs.Math.Seq.{take-set-lt}
use Rattle.step_answers.specs.declared.parts.Part.{Part}
use Rattle.step_answers.proofs.parts.Parts.set.Goals as goal

pub returns-then-replica-self : goal.returns-then-replica-self
returns-then-replica-self c =
    let p = c.self.inside in
    take-set-lt p.count p.parts c.args.replica c.args.part (omega arith)
    ∙ ap (λ (parts : List Part). slice_set parts c.args.replica c.args.part) c.self.view_is
