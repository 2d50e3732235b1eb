use Rattle.std.proofs.Common.{List, slice_set, ap, ◌∙◌, arith}
use Rattle.std.proofs.Math.Seq.{take-set-lt}
use Rattle.volume_model.specs.declared.mode.Mode.{Mode}
use Rattle.mode_table.proofs.table.ModeTable.set.Goals as goal

pub returns-then-replica-self : goal.returns-then-replica-self
returns-then-replica-self c =
    let t = c.self.inside in
    take-set-lt t.count t.modes c.args.replica c.args.mode (omega arith)
    ∙ ap (λ (modes : List Mode). slice_set modes c.args.replica c.args.mode) c.self.view_is
