use Rattle.std.proofs.lemmas.List.{take-replicate}
use Rattle.volume_model.specs.declared.mode.Mode.TheVariants.{Rw}
use Rattle.mode_table.proofs.table.ModeTable.new.Goals as goal

pub returns : goal.returns
returns c = take-replicate c.args.replicas 8 Rw c.requires
