use Rattle.std.proofs.Common.{get_or, set, ap, ◌∙◌, arith}
use Rattle.std.proofs.lemmas.List.Edits.{map_over_more}
use Rattle.volume_model.specs.Snapshots.{marked_if}
use Rattle.plain_disk.proofs.snapshots.mark.Goals as goal

pub loop-snapshot-preserved : goal.loop-snapshot-preserved
loop-snapshot-preserved c =
    let at = c.loop-snapshot in
    ap (λ s. set at.snapshots at.snapshot-index s) c.mark_if_named.ensures
    ∙ map_over_more (marked_if c.args.name.now) c.args.snapshots.now at.snapshots at.snapshot-index
    (get_or at.snapshots at.snapshot-index c.snapshot-item.result) (omega arith) at.invariant
    (ap (λ s. get_or at.snapshots at.snapshot-index s) c.snapshot-item.is)
