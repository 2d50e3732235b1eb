use Rattle.std.proofs.Common.{cond, get_or, set, ap, ◌∙◌, arith}
use Rattle.std.proofs.lemmas.List.Edits.{map_over_more}
use Rattle.std.specs.Str.{bytes_eq}
use Rattle.volume_model.specs.Snapshots.{Snapshot}
use Rattle.plain_disk.proofs.snapshots.give_parent.Goals as goal

pub loop-snapshot-preserved : goal.loop-snapshot-preserved
loop-snapshot-preserved c =
    let at = c.loop-snapshot in
    let name = c.args.name.now in
    ap (λ s. set at.snapshots at.snapshot-index s) c.give_parent_if_named.ensures
    ∙ map_over_more (λ (s : Snapshot). cond (bytes_eq name s.name) (record s { parent = c.args.parent.now }) s)
    c.args.snapshots.now at.snapshots at.snapshot-index
    (get_or at.snapshots at.snapshot-index c.snapshot-item.result) (omega arith) at.invariant
    (ap (λ s. get_or at.snapshots at.snapshot-index s) c.snapshot-item.is)
