use Rattle.std.proofs.Common.{◌+◌, ℕ, List, Option, sym, ap, subst, ◌∙◌}
use Rattle.folder_checks.specs.Snapshots.{metas_of}
use Rattle.folder_checks.specs.declared.parts.ImageParts.{ImageParts}
use Rattle.folder_layers.specs.Parents.{AreParentsBelow}
use Rattle.folder_layers.proofs.ParentLemmas.{told_meta, parents_more}
use Rattle.folder_layers.proofs.parents.parents_of.Goals as goal

pub loop-snapshot-preserved : goal.loop-snapshot-preserved
loop-snapshot-preserved c =
    let metas = metas_of c.args.snapshots.now in
    let at = c.loop-snapshot.snapshot-index in
    subst (AreParentsBelow metas (at + 1)) (sym {A = List (Option ℕ)} c.in_ok-push.ensures.items)
    (parents_more metas at c.loop-snapshot.parents.items c.snapshot-item.result.meta c.parent_place.result c.loop-snapshot.invariant
    (told_meta c.args.snapshots.now at c.snapshot-item.result c.loop-snapshot-test.true
    ∙ ap (λ (p : ImageParts). p.meta) (sym c.snapshot-item.is))
    (c.parent_place.ensures metas c.requires))
