use Rattle.std.proofs.Common.{false, ap}
use Rattle.chain_meta.specs.declared.volume_meta.VolumeMeta.{VolumeMeta}
use Rattle.replica_shelf.specs.Saving.{stamps_of}
use Rattle.replica_shelf.proofs.CallLemmas.{both_then}
use Rattle.replica_shelf.proofs.FolderLemmas.{saved_is, folder_is_ok, dirty_stays, foreign_then, foreign_volume, foreign_images}
use Rattle.replica_shelf.proofs.saving.save.Goals as goal

pub returns-in_err-put_parts-clause-dirty : goal.returns-in_err-put_parts-clause-dirty
returns-in_err-put_parts-clause-dirty g c fell elsewhere low =
    dirty_stays c.args.shelf c.args.meta.now.failed c.args.node.now c.in_ok-volume.volume (g.S.Shelves.holds c.args.shelves.now)
    (g.S.Shelves.holds c.put_volume.new.shelves) (g.S.Shelves.holds c.put_parts.new.shelves) low c.in_ok-volume.ensures
    c.in_ok-put_volume.ensures.ok c.put_parts.ensures.others

pub returns-clause-files : goal.returns-clause-files
returns-clause-files g c =
    saved_is c.put_volume-2.result c.args.shelf (stamps_of c.args.meta.now) c.args.meta.now.failed c.args.node.now
    (record c.in_ok-volume.volume { dirty = false }) (g.S.Shelves.holds c.args.shelves.now)
    (g.S.Shelves.holds c.put_volume.new.shelves) (g.S.Shelves.holds c.put_parts.new.shelves)
    (g.S.Shelves.holds c.put_volume-2.new.shelves) (ap {A = VolumeMeta} (λ m. record m { dirty = false }) c.in_ok-volume.ensures)
    c.put_volume.ensures.others c.in_ok-put_parts.ensures.ok c.put_volume-2.ensures.others c.put_volume-2.ensures.ok

pub returns-clause-ok : goal.returns-clause-ok
returns-clause-ok g c =
    folder_is_ok c.put_volume-2.result c.args.shelf (stamps_of c.args.meta.now) c.args.meta.now.failed c.args.node.now
    (g.S.Shelves.holds c.args.shelves.now) (g.S.Shelves.holds c.put_volume-2.new.shelves) (returns-clause-files g c)

pub returns-clause-others : goal.returns-clause-others
returns-clause-others g c =
    let shelf = c.args.shelf in
    let x = g.S.Shelves.holds c.args.shelves.now in
    let y = g.S.Shelves.holds c.put_volume.new.shelves in
    let z = g.S.Shelves.holds c.put_parts.new.shelves in
    let w = g.S.Shelves.holds c.put_volume-2.new.shelves in
    both_then x z w _ _ _
    (both_then x y z _ _ _ c.put_volume.ensures.others c.put_parts.ensures.others
    (λ a b d p q. foreign_then shelf a b d (foreign_volume shelf a b p) (foreign_images shelf b d q)))
    c.put_volume-2.ensures.others (λ a b d p q. foreign_then shelf a b d p (foreign_volume shelf b d q))
