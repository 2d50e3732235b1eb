use Rattle.std.proofs.Common.{None}
use Rattle.replica_node.specs.Places.{IsPlace}
use Rattle.shelf_traits.specs.Files.{Files}
use Rattle.replica_shelf.specs.Folder.{image_at}
use Rattle.replica_shelf.specs.Saving.{stamps_of, AreWritten, IsClear, OnlyImages}
use Rattle.replica_shelf.proofs.CallLemmas.{both_then, both_and, on_ok}
use Rattle.replica_shelf.proofs.ClearLemmas.{only_images, only_then}
use Rattle.replica_shelf.proofs.PartLemmas.{parts_all, written_stay}
use Rattle.replica_shelf.proofs.parts.put_parts.Goals as goal

pub returns-clause-ok : goal.returns-clause-ok
returns-clause-ok g c =
    let shelf = c.args.shelf in
    let stamps = stamps_of c.args.meta.now in
    let node = c.args.node.now in
    let x = g.S.Shelves.holds c.args.shelves.now in
    let y = g.S.Shelves.holds c.clear.new.shelves in
    let z = g.S.Shelves.holds c.put_layers.new.shelves in
    let w = g.S.Shelves.holds c.put_part.new.shelves in
    let e = c.in_ok-put_part.ensures in
    let Whole : Files → Files → Type 0 = λ a d. AreWritten (IsPlace node) (d shelf) stamps node in
    let Rest : Files → Files → Type 0 = λ b d. IsClear (b shelf) → AreWritten (IsPlace node) (d shelf) stamps node in
    on_ok c.sync.result _ (both_then x w (g.S.Shelves.holds c.sync.new.self) Whole _ Whole
    (both_then x y w _ Rest Whole c.in_ok-clear.ensures.ok
    (both_then y z w _ _ Rest c.in_ok-put_layers.ensures.ok (both_and z w _ _ e.ok e.others)
    (λ b k d layers (part, changes) clear.
    parts_all shelf stamps node k d c.layer_count-count.ensures.once (layers clear) part changes))
    (λ a b d clear rest. rest clear))
    c.sync.ensures.same (λ a d f had same. written_stay shelf stamps node d f (λ file. same shelf file) had))

pub returns-in_err-put_part-clause-others : goal.returns-in_err-put_part-clause-others
returns-in_err-put_part-clause-others g c =
    only_images c.args.shelf (image_at c.args.node.now None) (g.S.Shelves.holds c.args.shelves.now)
    (g.S.Shelves.holds c.clear.new.shelves) (g.S.Shelves.holds c.put_layers.new.shelves)
    (g.S.Shelves.holds c.put_part.new.shelves) c.clear.ensures.others c.put_layers.ensures.others c.put_part.ensures.others

pub returns-clause-others : goal.returns-clause-others
returns-clause-others g c =
    let shelf = c.args.shelf in
    let x = g.S.Shelves.holds c.args.shelves.now in
    let w = g.S.Shelves.holds c.put_part.new.shelves in
    both_then x w (g.S.Shelves.holds c.sync.new.self) (OnlyImages shelf) _ (OnlyImages shelf)
    (only_images shelf (image_at c.args.node.now None) x (g.S.Shelves.holds c.clear.new.shelves)
    (g.S.Shelves.holds c.put_layers.new.shelves) w c.clear.ensures.others c.put_layers.ensures.others c.put_part.ensures.others)
    c.sync.ensures.same (λ a b d before same. only_then shelf a b d before (λ s f other. same s f))
