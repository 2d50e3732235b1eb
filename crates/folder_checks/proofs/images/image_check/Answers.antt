use Rattle.std.proofs.Common.{◌∙◌}
use Rattle.std.specs.Prelude.{string_bytes}
use Rattle.std.specs.Option.{option_copied}
use Rattle.folder_checks.specs.Images.{IsBadMap, IsMapThere, HasLength, HasOtherLength}
use Rattle.folder_checks.proofs.ToldLemmas.{found_is, bad_is, good_is}
use Rattle.folder_checks.proofs.ImageLemmas.{meta_fault, map_fault, length_fault}
use Rattle.folder_checks.proofs.images.image_check.Goals as goal

pub returns-in-None-clause-told : goal.returns-in-None-clause-told
returns-in-None-clause-told g c =
    meta_fault (g.S.Shelves.holds c.args.shelves.now) c.args.shelf c.args.size c.args.block_count c.args.image.now
    (string_bytes c.in_ok-file-in-None.file) (option_copied c.args.head) c.in_ok-good_meta.field-0 c.in-None.is
    c.in_ok-good_meta.ensures.told c.in_ok-file-in-None.ensures

pub returns-in-Err-clause-told : goal.returns-in-Err-clause-told
returns-in-Err-clause-told g c =
    let shelf = c.args.shelf in
    let image = c.args.image.now in
    let blocks = c.args.block_count in
    let b = g.S.Shelves.holds c.good_meta.new.shelves in
    map_fault (g.S.Shelves.holds c.args.shelves.now) b shelf c.args.size blocks c.in-Err.place image (string_bytes c.in_ok-file-in-Err.file)
    (option_copied c.args.head) c.in_ok-good_meta.field-0 c.in-Some.meta c.in_ok-good_meta.ensures.same c.in-Some.is
    c.in_ok-good_meta.ensures.told
    (bad_is c.in_ok-place.field-0 c.in-Err.place b (λ files spans. IsMapThere (files shelf) image blocks spans.items)
    (λ files. IsBadMap (files shelf) image blocks) c.in-Err.is c.in_ok-place.ensures.told)
    c.in_ok-file-in-Err.ensures

pub returns-in_ok-file-in-Some-2-clause-told : goal.returns-in_ok-file-in-Some-2-clause-told
returns-in_ok-file-in-Some-2-clause-told g c =
    let shelf = c.args.shelf in
    let image = c.args.image.now in
    let blocks = c.args.block_count in
    let b = g.S.Shelves.holds c.good_meta.new.shelves in
    let d = g.S.Shelves.holds c.good_map.new.shelves in
    length_fault (g.S.Shelves.holds c.args.shelves.now) b d shelf c.args.size blocks c.in-Some-2.place image
    (string_bytes c.in_ok-file-in-Some-2.file) (option_copied c.args.head) c.in_ok-good_meta.field-0 c.in-Some.meta c.in-Ok.spans.items
    c.in_ok-good_meta.ensures.same c.in_ok-place.ensures.same c.in-Some.is c.in_ok-good_meta.ensures.told
    (good_is c.in_ok-place.field-0 c.in-Ok.spans b (λ files spans. IsMapThere (files shelf) image blocks spans.items)
    (λ files. IsBadMap (files shelf) image blocks) c.in-Ok.is c.in_ok-place.ensures.told)
    (found_is c.in_ok-place-2.field-0 c.in-Some-2.place d (λ files. HasLength (files shelf) image c.args.size)
    (λ files. HasOtherLength (files shelf) image c.args.size) c.in-Some-2.is c.in_ok-place-2.ensures.told)
    (c.in_ok-file-in-Some-2.ensures.ok ∙ c.as_str.ensures.value)
