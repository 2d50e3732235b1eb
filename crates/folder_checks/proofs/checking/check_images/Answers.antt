use Rattle.std.proofs.Common.{sym, subst, map, string_bytes, Global, Some, List, ℕ, length, IfOk}
use Rattle.std.specs.Prelude.{Contains}
use Rattle.std.proofs.lemmas.List.{length-map}
use Rattle.vol_units.specs.Name.{IsName}
use Rattle.folder_checks.specs.Told.{Told}
use Rattle.folder_checks.specs.Images.{IsImageCheck}
use Rattle.folder_checks.specs.Snapshots.{AreSnapshots}
use Rattle.folder_checks.specs.Checks.{AreGood, HasBadSnapshot}
use Rattle.folder_checks.specs.Finding.{AreKnownImages}
use Rattle.folder_checks.proofs.ToldLemmas.{bad_is, good_is}
use Rattle.folder_checks.proofs.FolderLemmas.{head_fault, head_good, snapshot_fault, all_good, all_known}
use Rattle.folder_checks.proofs.checking.check_images.Goals as goal

pub returns-in-Bad-clause-told : goal.returns-in-Bad-clause-told
returns-in-Bad-clause-told g c =
    let a = g.S.Shelves.holds c.args.shelves.now in
    let shelf = c.args.shelf in
    let size = c.args.size in
    let blocks = c.args.block_count in
    head_fault a shelf size blocks c.in_ok-image.image c.args.volume (string_bytes c.in-Bad.damage.file) c.in-Bad.damage.place
    c.in_ok-image.ensures c.requires.given c.requires.told
    (subst (λ x. Told a (λ files. IsImageCheck (files shelf) size blocks c.in_ok-image.image (Some c.args.volume) x)) c.in-Bad.is
    c.in_ok-parts.ensures.told)

pub check_snapshots-requires : goal.check_snapshots-requires
check_snapshots-requires g c =
    subst (λ l. (name : List ℕ) → Contains (map (string_bytes {Z = Global}) l) name → IsName name) (sym c.as_slice.ensures.value)
    c.in_ok-names.ensures.spelled

pub returns-in-Err-clause-told : goal.returns-in-Err-clause-told
returns-in-Err-clause-told g c =
    let text = string_bytes {Z = Global} in
    let a = g.S.Shelves.holds c.args.shelves.now in
    let b = g.S.Shelves.holds c.image_check.new.shelves in
    let d = g.S.Shelves.holds c.snapshot_names.new.shelves in
    let shelf = c.args.shelf in
    let size = c.args.size in
    let blocks = c.args.block_count in
    let image = c.in_ok-image.image in
    let good = head_good a shelf size blocks image c.args.volume c.in-Good.parts c.in_ok-image.ensures c.requires.given c.requires.told
    (subst (λ x. Told a (λ files. IsImageCheck (files shelf) size blocks image (Some c.args.volume) x)) c.in-Good.is
    c.in_ok-parts.ensures.told) in
    let sliced = c.as_slice.result.now in
    let listed = subst (λ l. Told b (λ files. AreSnapshots (files shelf) (map text l))) (sym c.as_slice.ensures.value)
    c.in_ok-names.ensures.told in
    snapshot_fault a b d shelf size blocks c.args.volume c.in-Good.parts (map text sliced) (string_bytes c.in-Err.damage.file)
    c.in-Err.damage.place c.in_ok-parts.ensures.same c.in_ok-names.ensures.same c.requires.given.count good listed
    (bad_is c.in_ok-damage.field-0 c.in-Err.damage d
    (λ files parts. AreGood (files shelf) size blocks (map text sliced) (length sliced) parts.items)
    (λ files damage. HasBadSnapshot (files shelf) size blocks (map text sliced) (string_bytes damage.file) damage.place)
    c.in-Err.is c.in_ok-damage.ensures.told)

pub returns-in-Ok-clause-told : goal.returns-in-Ok-clause-told
returns-in-Ok-clause-told g c =
    let text = string_bytes {Z = Global} in
    let a = g.S.Shelves.holds c.args.shelves.now in
    let b = g.S.Shelves.holds c.image_check.new.shelves in
    let d = g.S.Shelves.holds c.snapshot_names.new.shelves in
    let shelf = c.args.shelf in
    let size = c.args.size in
    let blocks = c.args.block_count in
    let image = c.in_ok-image.image in
    let good = head_good a shelf size blocks image c.args.volume c.in-Good.parts c.in_ok-image.ensures c.requires.given c.requires.told
    (subst (λ x. Told a (λ files. IsImageCheck (files shelf) size blocks image (Some c.args.volume) x)) c.in-Good.is
    c.in_ok-parts.ensures.told) in
    let sliced = c.as_slice.result.now in
    let names = c.in_ok-names.names.items in
    let fine = good_is c.in_ok-damage.field-0 c.in-Ok.snapshots d
    (λ files parts. AreGood (files shelf) size blocks (map text sliced) (length sliced) parts.items)
    (λ files damage. HasBadSnapshot (files shelf) size blocks (map text sliced) (string_bytes damage.file) damage.place)
    c.in-Ok.is c.in_ok-damage.ensures.told in
    all_good a b d shelf size blocks (length names) c.args.volume c.in-Good.parts (map text names) c.in-Ok.snapshots.items
    c.in_ok-parts.ensures.same c.in_ok-names.ensures.same (sym (length-map names text)) c.requires.given.count good
    c.in_ok-names.ensures.told
    (subst (λ l. Told d (λ files. AreGood (files shelf) size blocks (map text l) (length l) c.in-Ok.snapshots.items))
    c.as_slice.ensures.value fine)

pub returns-in-Ok-clause-known : goal.returns-in-Ok-clause-known
returns-in-Ok-clause-known g c =
    let text = string_bytes {Z = Global} in
    let blocks = c.args.block_count in
    let sliced = c.as_slice.result.now in
    let found = subst (λ f. IfOk f (λ parts. AreKnownImages blocks (map text sliced) (length sliced) parts.items)) c.in-Ok.is
    c.in_ok-damage.ensures.known in
    all_known c.args.size blocks c.in_ok-image.image c.in_ok-parts.field-0
    (record { volume = c.args.volume; head = c.in-Good.parts; names = c.in_ok-names.names; snapshots = c.in-Ok.snapshots })
    c.requires.given c.in_ok-image.ensures c.in-Good.is c.in_ok-parts.ensures.known c.in_ok-names.ensures.spelled
    c.in_ok-names.ensures.rising
    (subst (λ l. AreKnownImages blocks (map text l) (length l) c.in-Ok.snapshots.items) c.as_slice.ensures.value found)
