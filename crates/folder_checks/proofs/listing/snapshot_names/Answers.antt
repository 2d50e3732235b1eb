use Rattle.std.proofs.Common.{arith, subst, map, string_bytes, Global, length}
use Rattle.std.proofs.lemmas.List.{length-map}
use Rattle.folder_checks.specs.Listing.{HasSnapshots}
use Rattle.folder_checks.proofs.ListingLemmas.{told_snapshots, still_named}
use Rattle.folder_checks.proofs.RisingLemmas.{names_left, names_rise}
use Rattle.folder_checks.proofs.listing.snapshot_names.Goals as goal

pub returns-clause-told : goal.returns-clause-told
returns-clause-told g c =
    let text = string_bytes {Z = Global} in
    let files = c.in_ok-files.files.items in
    let unsorted = c.in_ok-names.names.items in
    let sorted = c.sort.new.self.items in
    let names = c.dedup.new.self.items in
    told_snapshots (g.S.Shelves.holds c.args.shelves.now) c.args.shelf (map text files) (map text unsorted) (map text names) (length files)
    c.in_ok-files.ensures.names (omega (arith, length-map files text))
    (subst (λ l. HasSnapshots (map text l) (length l) (map text unsorted)) c.deref.ensures.value c.in_ok-names.ensures)
    (names_left unsorted sorted names c.sort.ensures.permutation c.dedup.ensures.filtered)
    (names_rise sorted names c.in_ok-sort.ensures.sorted c.dedup.ensures.filtered)

pub returns-clause-spelled : goal.returns-clause-spelled
returns-clause-spelled g c =
    let text = string_bytes {Z = Global} in
    let files = c.deref.result.now in
    let unsorted = c.in_ok-names.names.items in
    let names = c.dedup.new.self.items in
    still_named (map text files) (length files) (map text unsorted) (map text names) c.in_ok-names.ensures
    (names_left unsorted c.sort.new.self.items names c.sort.ensures.permutation c.dedup.ensures.filtered)

pub returns-clause-rising : goal.returns-clause-rising
returns-clause-rising g c =
    names_rise c.sort.new.self.items c.dedup.new.self.items c.in_ok-sort.ensures.sorted c.dedup.ensures.filtered
