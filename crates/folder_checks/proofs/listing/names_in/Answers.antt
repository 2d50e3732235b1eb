use Rattle.std.proofs.Common.{◌≡◌, ◌<◌, ◌∙◌, sym, ap, arith, map, string_bytes, Global, get_or, [], length}
use Rattle.std.proofs.lemmas.List.{get_or-map, length-map}
use Rattle.folder_checks.proofs.ListingLemmas.{names_more}
use Rattle.folder_checks.proofs.listing.names_in.Goals as goal

pub loop-place-preserved : goal.loop-place-preserved
loop-place-preserved c =
    let text = string_bytes {Z = Global} in
    let files = c.args.files.now in
    let place = c.loop-place.place in
    let within : place < length files = omega arith in
    let size : place < length (map text files) = omega (arith, length-map files text) in
    let item : get_or (map text files) place [] ≡ c.as_str.result.now =
    get_or-map text files place c.index-files-place.result [] within ∙ ap text (sym c.index-files-place.is)
    ∙ sym c.as_str.ensures.value in
    names_more (map text files) place c.as_str.result.now (map text c.loop-place.names.items) (map text c.add_snapshot.new.names.items)
    size item c.in_ok-add_snapshot.ensures c.loop-place.invariant
