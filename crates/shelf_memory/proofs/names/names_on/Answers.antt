use Rattle.std.proofs.Common.{◌<◌, arith, map, string_bytes, Global, length}
use Rattle.shelf_memory.proofs.KeptLemmas.{kept_is}
use Rattle.shelf_memory.proofs.NameLemmas.{lists_more, lists_all}
use Rattle.shelf_memory.proofs.names.names_on.Goals as goal

pub loop-place-preserved : goal.loop-place-preserved
loop-place-preserved c =
    let text = string_bytes {Z = Global} in
    let files = c.args.files.now in
    let place = c.loop-place.place in
    let within : place < length files = omega arith in
    let found = kept_is files place c.index-files-place.result within c.index-files-place.is in
    lists_more c.args.shelf files place c.index-files-place.result (map text c.loop-place.names.items)
    (map text c.add_name.new.names.items) within found c.in_ok-add_name.ensures c.loop-place.invariant

pub returns : goal.returns
returns c =
    let names = map (string_bytes {Z = Global}) c.loop-place.names.items in
    lists_all c.args.shelf c.args.files.now c.loop-place.place names (omega arith) c.loop-place.invariant
