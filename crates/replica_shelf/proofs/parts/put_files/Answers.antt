use Rattle.std.proofs.Common.{ap, refl}
use Rattle.replica_node.specs.Places.{disk_at, own_at}
use Rattle.folder_names.specs.Files.{IsImage, IsMap, IsMeta, meta_of, map_of}
use Rattle.replica_shelf.proofs.ClearLemmas.{part_of, part_then}
use Rattle.replica_shelf.proofs.PartLemmas.{part_is}
use Rattle.replica_shelf.proofs.parts.put_files.Goals as goal

pub returns-in_err-put_map-clause-others : goal.returns-in_err-put_map-clause-others
returns-in_err-put_map-clause-others g c =
    part_of c.args.shelf c.args.image.now (map_of c.args.image.now) (g.S.Shelves.holds c.args.shelves.now)
    (g.S.Shelves.holds c.put_map.new.shelves) c.as_str-file.ensures.name (IsMap refl) c.put_map.ensures.others

pub returns-in_err-put_image-clause-others : goal.returns-in_err-put_image-clause-others
returns-in_err-put_image-clause-others g c =
    let image = c.args.image.now in
    part_then c.args.shelf image (g.S.Shelves.holds c.args.shelves.now) (g.S.Shelves.holds c.put_map.new.shelves)
    (g.S.Shelves.holds c.put_image.new.shelves)
    (part_of c.args.shelf image (map_of image) _ _ c.as_str-file.ensures.name (IsMap refl) c.put_map.ensures.others)
    (part_of c.args.shelf image c.as_str-file.result.now _ _ c.as_str-file.ensures.name (IsImage c.as_str-file.ensures.value)
    c.put_image.ensures.others)

pub returns-clause-others : goal.returns-clause-others
returns-clause-others g c =
    let image = c.args.image.now in
    let old = g.S.Shelves.holds c.args.shelves.now in
    let imaged = g.S.Shelves.holds c.put_image.new.shelves in
    let named = c.as_str-file.ensures.name in
    part_then c.args.shelf image old imaged (g.S.Shelves.holds c.put_meta.new.shelves)
    (part_then c.args.shelf image old (g.S.Shelves.holds c.put_map.new.shelves) imaged
    (part_of c.args.shelf image (map_of image) _ _ named (IsMap refl) c.put_map.ensures.others)
    (part_of c.args.shelf image c.as_str-file.result.now _ _ named (IsImage c.as_str-file.ensures.value) c.put_image.ensures.others))
    (part_of c.args.shelf image (meta_of c.args.meta.now.name) _ _ named (IsMeta (ap meta_of c.requires.name)) c.put_meta.ensures.others)

pub returns-clause-ok : goal.returns-clause-ok
returns-clause-ok g c =
    let place = c.args.place in
    part_is c.put_meta.result c.args.shelf c.args.image.now c.as_str-file.result.now c.args.meta.now
    (disk_at c.args.node.now place) (own_at c.args.node.now place) (g.S.Shelves.holds c.args.shelves.now)
    (g.S.Shelves.holds c.put_map.new.shelves) (g.S.Shelves.holds c.put_image.new.shelves) (g.S.Shelves.holds c.put_meta.new.shelves)
    c.as_str-file.ensures.value c.requires.name c.in_ok-put_map.ensures.ok c.in_ok-put_image.ensures.ok c.put_image.ensures.others
    c.put_meta.ensures.ok c.put_meta.ensures.others
