use Rattle.std.proofs.Common.{◌≡◌, ◌<◌, [], map, length, string_bytes, sym, ap, subst, ◌∙◌, arith}
use Rattle.std.proofs.lemmas.List.{get_or-map, length-map}
use Rattle.vol_units.specs.Name.{IsLayerName}
use Rattle.folder_checks.specs.Snapshots.{name_at, metas_of}
use Rattle.folder_checks.specs.declared.parts.ImageParts.{ImageParts}
use Rattle.folder_layers.specs.Layers.{StandsOnOne}
use Rattle.folder_layers.proofs.LayerNameLemmas.{name_fits}
use Rattle.folder_layers.proofs.ParentLemmas.{told_meta}
use Rattle.folder_layers.proofs.order.layer_at.Goals as goal

pub layer_name-requires : goal.layer_name-requires
layer_name-requires c =
    let names = c.args.names.now in
    let metas = metas_of c.args.snapshots.now in
    let place = c.args.place in
    let within : place < length metas = omega (arith, length-map c.args.snapshots.now (λ (p : ImageParts). p.meta), c.requires.within) in
    let inside : place < length names = omega (arith, within, c.requires.listed.count, length-map names string_bytes) in
    let named : name_at (map string_bytes names) place ≡ c.as_bytes.result.now =
    get_or-map string_bytes names place c.index-names-place.result [] inside
    ∙ (ap string_bytes (sym c.index-names-place.is) ∙ sym c.as_bytes.ensures.value) in
    subst IsLayerName named (name_fits (map string_bytes names) metas c.requires.listed c.requires.fit place within)

pub parent_name-requires-clause-stands : goal.parent_name-requires-clause-stands
parent_name-requires-clause-stands c =
    let snapshots = c.args.snapshots.now in
    let within : c.args.place < length (metas_of snapshots) =
    omega (arith, length-map snapshots (λ (p : ImageParts). p.meta), c.requires.within) in
    subst (StandsOnOne (metas_of snapshots)) (told_meta snapshots c.args.place c.index-snapshots-place.result c.requires.within)
    (c.requires.fit.2 c.args.place within).stands
