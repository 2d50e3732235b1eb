use Rattle.std.proofs.Common.{map, string_bytes, sym, subst, ◌∙◌}
use Rattle.std.specs.Prelude.{Contains}
use Rattle.folder_checks.specs.Snapshots.{metas_of}
use Rattle.folder_layers.proofs.LayerNameLemmas.{parent_fits}
use Rattle.folder_layers.proofs.order.parent_name.Goals as goal

pub layer_name-requires : goal.layer_name-requires
layer_name-requires c =
    (parent_fits (map string_bytes c.args.names.now) (metas_of c.args.snapshots.now) c.requires.listed c.requires.fit
    c.args.layer.now c.in-Some.image c.as_bytes.result.now c.in-Some-snapshot_name.name.now c.requires.stands c.in-Some.is
    (c.as_bytes.ensures.value ∙ c.as_str.ensures.value) c.in-Some-snapshot_name.ensures).0

pub returns-clause-named : goal.returns-clause-named
returns-clause-named c =
    let names = map string_bytes c.args.names.now in
    subst (Contains names) (sym c.layer_name.ensures)
    (parent_fits names (metas_of c.args.snapshots.now) c.requires.listed c.requires.fit
    c.args.layer.now c.in-Some.image c.as_bytes.result.now c.in-Some-snapshot_name.name.now c.requires.stands c.in-Some.is
    (c.as_bytes.ensures.value ∙ c.as_str.ensures.value) c.in-Some-snapshot_name.ensures).1
