-- Where snapshots can be layers, their names are names of layers, and that of a parent is one of them.
use Rattle.std.proofs.Common.{◌≡◌, ℕ, ◌<◌, Bool, true, false, List, [], length, Some, inl, inr, refl, sym, subst, ◌∙◌, arith}
use Rattle.std.specs.Prelude.{Contains}
use Rattle.std.proofs.lemmas.List.Elements.{Contains-get_or}
use Rattle.vol_units.specs.Name.{begins_sys, IsLayerName}
use Rattle.chain_meta.specs.ImageNames.{IsSnapshotFile}
use Rattle.chain_meta.specs.declared.disk_meta.DiskMeta.{DiskMeta}
use Rattle.folder_names.proofs.NameLemmas.{snapshots_differ}
use Rattle.folder_checks.specs.Snapshots.{name_at, AreSnapshotMetas}
use Rattle.folder_layers.specs.Layers.{StandsOnOne}
use Rattle.folder_layers.specs.Ordered.{CanBeLayers}
use Rattle.folder_layers.proofs.ParentLemmas.{image_place}

module _ (names : List (List ℕ)) (metas : List DiskMeta) (listed : AreSnapshotMetas names metas) where
  name_there : (place : ℕ) → place < length metas → Contains names (name_at names place)
  name_there place within = Contains-get_or names place [] (omega (arith, listed.count))

  pub name_fits : CanBeLayers names metas → (place : ℕ) → place < length metas → IsLayerName (name_at names place)
  name_fits can place within = go (begins_sys (name_at names place)) refl
    where
      go : (sys : Bool) → begins_sys (name_at names place) ≡ sys → IsLayerName (name_at names place)
      go false is = inl (record { spelled = listed.spelled (name_at names place) (name_there place within); user = is })
      go true is = let below = (can.2 place within).before is in inr (below.0, omega (arith, below.1, can.1), below.2)

  -- the name in the file of a parent is such a name, and one of them
  pub parent_fits : CanBeLayers names metas → (layer : DiskMeta) (image file name : List ℕ) → StandsOnOne metas layer
      → layer.parent ≡ Some image → file ≡ image → IsSnapshotFile name file → IsLayerName name × Contains names name
  parent_fits can layer image file name stands is same named =
      let at = image_place names metas listed image (stands image is) in
      let own : name_at names at.0 ≡ name = snapshots_differ (name_at names at.0) name
      (sym (listed.named at.0 (omega (arith, listed.count, at.1))) ∙ (at.2 ∙ (sym same ∙ named.1))) in
      (subst IsLayerName own (name_fits can at.0 at.1), subst (Contains names) own (name_there at.0 at.1))
