-- One layer of a walk down a chain.
use Rattle.std.proofs.Common.{◌≡◌, ℕ, suc, ◌+◌, ◌<◌, ◌≤◌, true, false, cond, List, [], ◌∷◌, length, map, drop}
use Rattle.std.proofs.Common.{Option, sym, ap, ◌∙◌, arith, add-one}
use Rattle.std.specs.Prelude.{◌||◌}
use Rattle.std.specs.Str.{bytes_eq}
use Rattle.std.proofs.Math.Seq.{drop-cons}
use Rattle.std.proofs.lemmas.List.{drop_all, get_or-map, length-map}
use Rattle.vol_units.specs.Chain.{is_named}
use Rattle.volume_model.specs.Names.{has_name}
use Rattle.volume_model.specs.Snapshots.{Snapshot}
use Rattle.layer_chain.specs.declared.layer.LayerMeta.{LayerMeta}
use Rattle.coalesce.specs.Folding.{snapshot_of}
use Rattle.replica_node.specs.Node.{Kept}
use Rattle.replica_node.specs.Places.{kept_at}
use Rattle.layer_pages.specs.Chains.{chain_in, down_to}
use Rattle.layer_pages.specs.Places.{snapshot_at}

-- the layers as snapshots
abbrev pub told : List Kept → List Snapshot
told ks = map (λ (k : Kept). snapshot_of k.meta) ks

told_from : (ks : List Kept) (i : ℕ) → i < length ks → drop i (told ks) ≡ snapshot_at ks i ∷ drop (i + 1) (told ks)
told_from ks i less =
    let seen = λ (k : Kept). snapshot_of k.meta in
    let within : i < length (told ks) = omega (arith, less, length-map ks seen) in
    drop-cons (told ks) i (snapshot_at ks i) within
    ∙ ap (λ (s : Snapshot). s ∷ drop (suc i) (told ks)) (get_or-map seen ks i _ _ less)
    ∙ ap (λ (n : ℕ). snapshot_at ks i ∷ drop n (told ks)) (sym (add-one i))

-- behind the last layer no chain goes on
pub chain_ends : (ks : List Kept) (i : ℕ) (want : Option (List ℕ)) → length ks ≤ i → chain_in (drop i (told ks)) want ≡ []
chain_ends ks i want all =
    let seen = λ (k : Kept). snapshot_of k.meta in
    ap (λ (ss : List Snapshot). chain_in ss want) (drop_all i (told ks) (omega (arith, all, length-map ks seen)))

module _ (ks : List Kept) (i : ℕ) (want : Option (List ℕ)) (m : LayerMeta) (less : i < length ks) (is : m ≡ (kept_at ks i).meta) where
  abbrev below : Option (List ℕ) → List Snapshot
  below = chain_in (drop (i + 1) (told ks))

  chain_step : chain_in (drop i (told ks)) want ≡ cond (is_named want m.name) (snapshot_of m ∷ below m.parent) (below want)
  chain_step =
      ap (λ (ss : List Snapshot). chain_in ss want) (told_from ks i less)
      ∙ ap (λ (n : LayerMeta). cond (is_named want n.name) (snapshot_of n ∷ below n.parent) (below want)) (sym is)

  -- another layer than the one that is wanted
  pub chain_passes : is_named want m.name ≡ false → chain_in (drop i (told ks)) want ≡ below want
  chain_passes e = chain_step ∙ ap (λ t. cond t (snapshot_of m ∷ below m.parent) (below want)) e

  -- the one that is wanted
  pub chain_takes : is_named want m.name ≡ true → chain_in (drop i (told ks)) want ≡ snapshot_of m ∷ below m.parent
  chain_takes e = chain_step ∙ ap (λ t. cond t (snapshot_of m ∷ below m.parent) (below want)) e

  -- it is the base that is looked for
  pub found_here : (base : List ℕ) → is_named want m.name ≡ true → bytes_eq base m.name ≡ true
      → has_name (chain_in (drop i (told ks)) want) base ≡ true
  found_here base e here =
      ap (λ (ss : List Snapshot). has_name ss base) (chain_takes e) ∙ ap (λ t. t || has_name (below m.parent) base) here

  pub found_below : (base : List ℕ) → is_named want m.name ≡ true → bytes_eq base m.name ≡ false
      → has_name (chain_in (drop i (told ks)) want) base ≡ has_name (below m.parent) base
  found_below base e other =
      ap (λ (ss : List Snapshot). has_name ss base) (chain_takes e) ∙ ap (λ t. t || has_name (below m.parent) base) other

  -- the part above a base ends at it
  pub part_ends : (base : Option (List ℕ)) → is_named want m.name ≡ true → is_named base m.name ≡ true
      → down_to base (chain_in (drop i (told ks)) want) ≡ []
  part_ends base e here =
      ap (down_to base) (chain_takes e) ∙ ap (λ t. cond t [] (snapshot_of m ∷ down_to base (below m.parent))) here

  pub part_takes : (base : Option (List ℕ)) → is_named want m.name ≡ true → is_named base m.name ≡ false
      → down_to base (chain_in (drop i (told ks)) want) ≡ snapshot_at ks i ∷ down_to base (below m.parent)
  part_takes base e other =
      ap (down_to base) (chain_takes e) ∙ ap (λ t. cond t [] (snapshot_of m ∷ down_to base (below m.parent))) other
      ∙ ap (λ (n : LayerMeta). snapshot_of n ∷ down_to base (below m.parent)) is
