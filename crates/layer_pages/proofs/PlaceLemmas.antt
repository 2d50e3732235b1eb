-- What the layers at places have is what those of their names have.
use Rattle.std.proofs.Common.{◌≡◌, ℕ, zero, suc, ◌<◌, true, false, cond, List, [], ◌∷◌, length, map, get_or}
use Rattle.std.proofs.Common.{sym, ap, subst, ◌∙◌, arith}
use Rattle.std.specs.Str.{bytes_eq}
use Rattle.std.proofs.lemmas.Bool.{false≢true, or_left, or_right}
use Rattle.std.proofs.lemmas.List.{get_or-map, length-map}
use Rattle.volume_model.specs.Names.{NamesOnce, has_name}
use Rattle.volume_model.specs.Snapshots.{Snapshot}
use Rattle.coalesce.proofs.ChildLemmas.{same_name, other_name}
use Rattle.replica_node.specs.Node.{Node, Kept}
use Rattle.replica_node.specs.Fold.{own_named, HasOwnOf, HasNoOwnOf}
use Rattle.replica_node.specs.Places.{kept_at}
use Rattle.layer_pages.specs.Pages.{OneHas, NoneHas}
use Rattle.layer_pages.specs.Places.{snapshot_at, ArePlaces, OneHasAt, NoneHasAt}
use Rattle.layer_pages.proofs.ChainLemmas.{told}

name_there : (ks : List Kept) (place : ℕ) → place < length ks → has_name (told ks) (kept_at ks place).meta.name ≡ true
name_there [] place less = absurd (omega (arith, less))
name_there (k ∷ ks) zero less = or_left (bytes_eq k.meta.name k.meta.name) (has_name (told ks) k.meta.name) (same_name k.meta.name)
name_there (k ∷ ks) (suc place) less =
    let name = (kept_at ks place).meta.name in
    or_right (bytes_eq name k.meta.name) (has_name (told ks) name) (name_there ks place (omega (arith, less)))

-- a name that is there is another than that of a layer above
pub apart : (k : Kept) (ks : List Kept) (name : List ℕ) → has_name (told ks) k.meta.name ≡ false → has_name (told ks) name ≡ true
    → bytes_eq name k.meta.name ≡ false
apart k ks name once there =
    other_name name k.meta.name (λ same. false≢true (sym once ∙ ap (has_name (told ks)) same ∙ there))

own_place : (ks : List Kept) (place : ℕ) → NamesOnce (told ks) → place < length ks
    → own_named ks (kept_at ks place).meta.name ≡ (kept_at ks place).own
own_place [] place once less = absurd (omega (arith, less))
own_place (k ∷ ks) zero once less = ap (λ t. cond t k.own (own_named ks k.meta.name)) (same_name k.meta.name)
own_place (k ∷ ks) (suc place) once less =
    let name = (kept_at ks place).meta.name in
    let within : place < length ks = omega (arith, less) in
    ap (λ t. cond t k.own (own_named ks name)) (apart k ks name once.0 (name_there ks place within)) ∙ own_place ks place once.1 within

module _ (node : Node) (chain : List Snapshot) (places : List ℕ) (page : ℕ) (once : NamesOnce (told node.layers))
    (within : ArePlaces node places) (is : map (snapshot_at node.layers) places ≡ chain) where
  own_at_place : (i : ℕ) → i < length places
      → own_named node.layers (snapshot_at node.layers (get_or places i 0)).name ≡ (kept_at node.layers (get_or places i 0)).own
  own_at_place i less = own_place node.layers (get_or places i 0) once (within i less)

  pub one_has : OneHasAt node places page → OneHas node chain page
  one_has (i, less, has) =
      let s = snapshot_at node.layers (get_or places i 0) in
      subst (λ (ss : List Snapshot). OneHas node ss page) is (
        i,
        s,
        omega (arith, less, length-map places (snapshot_at node.layers)),
        get_or-map (snapshot_at node.layers) places i 0 s less,
        subst (λ own. HasOwnOf own page) (sym (own_at_place i less)) has,
      )

  pub none_has : NoneHasAt node places page → NoneHas node chain page
  none_has none = subst (λ (ss : List Snapshot). NoneHas node ss page) is (λ i d less.
      let here : i < length places = omega (arith, less, length-map places (snapshot_at node.layers)) in
      subst (λ (s : Snapshot). HasNoOwnOf (own_named node.layers s.name) page)
      (sym (get_or-map (snapshot_at node.layers) places i 0 d here))
      (subst (λ own. HasNoOwnOf own page) (sym (own_at_place i here)) (none i here)))
