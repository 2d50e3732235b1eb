-- What each replica keeps of its layers: each name once and a layer's, each parent an older layer.
use Rattle.std.proofs.Common.{◌≡◌, inl, inr, ℕ, zero, suc, ◌+◌, ◌*◌, ◌^◌, ◌<◌, ◌≤◌, List, [], ◌∷◌, length}
use Rattle.std.proofs.Common.{Option, Some, refl, sym, ap, subst, arith}
use Rattle.std.specs.Prelude.{All}
use Rattle.layer_chain.specs.Layers.{HasNo, Has, StandsOn}
use Rattle.replica_node.specs.Node.{Node, Kept, IsKept}
use Rattle.replica_node.specs.Places.{kept_at}
use Rattle.replica_node.specs.Shape.{AreLayers}

-- what a replica of so many blocks keeps
pub record IsSoundNode (node : Node) (count : ℕ) : Type 0 where
  pub few : length node.layers + 1 ≤ 250
  pub small : count < 2 ^ 32
  pub size : count * 4096 ≡ length node.disk
  pub own : All (λ (k : Kept). length k.own ≡ count) node.layers
  pub disks : All (λ (k : Kept). length k.disk ≡ length node.disk) node.layers
  pub head_own : length node.own ≡ count
  pub head_kept : IsKept node node.on
  pub layers : AreLayers node.layers

abbrev kept_name : Kept → List ℕ
kept_name k = k.meta.name

abbrev kept_parent : Kept → Option (List ℕ)
kept_parent k = k.meta.parent

abbrev pub name_of : List Kept → ℕ → List ℕ
name_of ks place = (kept_at ks place).meta.name

-- no layer has a name that none has
no_such : (ks : List Kept) (name : List ℕ) → HasNo kept_name kept_parent name ks → (place : ℕ) → place < length ks
    → name_of ks place ≡ name → ⊥
no_such [] name none place less same = omega (arith, less)
no_such (k ∷ ks) name none zero less same = none.0 same
no_such (k ∷ ks) name none (suc place) less same = no_such ks name none.1 place (omega (arith, less)) same

-- no name comes twice
pub one_layer : (ks : List Kept) → AreLayers ks → (i j : ℕ) → i < length ks → j < length ks → name_of ks i ≡ name_of ks j → i ≡ j
one_layer [] tree i j in_i in_j same = absurd (omega (arith, in_i))
one_layer (k ∷ ks) tree zero zero in_i in_j same = refl
one_layer (k ∷ ks) tree zero (suc j) in_i in_j same =
    absurd (no_such ks k.meta.name tree.0 j (omega (arith, in_j)) (sym same))
one_layer (k ∷ ks) tree (suc i) zero in_i in_j same =
    absurd (no_such ks k.meta.name tree.0 i (omega (arith, in_i)) same)
one_layer (k ∷ ks) tree (suc i) (suc j) in_i in_j same =
    ap suc (one_layer ks tree.2 i j (omega (arith, in_i)) (omega (arith, in_j)) same)

-- the place of a name that a layer has
has_place : (ks : List Kept) (name : List ℕ) → Has kept_name kept_parent name ks
    → (i : ℕ) × (i < length ks) × (name_of ks i ≡ name)
has_place [] name has = absurd has
has_place (k ∷ ks) name (inl here) = (0, omega arith, here)
has_place (k ∷ ks) name (inr older) = let at = has_place ks name older in (suc at.0, omega (arith, at.1), at.2)

-- a parent is an older layer
pub parent_older : (ks : List Kept) → AreLayers ks → (place : ℕ) (name : List ℕ) → place < length ks
    → (kept_at ks place).meta.parent ≡ Some name → (older : ℕ) × (place < older) × (older < length ks) × (name_of ks older ≡ name)
parent_older [] tree place name less is = absurd (omega (arith, less))
parent_older (k ∷ ks) tree zero name less is =
    let at = has_place ks name (subst (λ on. StandsOn kept_name kept_parent on ks) is tree.1) in
    (suc at.0, omega arith, omega (arith, at.1), at.2)
parent_older (k ∷ ks) tree (suc place) name less is =
    let at = parent_older ks tree.2 place name (omega (arith, less)) is in
    (suc at.0, omega (arith, at.1), omega (arith, at.2), at.3)
