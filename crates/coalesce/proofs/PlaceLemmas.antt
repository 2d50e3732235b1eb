-- What is told of layers by name, at their places.
use Rattle.std.proofs.Common.{◌≡◌, ℕ, ◌<◌, true, List, length, Some, sym, refl, ap, ◌∙◌, subst, arith}
use Rattle.std.specs.Prelude.{Any}
use Rattle.std.proofs.lemmas.List.{get_or-map, length-map}
use Rattle.layer_chain.specs.Tree.{Tree, name_of, parent_of, layer_at, IsAt, IsChild, IsNew, IsThere, IsWholeTree, IsParent}
use Rattle.layer_chain.specs.Children.{Stands, IsLeaf, IsOnlyChild}
use Rattle.layer_chain.specs.declared.layer.Layer.{Layer}
use Rattle.layer_chain.specs.declared.children.Child.{Child}
use Rattle.layer_chain.specs.declared.children.Child.TheVariants as child
use Rattle.layer_chain.proofs.FoldLemmas.{child_above}
use Rattle.layer_chain.proofs.TreeLemmas.{one_place, there_at}
use Rattle.layer_chain.proofs.TreeShape.{apart}
use Rattle.volume_model.specs.Purge.{CanFold, CanDrop}
use Rattle.volume_model.specs.Snapshots.{Snapshot}
use Rattle.coalesce.specs.Folding.{snapshot_of, snapshots_in, AreAt}
use Rattle.coalesce.proofs.ChildLemmas.{child_named, child_only, child_none}

module _ (P : Snapshot → Type 0) (t : Tree) where
  pub any_at : Any P (snapshots_in t) → (i : ℕ) × (i < length t.layers) × P (snapshot_of (layer_at t.layers i).meta)
  any_at a =
      let h : a.0 < length t.layers = omega (arith, a.2, length-map t.layers (λ (l : Layer). snapshot_of l.meta)) in
      (a.0, h, subst P (sym a.3 ∙ get_or-map (λ (l : Layer). snapshot_of l.meta) t.layers a.0 _ a.1 h) a.4)

  pub at_any : (i : ℕ) → i < length t.layers → P (snapshot_of (layer_at t.layers i).meta) → Any P (snapshots_in t)
  at_any i h p =
      let s : Snapshot = snapshot_of (layer_at t.layers i).meta in
      let within : i < length (snapshots_in t) = omega (arith, h, length-map t.layers (λ (l : Layer). snapshot_of l.meta)) in
      (i, s, within, get_or-map (λ (l : Layer). snapshot_of l.meta) t.layers i _ s h, p)

-- a name that is told of is a layer's
pub named_there : (t : Tree) (name : List ℕ) (i : ℕ) → i < length t.layers → (layer_at t.layers i).meta.name ≡ name
    → IsThere (Some name) t.layers
named_there t name i h is = there_at t.layers i name _ h is

pub not_there : (t : Tree) (name : List ℕ) → IsNew name t.layers → IsThere (Some name) t.layers → ⊥
not_there t name new there = apart name_of parent_of name name t.layers new there refl

-- ---- p can be folded into c

pub parent_there : (t : Tree) (p c : List ℕ) → CanFold (snapshots_in t) t.on p c → IsThere (Some p) t.layers
parent_there t p c can = let a = any_at (λ m. (m.name ≡ p) × (m.marked ≡ true)) t can.marked in named_there t p a.0 a.1 a.2.0

pub child_there : (t : Tree) (p c : List ℕ) → CanFold (snapshots_in t) t.on p c → IsThere (Some c) t.layers
child_there t p c can = let a = child_named t.layers p c can.child in named_there t c a.place a.within a.named

module _ (t : Tree) (p c : List ℕ) (i j : ℕ) (w : IsWholeTree t) (at : AreAt t.layers p c i j)
    (can : CanFold (snapshots_in t) t.on p c) where
  some_p : Some (name_of (layer_at t.layers i)) ≡ Some p
  some_p = ap (λ (n : List ℕ). Some n) at.parent.named

  on_parent : IsChild t.layers j i
  on_parent =
      let a = child_named t.layers p c can.child in
      let same : a.place ≡ j = one_place t.layers c a.place j w.layers (record { within = a.within; named = a.named }) at.child in
      subst (λ (n : ℕ). parent_of (layer_at t.layers n) ≡ Some p) same a.on ∙ sym some_p

  no_other : (b : Child) → Stands t.layers t.on (length t.layers) i b → b ≡ child.Layer j
  no_other child.Head s = absurd (can.head (s ∙ some_p))
  no_other (child.Layer k) s =
      let named : (layer_at t.layers k).meta.name ≡ c = child_only t.layers p c can.child k s.0 (s.1 ∙ some_p) in
      ap (λ (n : ℕ). child.Layer n) (one_place t.layers c k j w.layers (record { within = s.0; named = named }) at.child)

  pub fold_only : IsOnlyChild t i j
  fold_only = ((at.child.within, on_parent), no_other)

  pub fold_parent : IsParent t.layers i j
  fold_parent = record {
    within = at.parent.within;
    older = child_above t i j w at.parent.within fold_only;
    child = on_parent;
  }

-- ---- p can be dropped

pub leaf_there : (t : Tree) (p : List ℕ) → CanDrop (snapshots_in t) t.on p → IsThere (Some p) t.layers
leaf_there t p can = let a = any_at (λ m. (m.name ≡ p) × (m.marked ≡ true)) t can.marked in named_there t p a.0 a.1 a.2.0

no_child : (t : Tree) (p : List ℕ) (i : ℕ) → IsAt t.layers p i → CanDrop (snapshots_in t) t.on p → (b : Child)
    → Stands t.layers t.on (length t.layers) i b → ⊥
no_child t p i at can child.Head s = can.head (s ∙ ap (λ (n : List ℕ). Some n) at.named)
no_child t p i at can (child.Layer k) s = child_none t.layers p can.leaf k s.0 (s.1 ∙ ap (λ (n : List ℕ). Some n) at.named)

pub drop_leaf : (t : Tree) (p : List ℕ) (i : ℕ) → IsAt t.layers p i → CanDrop (snapshots_in t) t.on p → IsLeaf t i
drop_leaf t p i at can = no_child t p i at can
