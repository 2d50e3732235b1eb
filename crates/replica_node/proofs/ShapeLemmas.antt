-- The layers of a replica are a tree, as those of the tree that it is.
use Rattle.std.proofs.Common.{◌≡◌, inl, inr, ℕ, List, [], ◌∷◌, map, Option, Some, None, subst}
use Rattle.layer_chain.specs.Layers.{HasNo, Has, StandsOn, IsTree}
use Rattle.layer_chain.specs.Tree.{Tree, IsWholeTree, name_of, parent_of}
use Rattle.layer_chain.specs.declared.layer.Layer.{Layer}
use Rattle.replica_node.specs.Node.{Kept, Node, kept_in, node_of}
use Rattle.replica_node.specs.Shape.{AreLayers}

abbrev kept_name : Kept → List ℕ
kept_name k = k.meta.name

abbrev kept_parent : Kept → Option (List ℕ)
kept_parent k = k.meta.parent

module _ (layers : List Layer) (count : ℕ) where
  none_kept : (name : List ℕ) (xs : List Layer) → HasNo name_of parent_of name xs
      → HasNo kept_name kept_parent name (map (kept_in layers count) xs)
  none_kept name [] none = tt
  none_kept name (x ∷ xs) none = (none.0, none_kept name xs none.1)

  has_kept : (name : List ℕ) (xs : List Layer) → Has name_of parent_of name xs
      → Has kept_name kept_parent name (map (kept_in layers count) xs)
  has_kept name [] has = absurd has
  has_kept name (x ∷ xs) (inl here) = inl here
  has_kept name (x ∷ xs) (inr older) = inr (has_kept name xs older)

  stands_kept : (on : Option (List ℕ)) (xs : List Layer) → StandsOn name_of parent_of on xs
      → StandsOn kept_name kept_parent on (map (kept_in layers count) xs)
  stands_kept None xs on = tt
  stands_kept (Some name) xs on = has_kept name xs on

  tree_kept : (xs : List Layer) → IsTree name_of parent_of xs → AreLayers (map (kept_in layers count) xs)
  tree_kept [] tree = tt
  tree_kept (x ∷ xs) tree =
      (none_kept (name_of x) xs tree.0, stands_kept (parent_of x) xs tree.1, tree_kept xs tree.2)

pub layers_kept : (t : Tree) (count : ℕ) (node : Node) → node_of t count ≡ node → IsWholeTree t → AreLayers node.layers
layers_kept t count node view whole = subst (λ (n : Node). AreLayers n.layers) view (tree_kept t.layers count t.layers whole.layers)
