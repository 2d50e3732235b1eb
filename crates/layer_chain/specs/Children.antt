-- What stands on a layer.
use Rattle.std.specs.Prelude.{◌≡◌, ◌≢◌, ℕ, ◌<◌, List, length, map, Option, Some}
use Rattle.std.specs.List.{filter}
use Rattle.vol_units.specs.Chain.{is_named}
use Rattle.layer_chain.specs.Tree.{Tree, name_of, parent_of, layer_at, IsChild}
use Rattle.layer_chain.specs.declared.layer.Layer.{Layer}
use Rattle.layer_chain.specs.declared.children.Child.{Child}
use Rattle.layer_chain.specs.declared.children.Child.TheVariants as child
use Rattle.layer_chain.specs.declared.children.Children.{Children}
use Rattle.layer_chain.specs.declared.children.Children.TheVariants as children

-- the names of the layers that stand on that of the name, the newest first
abbrev pub children_named : List Layer → List ℕ → List (List ℕ)
children_named layers name = map name_of (filter (λ l. is_named (parent_of l) name) layers)

-- the head, or one of the first layers, as many as `count`, stands on the layer at p
abbrev pub Stands : List Layer → Option (List ℕ) → ℕ → ℕ → Child → Type 0
Stands layers on count p child.Head = on ≡ Some (name_of (layer_at layers p))
Stands layers on count p (child.Layer c) = (c < count) × IsChild layers c p

-- nothing stands on the layer at p, or that and nothing else, or more than one
abbrev pub Tells : List Layer → Option (List ℕ) → ℕ → ℕ → Children → Type 0
Tells layers on count p children.None = (a : Child) → Stands layers on count p a → ⊥
Tells layers on count p (children.One a) =
    Stands layers on count p a × ((b : Child) → Stands layers on count p b → b ≡ a)
Tells layers on count p children.More =
    (a : Child) × (b : Child) × (a ≢ b) × Stands layers on count p a × Stands layers on count p b

-- and one more layer, which is not yet among them
abbrev pub with_child : Children → ℕ → Children
with_child children.None c = children.One (child.Layer c)
with_child (children.One a) c = children.More
with_child children.More c = children.More

-- nothing stands on the layer at p
abbrev pub IsLeaf : Tree → ℕ → Type 0
IsLeaf t p = Tells t.layers t.on (length t.layers) p children.None

-- the layer at c stands on that at p, and nothing else does
abbrev pub IsOnlyChild : Tree → ℕ → ℕ → Type 0
IsOnlyChild t p c = Tells t.layers t.on (length t.layers) p (children.One (child.Layer c))
