-- When two replicas are alike, and their first difference: of layers in byte order of names, the first that only one has or
-- whose parent or mark differs; then the head's parent or number, or the size; then the first layer, the head last, that
-- reads otherwise, and the first block in it.
use Rattle.std.specs.Prelude.{◌≡◌, ◌≢◌, ◌⊎◌, ℕ, ◌<◌, Bool, true, false, List, [], ◌∷◌, length, Option, Some, None}
use Rattle.std.specs.Prelude.{if◌then◌else◌}
use Rattle.std.specs.Str.{bytes_eq}
use Rattle.volume_model.specs.Purge.{is_before}
use Rattle.replica_node.specs.Node.{Node, Kept, IsKept, disk_of_layer}
use Rattle.replica_node.specs.Held.{block_of}
use Rattle.replica_compare.specs.declared.comparing.Difference.{Difference}
use Rattle.replica_compare.specs.declared.comparing.Difference.TheVariants as difference

-- ---- replicas that are alike

-- the parent and the mark of the first layer of the name, if there is one
abbrev pub shape_in : List Kept → List ℕ → Option (Option (List ℕ) × Bool)
shape_in [] name = None
shape_in (k ∷ ks) name = if bytes_eq name k.meta.name then Some (k.meta.parent, k.meta.marked) else shape_in ks name

-- the layers have the same names, and by these the same parents and marks
abbrev pub AreLayersAlike : Node → Node → Type 0
AreLayersAlike a b = (name : List ℕ) → shape_in a.layers name ≡ shape_in b.layers name

-- the layers are alike, the heads have one parent and one number, and both are of one size
pub record IsAlikeInShape (a b : Node) : Type 0 where
  pub layers : AreLayersAlike a b
  pub on : a.on ≡ b.on
  pub number : a.number ≡ b.number
  pub size : length a.disk ≡ length b.disk

-- a layer, or the head where none is named, reads the same in both
abbrev pub ReadsAlike : Node → Node → Option (List ℕ) → Type 0
ReadsAlike a b layer = disk_of_layer a layer ≡ disk_of_layer b layer

-- shapes and readings are equal
pub record AreAlike (a b : Node) : Type 0 where
  pub shape : IsAlikeInShape a b
  pub readings : (layer : Option (List ℕ)) → IsKept a layer → ReadsAlike a b layer

-- ---- the first difference

-- the name comes before that one, and before none, which is the head
abbrev pub comes_before : List ℕ → Option (List ℕ) → Bool
comes_before name None = true
comes_before name (Some other) = is_before name other

-- the layer comes before that one, the head behind all
abbrev pub layer_before : Option (List ℕ) → Option (List ℕ) → Bool
layer_before None layer = false
layer_before (Some name) layer = comes_before name layer

-- the layers of the name differ in their shape
abbrev pub ShapeDiffers : Node → Node → List ℕ → Type 0
ShapeDiffers a b name = shape_in a.layers name ≢ shape_in b.layers name

-- the heads differ in their parent or their number, or the replicas in their size
abbrev pub HeadDiffers : Node → Node → Type 0
HeadDiffers a b = (a.on ≢ b.on) ⊎ (a.number ≢ b.number) ⊎ (length a.disk ≢ length b.disk)

-- the layers of the name, and of no name before, differ in their shape
pub record IsFirstName (a b : Node) (name : List ℕ) : Type 0 where
  pub differs : ShapeDiffers a b name
  pub first : (other : List ℕ) → is_before other name ≡ true → shape_in a.layers other ≡ shape_in b.layers other

-- that layer, or the head, is the first that differs in its shape
abbrev pub IsFirstShape : Node → Node → Option (List ℕ) → Type 0
IsFirstShape a b (Some name) = IsFirstName a b name
IsFirstShape a b None = AreLayersAlike a b × HeadDiffers a b

-- a layer, or the head where none is named, reads the same in both at a block
abbrev pub ReadsAlikeAt : Node → Node → Option (List ℕ) → ℕ → Type 0
ReadsAlikeAt a b layer block = block_of (disk_of_layer a layer) block ≡ block_of (disk_of_layer b layer) block

-- it reads otherwise at the block, and at none before
pub record ReadsOtherwise (a b : Node) (layer : Option (List ℕ)) (block : ℕ) : Type 0 where
  pub differs : ReadsAlikeAt a b layer block → ⊥
  pub first : (before : ℕ) → before < block → ReadsAlikeAt a b layer before

-- all shapes are alike, and the layer is the first that reads otherwise, and the block the first in it
pub record IsFirstReading (a b : Node) (layer : Option (List ℕ)) (block : ℕ) : Type 0 where
  pub alike : IsAlikeInShape a b
  pub kept : IsKept a layer
  pub reads : ReadsOtherwise a b layer block
  pub first : (other : Option (List ℕ)) → layer_before other layer ≡ true → IsKept a other → ReadsAlike a b other

-- that is how they differ first
abbrev pub IsFirstDifference : Node → Node → Difference → Type 0
IsFirstDifference a b (difference.Shape layer) = IsFirstShape a b layer
IsFirstDifference a b (difference.Reads layer block) = IsFirstReading a b layer block
