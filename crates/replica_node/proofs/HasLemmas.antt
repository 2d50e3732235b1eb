-- Which blocks the layer of a name has are those of its image.
use Rattle.std.proofs.Common.{◌≡◌, ⊎_elim, ℕ, ◌*◌, ◌/◌, ◌<◌, ◌≤◌, ◌^◌, Bool, true, false, not, cond, List, [], ◌∷◌}
use Rattle.std.proofs.Common.{length, map, is_some, refl, sym, ap, ◌∙◌, arith}
use Rattle.std.proofs.lemmas.Bool.{cases_lt}
use Rattle.std.proofs.lemmas.List.{get_or_past}
use Rattle.sparse_image.specs.Image.{Tables, block_at}
use Rattle.sparse_image.proofs.ImageLemmas.{ChangesBlock-past}
use Rattle.layer_chain.specs.Tree.{Tree, name_of, layer_at, IsAt, IsNew, IsWholeTree}
use Rattle.layer_chain.specs.declared.layer.Layer.{Layer}
use Rattle.coalesce.proofs.ChildLemmas.{other_name}
use Rattle.replica_node.specs.Node.{Node, node_of, kept_in, has_own, own_in, IsImageOf, IsNode}
use Rattle.replica_node.specs.Fold.{own_named, HasBlockOf, HasNoBlockOf, HasBlockIn, HasNoBlockIn, IsBare}
use Rattle.sparse_image.proofs.ListedLemmas.{listed-past}
use Rattle.replica_node.proofs.OwnLemmas.{own_at, own_of}
use Rattle.replica_node.proofs.ReadLemmas.{length-node}

-- a block past the image's end is not there
pub none_past : (image : Tables) (block : ℕ) → length image ≤ block / 512 → is_some (block_at image block) ≡ false
none_past image block past = ap is_some (ChangesBlock-past image block (λ b. b) past).0

-- each block is told as the image has it
pub own_is : (image : Tables) (count block : ℕ) → length image * 512 ≡ count
    → has_own (own_in image count) block ≡ is_some (block_at image block)
own_is image count block pages = ⊎_elim
    (λ inside. own_at image count block inside)
    (λ past. listed-past (λ k. is_some (block_at image k)) count block past ∙ sym (none_past image block (omega (arith, past, pages))))
    (cases_lt block count)

-- a name that no layer has has no block
own_absent : (xs layers : List Layer) (count : ℕ) (name : List ℕ) → IsNew name xs → own_named (map (kept_in layers count) xs) name ≡ []
own_absent [] layers count name free = refl
own_absent (x ∷ xs) layers count name free =
    ap (λ b. cond b (own_in x.image count) (own_named (map (kept_in layers count) xs) name)) (other_name name (name_of x) free.0)
    ∙ own_absent xs layers count name free.1

pub bare_absent : (t : Tree) (count : ℕ) (node : Node) (name : List ℕ) → node_of t count ≡ node → IsNew name t.layers
    → IsBare node.layers name
bare_absent t count node name view free = λ block.
    ap (λ o. has_own o block) (sym (ap (λ n. own_named n.layers name) view) ∙ own_absent t.layers t.layers count name free)
    ∙ get_or_past [] block false (omega arith)

-- the image of a layer is one of so many blocks
pub image_is : (t : Tree) (count i : ℕ) → IsNode t count → i < length t.layers → IsImageOf count (layer_at t.layers i).image
image_is t count i n within = n.images i _ within

-- which have numbers of 32 bits
pub few_blocks : (t : Tree) (count : ℕ) (node : Node) (i : ℕ) → node_of t count ≡ node → IsNode t count → i < length t.layers
    → length node.disk ≤ 1073741824 → length (layer_at t.layers i).image * 512 < 2 ^ 32
few_blocks t count node i view n within most =
    omega (arith, (image_is t count i n within).pages, length-node t count node view n)

module _ (t : Tree) (count : ℕ) (node : Node) (name : List ℕ) (i : ℕ) (view : node_of t count ≡ node) (n : IsNode t count)
    (w : IsWholeTree t) (at : IsAt t.layers name i) where
  abbrev image : Tables
  image = (layer_at t.layers i).image

  own_there : (block : ℕ) → has_own (own_named node.layers name) block ≡ is_some (block_at image block)
  own_there block =
      ap (λ o. has_own o block) (sym (ap (λ m. own_named m.layers name) view) ∙ own_of t.layers t.layers count name i w.layers at)
      ∙ own_is image count block (image_is t count i n at.within).pages

  pub has_there : (page : ℕ) → HasBlockIn image page → HasBlockOf node name page
  has_there page has = (has.0, has.1, own_there has.0 ∙ has.2)

  pub none_there_of : (page : ℕ) → HasNoBlockIn image page → HasNoBlockOf node name page
  none_there_of page none = λ block inside. own_there block ∙ none block inside

  pub bare_there : ((block : ℕ) → is_some (block_at image block) ≡ false) → IsBare node.layers name
  bare_there none = λ block. own_there block ∙ none block

-- ---- what a negated answer tells

pub not_false : (b : Bool) → not b ≡ false → b ≡ true
not_false true is = refl
not_false false is = sym is

pub not_true : (b : Bool) → not b ≡ true → b ≡ false
not_true false is = refl
not_true true is = sym is
