-- A page of which no layer above a base has a block reads in the copy of the name as in the base's, or as zeros.
use Rattle.std.proofs.Common.{◌≡◌, inl, inr, ℕ, zero, suc, ◌*◌, ◌/◌, ◌<◌, Bool, true, false, cond, List, [], ◌∷◌}
use Rattle.std.proofs.Common.{length, Option, Some, None, refl, sym, ap, ◌∙◌, arith}
use Rattle.std.specs.Prelude.{◌||◌, Contains, IfSome, All}
use Rattle.std.specs.Str.{bytes_eq}
use Rattle.std.proofs.lemmas.Bool.{false≢true, or_left, or_right}
use Rattle.std.proofs.lemmas.Slice.Eq.{bytes_eq-Decides}
use Rattle.vol_units.specs.Chain.{is_named}
use Rattle.volume_model.specs.Names.{NamesOnce, has_name}
use Rattle.volume_model.specs.Snapshots.{Snapshot}
use Rattle.layer_chain.specs.Layers.{Has, StandsOn}
use Rattle.coalesce.specs.Folding.{snapshot_of}
use Rattle.coalesce.proofs.ChildLemmas.{same_name}
use Rattle.replica_node.specs.Node.{Node, Kept, IsKept, has_own, disk_named, layer_names}
use Rattle.replica_node.specs.Fold.{tree_of, own_named}
use Rattle.replica_node.specs.Held.{block_of, read_below, AreChained, IsChained}
use Rattle.replica_node.specs.Shape.{AreLayers}
use Rattle.replica_node.proofs.OwnLemmas.{is_in-same}
use Rattle.layer_pages.specs.Chains.{chain_in, down_to, chain_above, is_over}
use Rattle.layer_pages.specs.Pages.{NoneHas, ArePagesAbove, OthersReadAsBase, page_of, page_below}
use Rattle.layer_pages.proofs.BlockLemmas.{same_page, zero_page}
use Rattle.layer_pages.proofs.ChainLemmas.{told}
use Rattle.layer_pages.proofs.PlaceLemmas.{apart}

-- ---- names that are there

-- the layer, if one is wanted, is there
abbrev IsThere : Option (List ℕ) → List Kept → Type 0
IsThere want ks = IfSome want (λ name. has_name (told ks) name ≡ true)

abbrev HasLayer : List ℕ → List Kept → Type 0
HasLayer = Has (λ (k : Kept). k.meta.name) (λ (k : Kept). k.meta.parent)

has_layer : (ks : List Kept) (name : List ℕ) → HasLayer name ks → has_name (told ks) name ≡ true
has_layer [] name has = absurd has
has_layer (k ∷ ks) name has = elim has [
  | inl here ↦ or_left (bytes_eq name k.meta.name) (has_name (told ks) name) ((bytes_eq-Decides name k.meta.name).1 (sym here))
  | inr older ↦ or_right (bytes_eq name k.meta.name) (has_name (told ks) name) (has_layer ks name older)
]

contained : (ks : List Kept) (name : List ℕ) → Contains (layer_names ks) name → has_name (told ks) name ≡ true
contained [] name (i, less, is) = absurd (omega (arith, less))
contained (k ∷ ks) name (zero, less, is) =
    or_left (bytes_eq name k.meta.name) (has_name (told ks) name) ((bytes_eq-Decides name k.meta.name).1 (sym is))
contained (k ∷ ks) name (suc i, less, is) =
    or_right (bytes_eq name k.meta.name) (has_name (told ks) name) (contained ks name (i, omega (arith, less), is))

-- ---- of all layers, the older ones

-- what is told by the names of these is told by the names of all
record AreAmong (all ks : List Kept) : Type 0 where
  own : (name : List ℕ) → has_name (told ks) name ≡ true → own_named all name ≡ own_named ks name
  disk : (name : List ℕ) → has_name (told ks) name ≡ true → disk_named all name ≡ disk_named ks name

among_older : (all ks : List Kept) (k : Kept) → has_name (told ks) k.meta.name ≡ false → AreAmong all (k ∷ ks) → AreAmong all ks
among_older all ks k once among = record {
  own = λ name there. among.own name (or_right (bytes_eq name k.meta.name) (has_name (told ks) name) there)
      ∙ ap (λ t. cond t k.own (own_named ks name)) (apart k ks name once there);
  disk = λ name there. among.disk name (or_right (bytes_eq name k.meta.name) (has_name (told ks) name) there)
      ∙ ap (λ t. cond t k.disk (disk_named ks name)) (apart k ks name once there);
}

read_among : (all ks : List Kept) (on : Option (List ℕ)) (block : ℕ) → AreAmong all ks → IsThere on ks
    → read_below ks on block ≡ read_below all on block
read_among all ks None block among there = refl
read_among all ks (Some name) block among there = ap (λ d. block_of d block) (sym (among.disk name there))

-- ---- one block

-- none of these snapshots' layers has the block
abbrev NoneOf : List Kept → List Snapshot → ℕ → Type 0
NoneOf all chain block = All (λ (s : Snapshot). has_own (own_named all s.name) block ≡ false) chain

-- the base, if one is given, is in the chain
abbrev IsOn : List Snapshot → Option (List ℕ) → Type 0
IsOn chain base = IfSome base (λ name. has_name chain name ≡ true)

no_chain : (ss : List Snapshot) → chain_in ss None ≡ []
no_chain [] = refl
no_chain (s ∷ ss) = no_chain ss

-- where nothing is wanted there is no base
root : (all : List Kept) (ss : List Snapshot) (base : Option (List ℕ)) (block : ℕ) → IsOn (chain_in ss None) base
    → read_below all None block ≡ read_below all base block
root all ss None block on = refl
root all ss (Some name) block on = absurd (false≢true (sym (ap (λ c. has_name c name) (no_chain ss)) ∙ on))

named : (base : Option (List ℕ)) (name wanted : List ℕ) → is_named base name ≡ true → bytes_eq wanted name ≡ true → base ≡ Some wanted
named None name wanted e h = absurd (false≢true e)
named (Some n) name wanted e h =
    ap (λ (m : List ℕ). Some m) ((bytes_eq-Decides n name).0 e ∙ sym ((bytes_eq-Decides wanted name).0 h))

-- the base is further down
on_older : (s : Snapshot) (chain : List Snapshot) (base : Option (List ℕ)) → is_named base s.name ≡ false → IsOn (s ∷ chain) base
    → IsOn chain base
on_older s chain None other on = tt
on_older s chain (Some name) other on = sym (ap (λ t. t || has_name chain name) other) ∙ on

parent_there : (k : Kept) (ks : List Kept) → AreLayers (k ∷ ks) → IsThere k.meta.parent ks
parent_there k ks layers = go k.meta.parent layers.1
  where
    go : (on : Option (List ℕ)) → StandsOn (λ (k : Kept). k.meta.name) (λ (k : Kept). k.meta.parent) on ks → IsThere on ks
    go None stands = tt
    go (Some name) stands = has_layer ks name stands

-- the layer that is wanted: it is the base, or it reads as its parent
module _ (all ks : List Kept) (k : Kept) (count block : ℕ) (base : Option (List ℕ)) (name : List ℕ) (inside : block < count)
    (among : AreAmong all (k ∷ ks)) (once : NamesOnce (told (k ∷ ks))) (layers : AreLayers (k ∷ ks))
    (chained : AreChained (k ∷ ks) count) (same : bytes_eq name k.meta.name ≡ true) where
  abbrev below : List Snapshot
  below = chain_in (told ks) k.meta.parent

  here : has_name (told (k ∷ ks)) k.meta.name ≡ true
  here = or_left (bytes_eq k.meta.name k.meta.name) (has_name (told ks) k.meta.name) (same_name k.meta.name)

  own_here : own_named all k.meta.name ≡ k.own
  own_here = among.own k.meta.name here ∙ ap (λ t. cond t k.own (own_named ks k.meta.name)) (same_name k.meta.name)

  disk_here : disk_named all name ≡ k.disk
  disk_here = ap (disk_named all) ((bytes_eq-Decides name k.meta.name).0 same) ∙ among.disk k.meta.name here
      ∙ ap (λ t. cond t k.disk (disk_named ks k.meta.name)) (same_name k.meta.name)

  falls : has_own (own_named all k.meta.name) block ≡ false → read_below all (Some name) block ≡ read_below all k.meta.parent block
  falls none =
      ap (λ d. block_of d block) disk_here
      ∙ chained.0.below block inside (ap (λ own. has_own own block) (sym own_here) ∙ none)
      ∙ read_among all ks k.meta.parent block (among_older all ks k once.0 among) (parent_there k ks layers)

  wanted_here : (t : Bool) → is_named base k.meta.name ≡ t → NoneOf all (cond t [] (snapshot_of k.meta ∷ down_to base below)) block
      → IsOn (snapshot_of k.meta ∷ below) base
      → (NoneOf all (down_to base below) block → IsOn below base → read_below all k.meta.parent block ≡ read_below all base block)
      → read_below all (Some name) block ≡ read_below all base block
  wanted_here true is none on down = ap (λ o. read_below all o block) (sym (named base k.meta.name name is same))
  wanted_here false is none on down =
      falls (none zero (snapshot_of k.meta) (omega arith))
      ∙ down (λ i d less. none (suc i) d (omega (arith, less))) (on_older (snapshot_of k.meta) below base is on)

-- the layer of a name, or another one
by_name : (all ks : List Kept) (k : Kept) (name : List ℕ) (block : ℕ) (base : Option (List ℕ)) (upper rest : List Snapshot) (t : Bool)
    → (t || has_name (told ks) name) ≡ true → NoneOf all (down_to base (cond t upper rest)) block → IsOn (cond t upper rest) base
    → (t ≡ true → NoneOf all (down_to base upper) block → IsOn upper base → read_below all (Some name) block ≡ read_below all base block)
    → (has_name (told ks) name ≡ true → NoneOf all (down_to base rest) block → IsOn rest base
    → read_below all (Some name) block ≡ read_below all base block)
    → read_below all (Some name) block ≡ read_below all base block
by_name all ks k name block base upper rest true there none on wanted other = wanted refl none on
by_name all ks k name block base upper rest false there none on wanted other = other there none on

-- where no layer above the base has the block, it reads as in the base
reads_down : (all ks : List Kept) (count block : ℕ) (base want : Option (List ℕ)) → block < count → AreAmong all ks
    → NamesOnce (told ks) → AreLayers ks → AreChained ks count → IsThere want ks
    → NoneOf all (down_to base (chain_in (told ks) want)) block → IsOn (chain_in (told ks) want) base
    → read_below all want block ≡ read_below all base block
reads_down all ks count block base None inside among once layers chained there none on = root all (told ks) base block on
reads_down all [] count block base (Some name) inside among once layers chained there none on = absurd (false≢true there)
reads_down all (k ∷ ks) count block base (Some name) inside among once layers chained there none on =
    let older = among_older all ks k once.0 among in
    by_name all ks k name block base (snapshot_of k.meta ∷ chain_in (told ks) k.meta.parent) (chain_in (told ks) (Some name))
    (bytes_eq name k.meta.name) there none on
    (λ same none_here on_here. wanted_here all ks k count block base name inside among once layers chained same
    (is_named base k.meta.name) refl none_here on_here
    (λ none_below on_below. reads_down all ks count block base k.meta.parent inside older once.1 layers.2 chained.1
    (parent_there k ks layers) none_below on_below))
    (λ there_older none_older on_older. reads_down all ks count block base (Some name) inside older once.1 layers.2 chained.1
    there_older none_older on_older)

-- ---- the replica

-- what is known of any replica
pub record IsReplica (node : Node) (count pages : ℕ) : Type 0 where
  pub once : NamesOnce (tree_of node)
  pub layers : AreLayers node.layers
  pub chained : IsChained node count
  pub blocks : count * 4096 ≡ length node.disk
  pub whole : pages * 2097152 ≡ length node.disk

module _ (node : Node) (count pages page : ℕ) (name : List ℕ) (base : Option (List ℕ)) (is : IsReplica node count pages)
    (kept : IsKept node (Some name)) (over : IfSome base (λ b. is_over (tree_of node) name b ≡ true))
    (inside : page * 2097152 < length node.disk) (none : NoneHas node (chain_above (tree_of node) name base) page) where
  block_below : (block : ℕ) → block / 512 ≡ page → block_of (disk_named node.layers name) block ≡ read_below node.layers base block
  block_below block here =
      reads_down node.layers node.layers count block base (Some name) (omega (arith, here, inside, is.blocks, is.whole))
      (record { own = λ n there. refl; disk = λ n there. refl }) is.once is.layers is.chained.layers
      (contained node.layers name kept) (λ i d less. none i d less block (is_in-same page block here)) over

-- a page of which no layer above the base has a block reads as the base's
pub reads_as_base : (node : Node) (count pages page : ℕ) (name : List ℕ) (base : Option (List ℕ)) → IsReplica node count pages
    → IsKept node (Some name) → IfSome base (λ b. is_over (tree_of node) name b ≡ true) → page * 2097152 < length node.disk
    → NoneHas node (chain_above (tree_of node) name base) page
    → page_of (disk_named node.layers name) page ≡ page_below node base page
reads_as_base node count pages page name None is kept over inside none =
    zero_page (disk_named node.layers name) page (block_below node count pages page name None is kept over inside none)
reads_as_base node count pages page name (Some b) is kept over inside none =
    same_page (disk_named node.layers name) (disk_named node.layers b) page
    (block_below node count pages page name (Some b) is kept over inside none)

pub others_as_base : (node : Node) (count pages : ℕ) (name : List ℕ) (base : Option (List ℕ)) (listed : List ℕ)
    → IsReplica node count pages → IsKept node (Some name) → IfSome base (λ b. is_over (tree_of node) name b ≡ true)
    → ArePagesAbove node name base listed → OthersReadAsBase node name base listed
others_as_base node count pages name base listed is kept over above = λ page inside free.
    reads_as_base node count pages page name base is kept over inside (above.others page inside free)
