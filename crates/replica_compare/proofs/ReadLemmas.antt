-- What layers read as at a block, whether they have it themselves or not, and the first reading that differs.
use Rattle.std.proofs.Common.{◌≡◌, ◌≢◌, ⊎_elim, ℕ, zero, suc, ◌+◌, ◌-◌, ◌*◌, ◌<◌, ◌≤◌, Bool, true}
use Rattle.std.proofs.Common.{false, cond, ◌||◌, List, [], ◌∷◌, ◌++◌, length, take, drop, Option}
use Rattle.std.proofs.Common.{Some, None, refl, sym, ap, subst, ◌∙◌, arith, below_more}
use Rattle.std.specs.Prelude.{IsTrue, ◌↔◌, MatchOption, slice_set, slice_index_or}
use Rattle.std.specs.Str.{bytes_eq}
use Rattle.std.specs.Cmp.Lexicographic.{slice_cmp}
use Rattle.std.specs.Ordering.{nat_cmp, is_lt, ordering_reverse}
use Rattle.std.specs.declared.cmp.Ordering.{Ordering}
use Rattle.std.specs.declared.cmp.Ordering.TheVariants as order
use Rattle.std.proofs.lemmas.Cmp.{nat_list_cmp_total}
use Rattle.std.proofs.lemmas.Map.Lookups.{exact_bytes}
use Rattle.std.proofs.lemmas.Bool.{false≢true}
use Rattle.std.proofs.lemmas.List.{take_all, length-take, length-drop, length-set, get_or-set_same, get_or-set_other}
use Rattle.std.proofs.lemmas.Slice.Eq.{bytes_eq-Decides}
use Rattle.vol_units.proofs.BytesLemmas.{take-slice}
use Rattle.volume_model.specs.Names.{NamesOnce, has_name}
use Rattle.volume_model.specs.Purge.{is_before}
use Rattle.volume_model.proofs.PurgeLemmas.{before_trans}
use Rattle.coalesce.proofs.ChildLemmas.{same_name, other_name}
use Rattle.replica_node.specs.Node.{Node, Kept, IsKept, has_own, disk_named, disk_of_layer}
use Rattle.replica_node.specs.Fold.{tree_of, own_named}
use Rattle.replica_node.specs.Held.{block_of, own_block, read_below, AreChained, IsChained}
use Rattle.replica_node.specs.Places.{kept_at}
use Rattle.replica_compare.specs.declared.twins.Twin.{Twin}
use Rattle.replica_compare.specs.Comparing.{shape_in, layer_before, comes_before, ReadsAlikeAt, ReadsAlike}
use Rattle.replica_compare.specs.Comparing.{ReadsOtherwise, AreAlike, IsFirstReading, AreLayersAlike}
use Rattle.replica_compare.specs.Least.{IsLesser, Stays, Falls, IsLeastOf}
use Rattle.replica_compare.specs.Blocks.{IsPair, IsParentAt, IsTwin, DiffersAt, TellsFrom, told_of, AllAlikeAt}
use Rattle.replica_compare.specs.Blocks.{IsFirstAt, IsFirstBelow, stands_before}
use Rattle.replica_compare.specs.Holders.{NeitherHas}
use Rattle.replica_compare.proofs.OrderLemmas.{snapshots, place_named}
use Rattle.replica_compare.proofs.ShapeLemmas.{place_kept, kept_place, kept_other, from_more, known}

-- ---- blocks make disks

whole_block : (x : List ℕ) (k : ℕ) → block_of x k ≡ take 4096 (drop (k * 4096) x)
whole_block x k = let size : k * 4096 + 4096 - k * 4096 ≡ 4096 = omega arith in ap (λ m. take m (drop (k * 4096) x)) size

fronts : (x y : List ℕ) (n : ℕ) → ((k : ℕ) → k < n → block_of x k ≡ block_of y k) → take (n * 4096) x ≡ take (n * 4096) y
fronts x y zero same = refl
fronts x y (suc n) same =
    let more : suc n * 4096 ≡ n * 4096 + 4096 = omega arith in
    let before : take (n * 4096) x ≡ take (n * 4096) y = fronts x y n (λ k less. same k (omega arith)) in
    let here : take 4096 (drop (n * 4096) x) ≡ take 4096 (drop (n * 4096) y) =
    sym (whole_block x n) ∙ same n (omega arith) ∙ whole_block y n in
    ap (λ m. take m x) more ∙ sym (take-slice x (n * 4096) 4096)
    ∙ ap (λ l. l ++ take 4096 (drop (n * 4096) x)) before ∙ ap (λ l. take (n * 4096) y ++ l) here
    ∙ take-slice y (n * 4096) 4096 ∙ ap (λ m. take m y) (sym more)

same_disk : (x y : List ℕ) (n : ℕ) → length x ≤ n * 4096 → length y ≤ n * 4096
    → ((k : ℕ) → k < n → block_of x k ≡ block_of y k) → x ≡ y
same_disk x y n p q same = sym (take_all (n * 4096) x p) ∙ fronts x y n same ∙ take_all (n * 4096) y q

named_size : (ks : List Kept) (name : List ℕ) (count : ℕ) → AreChained ks count → length (disk_named ks name) ≤ count * 4096
named_size [] name count chained = omega arith
named_size (k ∷ ks) name count chained = by_test (bytes_eq name k.meta.name) chained.0.size (named_size ks name count chained.1)
  where
    by_test : (t : Bool) → length k.disk ≡ count * 4096 → length (disk_named ks name) ≤ count * 4096
        → length (cond t k.disk (disk_named ks name)) ≤ count * 4096
    by_test true e rest = omega (arith, e)
    by_test false e rest = rest

layer_size : (node : Node) (layer : Option (List ℕ)) (count : ℕ) → IsChained node count
    → length (disk_of_layer node layer) ≤ count * 4096
layer_size node None count chained = omega (arith, chained.head.size)
layer_size node (Some name) count chained = named_size node.layers name count chained.layers

pub same_readings : (a b : Node) (layer : Option (List ℕ)) (count : ℕ) → IsChained a count → IsChained b count
    → ((block : ℕ) → block < count → ReadsAlikeAt a b layer block) → ReadsAlike a b layer
same_readings a b layer count p q same =
    same_disk (disk_of_layer a layer) (disk_of_layer b layer) count (layer_size a layer count p) (layer_size b layer count q) same

-- ---- what a layer without the block itself reads as

pub block_length : (disk : List ℕ) (count block : ℕ) → length disk ≡ count * 4096 → block < count → length (block_of disk block) ≡ 4096
block_length disk count block size inside = grind (arith, whole_block disk block, length-take, length-drop)

no_block : (block : ℕ) → length (block_of [] block) ≢ 4096
no_block block e = grind (arith, whole_block [] block, length-take, length-drop)

or_false : (a b : Bool) → (a || b) ≡ false → (a ≡ false) × (b ≡ false)
or_false true b e = absurd (false≢true (sym e))
or_false false b e = (refl, e)

not_named : (ks : List Kept) (name : List ℕ) → has_name (snapshots ks) name ≡ false → disk_named ks name ≡ []
not_named [] name e = refl
not_named (k ∷ ks) name e =
    let o = or_false (bytes_eq name k.meta.name) (has_name (snapshots ks) name) e in
    ap (λ t. cond t k.disk (disk_named ks name)) o.0 ∙ not_named ks name o.1

-- what reads as a whole block is there
pub is_named : (ks : List Kept) (name : List ℕ) (block : ℕ) → length (block_of (disk_named ks name) block) ≡ 4096
    → has_name (snapshots ks) name ≡ true
is_named ks name block whole = go (has_name (snapshots ks) name) refl
  where
    go : (t : Bool) → has_name (snapshots ks) name ≡ t → t ≡ true
    go true e = refl
    go false e = absurd (no_block block (sym (ap (λ d. length (block_of d block)) (not_named ks name e)) ∙ whole))

-- one more layer above changes no reading below
under_one : (k : Kept) (ks : List Kept) (on : Option (List ℕ)) (block : ℕ) → has_name (snapshots ks) k.meta.name ≡ false
    → length (read_below ks on block) ≡ 4096 → read_below (k ∷ ks) on block ≡ read_below ks on block
under_one k ks None block once whole = refl
under_one k ks (Some name) block once whole = go (bytes_eq name k.meta.name) refl
  where
    go : (t : Bool) → bytes_eq name k.meta.name ≡ t → block_of (cond t k.disk (disk_named ks name)) block ≡ block_of
        (disk_named ks name) block
    go false e = refl
    go true e =
        let same : name ≡ k.meta.name = (bytes_eq-Decides name k.meta.name).0 e in
        absurd (false≢true (sym once ∙ ap (has_name (snapshots ks)) (sym same) ∙ is_named ks name block whole))

size_at : (ks : List Kept) (count place : ℕ) → AreChained ks count → place < length ks
    → length (kept_at ks place).disk ≡ count * 4096
size_at [] count place chained less = absurd (omega (arith, less))
size_at (k ∷ ks) count zero chained less = chained.0.size
size_at (k ∷ ks) count (suc place) chained less = size_at ks count place chained.1 (omega (arith, less))

through : (ks : List Kept) (count block place : ℕ) → AreChained ks count → NamesOnce (snapshots ks) → block < count
    → place < length ks
    → has_own (kept_at ks place).own block ≡ false → block_of (kept_at ks place).disk block ≡ read_below ks
    (kept_at ks place).meta.parent block
through [] count block place chained once inside less absent = absurd (omega (arith, less))
through (k ∷ ks) count block zero chained once inside less absent =
    let is : block_of k.disk block ≡ read_below ks k.meta.parent block = chained.0.below block inside absent in
    is ∙ sym (under_one k ks k.meta.parent block once.0 (ap length (sym is)
    ∙ block_length k.disk count block chained.0.size inside))
through (k ∷ ks) count block (suc place) chained once inside less absent =
    let within : place < length ks = omega (arith, less) in
    let is : block_of (kept_at ks place).disk block ≡ read_below ks (kept_at ks place).meta.parent block =
    through ks count block place chained.1 once.1 inside within absent in
    is ∙ sym (under_one k ks (kept_at ks place).meta.parent block once.0
    (ap length (sym is) ∙ block_length (kept_at ks place).disk count block (size_at ks count place chained.1 within) inside))

pub named_place : (ks : List Kept) (name : List ℕ) → has_name (snapshots ks) name ≡ true
    → (place : ℕ) × (place < length ks) × ((kept_at ks place).meta.name ≡ name)
named_place [] name e = absurd (false≢true e)
named_place (k ∷ ks) name e = go (bytes_eq name k.meta.name) refl e (named_place ks name)
  where
    go : (t : Bool) → bytes_eq name k.meta.name ≡ t → (t || has_name (snapshots ks) name) ≡ true
        → (has_name (snapshots ks) name ≡ true → (place : ℕ) × (place < length ks) × ((kept_at ks place).meta.name ≡ name))
        → (place : ℕ) × (place < length (k ∷ ks)) × ((kept_at (k ∷ ks) place).meta.name ≡ name)
    go true is e older = (0, omega arith, sym ((bytes_eq-Decides name k.meta.name).0 is))
    go false is e older = let at = older e in (suc at.0, omega (arith, at.1), at.2)

pub parent_older : (ks : List Kept) (count block place : ℕ) (name : List ℕ) → AreChained ks count → block < count → place < length ks
    → has_own (kept_at ks place).own block ≡ false → (kept_at ks place).meta.parent ≡ Some name
    → (older : ℕ) × (place < older) × (older < length ks) × ((kept_at ks older).meta.name ≡ name)
parent_older [] count block place name chained inside less absent is = absurd (omega (arith, less))
parent_older (k ∷ ks) count block zero name chained inside less absent is =
    let whole : length (block_of (disk_named ks name) block) ≡ 4096 =
    ap (λ on. length (read_below ks on block)) (sym is) ∙ ap length (sym (chained.0.below block inside absent))
    ∙ block_length k.disk count block chained.0.size inside in
    let at = named_place ks name (is_named ks name block whole) in
    (suc at.0, omega arith, omega (arith, at.1), at.2)
parent_older (k ∷ ks) count block (suc place) name chained inside less absent is =
    let at = parent_older ks count block place name chained.1 inside (omega (arith, less)) absent is in
    (suc at.0, omega (arith, at.1), omega (arith, at.2), at.3)

-- ---- layers by places and by names

pub disk_place : (ks : List Kept) (place : ℕ) → NamesOnce (snapshots ks) → place < length ks
    → disk_named ks (kept_at ks place).meta.name ≡ (kept_at ks place).disk
disk_place [] place once less = absurd (omega (arith, less))
disk_place (k ∷ ks) zero once less = ap (λ t. cond t k.disk (disk_named ks k.meta.name)) (same_name k.meta.name)
disk_place (k ∷ ks) (suc place) once less =
    let name = (kept_at ks place).meta.name in
    let within : place < length ks = omega (arith, less) in
    let other : k.meta.name ≢ name = λ same. false≢true (sym once.0 ∙ ap (has_name (snapshots ks)) same
    ∙ place_named ks place within) in
    ap (λ t. cond t k.disk (disk_named ks name)) (other_name name k.meta.name other) ∙ disk_place ks place once.1 within

-- which blocks the layer of a name has are told where it stands
own_place : (ks : List Kept) (place : ℕ) → NamesOnce (snapshots ks) → place < length ks
    → own_named ks (kept_at ks place).meta.name ≡ (kept_at ks place).own
own_place [] place once less = absurd (omega (arith, less))
own_place (k ∷ ks) zero once less = ap (λ t. cond t k.own (own_named ks k.meta.name)) (same_name k.meta.name)
own_place (k ∷ ks) (suc place) once less =
    let name = (kept_at ks place).meta.name in
    let within : place < length ks = omega (arith, less) in
    let other : k.meta.name ≢ name = λ same. false≢true (sym once.0 ∙ ap (has_name (snapshots ks)) same
    ∙ place_named ks place within) in
    ap (λ t. cond t k.own (own_named ks name)) (other_name name k.meta.name other) ∙ own_place ks place once.1 within

-- a layer reads as its parent at a block that it has not itself
pub falls : (a : Node) (count block place : ℕ) → IsChained a count → NamesOnce (tree_of a) → block < count → place < length a.layers
    → has_own (kept_at a.layers place).own block ≡ false
    → block_of (disk_named a.layers (kept_at a.layers place).meta.name) block ≡ read_below a.layers
    (kept_at a.layers place).meta.parent block
falls a count block place chained once inside less absent =
    ap (λ d. block_of d block) (disk_place a.layers place once less)
    ∙ through a.layers count block place chained.layers once inside less absent

shape_place : (ks : List Kept) (place : ℕ) → NamesOnce (snapshots ks) → place < length ks
    → shape_in ks (kept_at ks place).meta.name ≡ Some ((kept_at ks place).meta.parent, (kept_at ks place).meta.marked)
shape_place [] place once less = absurd (omega (arith, less))
shape_place (k ∷ ks) zero once less =
    ap (λ t. cond t (Some (k.meta.parent, k.meta.marked)) (shape_in ks k.meta.name)) (same_name k.meta.name)
shape_place (k ∷ ks) (suc place) once less =
    let name = (kept_at ks place).meta.name in
    let within : place < length ks = omega (arith, less) in
    let other : k.meta.name ≢ name = λ same. false≢true (sym once.0 ∙ ap (has_name (snapshots ks)) same
    ∙ place_named ks place within) in
    ap (λ t. cond t (Some (k.meta.parent, k.meta.marked)) (shape_in ks name)) (other_name name k.meta.name other)
    ∙ shape_place ks place once.1 within

one_parent : (a b : Node) (place other : ℕ) → NamesOnce (tree_of a) → NamesOnce (tree_of b) → AreLayersAlike a b
    → place < length a.layers → other < length b.layers → (kept_at b.layers other).meta.name ≡ (kept_at a.layers place).meta.name
    → (kept_at b.layers other).meta.parent ≡ (kept_at a.layers place).meta.parent
one_parent a b place other once once_other alike less less_other name =
    firsts (kept_at b.layers other).meta.parent (kept_at a.layers place).meta.parent
    (kept_at b.layers other).meta.marked (kept_at a.layers place).meta.marked
    (sym (shape_place b.layers other once_other less_other) ∙ ap (shape_in b.layers) name
    ∙ sym (alike (kept_at a.layers place).meta.name) ∙ shape_place a.layers place once less)
  where
    firsts : (p q : Option (List ℕ)) (m n : Bool) → ◌≡◌ {A = Option (Option (List ℕ) × Bool)} (Some (p, m)) (Some (q, n)) → p ≡ q
    firsts p q m n e = let pair : ◌≡◌ {A = Option (List ℕ) × Bool} (p, m) (q, n) = cc in ap (λ x. x.0) pair

-- ---- one layer at one block

-- what is asked of the layers at a place of two replicas that are alike in shape, and of one block
pub record AtPlace (a b : Node) (block place : ℕ) (twin : Twin) : Type 0 where
  pub pair : IsPair a b
  pub stands : IsTwin a b place twin
  pub within : place < length a.layers
  pub inside : block < pair.count

pub absent_own : (h : Bool) (d : List ℕ) → cond h (Some d) None ≡ None → h ≡ false
absent_own true d e = absurd (cc)
absent_own false d e = refl

present_own : (h : Bool) (d x : List ℕ) → cond h (Some d) None ≡ Some x → d ≡ x
present_own true d x e = cc
present_own false d x e = absurd (cc)

pub kept_here : (a b : Node) (block place : ℕ) (twin : Twin) → AtPlace a b block place twin
    → IsKept a (Some (kept_at a.layers place).meta.name)
kept_here a b block place twin at = place_kept a place at.within

pub kept_there : (a b : Node) (block place : ℕ) (twin : Twin) → AtPlace a b block place twin
    → IsKept b (Some (kept_at a.layers place).meta.name)
kept_there a b block place twin at =
    kept_other a b (Some (kept_at a.layers place).meta.name) at.pair.shape.layers (kept_here a b block place twin at)

-- both have the block
pub both_own : (a b : Node) (block place : ℕ) (twin : Twin) (x y : List ℕ) (t : Bool) → AtPlace a b block place twin
    → own_block (kept_at a.layers place).disk (kept_at a.layers place).own block ≡ Some x
    → own_block (kept_at b.layers twin.other).disk (kept_at b.layers twin.other).own block ≡ Some y
    → (IsTrue t ↔ (x ≢ y)) → IsTrue t ↔ DiffersAt a b block (kept_at a.layers place).meta.name
both_own a b block place twin x y t at upper lower tells =
    let one : block_of (disk_named a.layers (kept_at a.layers place).meta.name) block ≡ x =
    ap (λ d. block_of d block) (disk_place a.layers place at.pair.once at.within)
    ∙ present_own (has_own (kept_at a.layers place).own block) (block_of (kept_at a.layers place).disk block) x upper in
    let two : block_of (disk_named b.layers (kept_at a.layers place).meta.name) block ≡ y =
    ap (λ n. block_of (disk_named b.layers n) block) (sym at.stands.name)
    ∙ ap (λ d. block_of d block) (disk_place b.layers twin.other at.pair.once_other at.stands.within)
    ∙ present_own (has_own (kept_at b.layers twin.other).own block) (block_of (kept_at b.layers twin.other).disk block) y lower in (
      (λ yes. (kept_here a b block place twin at, λ same. tells.0 yes (sym one ∙ same ∙ two))),
      (λ differs. tells.1 (λ same. differs.1 (one ∙ same ∙ sym two))),
    )

-- neither has it
pub neither_own : (a b : Node) (block place : ℕ) (twin : Twin) → AtPlace a b block place twin
    → own_block (kept_at a.layers place).disk (kept_at a.layers place).own block ≡ None
    → own_block (kept_at b.layers twin.other).disk (kept_at b.layers twin.other).own block ≡ None
    → NeitherHas a b (kept_at a.layers place).meta.name block
neither_own a b block place twin at upper lower = (
  ap (λ o. has_own o block) (own_place a.layers place at.pair.once at.within)
      ∙ absent_own (has_own (kept_at a.layers place).own block) (block_of (kept_at a.layers place).disk block) upper,
  ap (λ n. has_own (own_named b.layers n) block) (sym at.stands.name)
      ∙ ap (λ o. has_own o block) (own_place b.layers twin.other at.pair.once_other at.stands.within)
      ∙ absent_own (has_own (kept_at b.layers twin.other).own block) (block_of (kept_at b.layers twin.other).disk block) lower,
)

-- then both read as their parents
pub record FallsHere (a b : Node) (block place : ℕ) : Type 0 where
  pub absent : has_own (kept_at a.layers place).own block ≡ false
  pub one : block_of (disk_named a.layers (kept_at a.layers place).meta.name) block
      ≡ read_below a.layers (kept_at a.layers place).meta.parent block
  pub two : block_of (disk_named b.layers (kept_at a.layers place).meta.name) block
      ≡ read_below b.layers (kept_at a.layers place).meta.parent block

pub both_fall : (a b : Node) (block place : ℕ) (twin : Twin) → AtPlace a b block place twin
    → NeitherHas a b (kept_at a.layers place).meta.name block → FallsHere a b block place
both_fall a b block place twin at neither =
    let absent : has_own (kept_at a.layers place).own block ≡ false =
    ap (λ o. has_own o block) (sym (own_place a.layers place at.pair.once at.within)) ∙ neither.0 in
    let absent_other : has_own (kept_at b.layers twin.other).own block ≡ false =
    ap (λ o. has_own o block) (sym (own_place b.layers twin.other at.pair.once_other at.stands.within))
    ∙ ap (λ n. has_own (own_named b.layers n) block) at.stands.name ∙ neither.1 in
    record {
      absent = absent;
      one = falls a at.pair.count block place at.pair.chained at.pair.once at.inside at.within absent;
      two = ap (λ n. block_of (disk_named b.layers n) block) (sym at.stands.name)
          ∙ falls b at.pair.count block twin.other at.pair.chained_other at.pair.once_other at.inside at.stands.within absent_other
          ∙ ap (λ on. read_below b.layers on block)
          (one_parent a b place twin.other at.pair.once at.pair.once_other at.pair.shape.layers at.within at.stands.within at.stands.name);
    }

pub none_own : (a b : Node) (block place : ℕ) (twin : Twin) (differs : List Bool) → AtPlace a b block place twin
    → NeitherHas a b (kept_at a.layers place).meta.name block → TellsFrom a b block (place + 1) differs
    → IsTrue (told_of differs twin.parent) ↔ DiffersAt a b block (kept_at a.layers place).meta.name
none_own a b block place twin differs at neither told =
    by_parent twin.parent at.stands.parent (kept_at a.layers place).meta.parent refl
  where
    fall : FallsHere a b block place
    fall = both_fall a b block place twin at neither

    by_parent : (p : Option ℕ) → IsParentAt a.layers place p → (on : Option (List ℕ)) → (kept_at a.layers place).meta.parent ≡ on
        → IsTrue (told_of differs p) ↔ DiffersAt a b block (kept_at a.layers place).meta.name
    by_parent None free None is = (
      (λ yes. absurd (false≢true yes)),
      (λ other. absurd (other.1 (fall.one ∙ ap (λ on. read_below a.layers on block) is
          ∙ ap (λ on. read_below b.layers on block) (sym is) ∙ sym fall.two))),
    )
    by_parent None free (Some name) is =
        let older = parent_older a.layers at.pair.count block place name at.pair.chained.layers at.inside at.within fall.absent is in
        absurd (free older.0 older.1 older.2 (is ∙ ap Some (sym older.3)))
    by_parent (Some older) stands on is =
        let tells = told.each older (omega (arith, stands.0)) stands.1 in
        let up = ap (λ on. read_below a.layers on block) stands.2 in
        let up_other = ap (λ on. read_below b.layers on block) stands.2 in (
          (λ yes. (
            kept_here a b block place twin at,
            λ same. (tells.0 yes).1
                (sym (fall.one ∙ up) ∙ same ∙ fall.two ∙ up_other),
          )),
          (λ other. tells.1 (
            place_kept a older stands.1,
            λ same. other.1
                (fall.one ∙ up ∙ same ∙ sym (fall.two ∙ up_other)),
          )),
        )

-- ---- all layers at one block

pub tells_more : (a b : Node) (block start : ℕ) (differs : List Bool) (t : Bool) → start < length a.layers
    → IsTrue t ↔ DiffersAt a b block (kept_at a.layers start).meta.name → TellsFrom a b block (start + 1) differs
    → TellsFrom a b block start (slice_set differs start t)
tells_more a b block start differs t less here told = record {
  room = subst (λ n. length a.layers ≤ n) (sym (length-set differs start t)) told.room;
  each = from_more (λ k. k < length a.layers → IsTrue (slice_index_or
      (slice_set differs start t) k false) ↔ DiffersAt a b block (kept_at a.layers k).meta.name) start
      (λ within. subst (λ r. IsTrue r ↔ DiffersAt a b block (kept_at a.layers start).meta.name)
      (sym (get_or-set_same differs start t false (omega (arith, less, told.room)))) here)
      (λ k later within. subst (λ r. IsTrue r ↔ DiffersAt a b block (kept_at a.layers k).meta.name)
      (sym (get_or-set_other differs start k t false (λ same. absurd (omega (arith, later, same))))) (told.each k later within));
}

pub lesser_is : (Differs : List ℕ → Type 0) (t : Bool) (name : List ℕ) (best : Option (List ℕ)) → IsTrue t ↔ Differs name
    → IsLesser Differs name best (cond t (cond (comes_before name best) (Some name) best) best)
lesser_is Differs false name best tells = Stays (λ differs. absurd (false≢true (tells.1 differs)))
lesser_is Differs true name best tells = go (comes_before name best) refl
  where
    go : (before : Bool) → comes_before name best ≡ before → IsLesser Differs name best (cond before (Some name) best)
    go true e = Falls e (tells.0 refl)
    go false e = Stays (λ differs. e)

pub alike_at : (a b : Node) (layer : Option (List ℕ)) (block : ℕ) → ((ReadsAlikeAt a b layer block → ⊥) → ⊥)
    → ReadsAlikeAt a b layer block
alike_at a b layer block not =
    let x = block_of (disk_of_layer a layer) block in
    let y = block_of (disk_of_layer b layer) block in
    ⊎_elim (λ same. same) (λ other. absurd (not other)) (known (bytes_eq x y) x y (bytes_eq-Decides x y))

-- each layer before the least reads the same
before_least : (a b : Node) (block : ℕ) (best : Option (List ℕ)) (name : List ℕ)
    → IsLeastOf (DiffersAt a b block) a.layers 0 None best
    → comes_before name best ≡ true → IsKept a (Some name) → ReadsAlikeAt a b (Some name) block
before_least a b block best name least before kept =
    let at = kept_place a.layers name kept in
    alike_at a b (Some name) block (λ other. false≢true
    (sym (ap (λ n. comes_before n best) (sym at.2) ∙ least.least at.0 (omega arith) at.1
    (subst (DiffersAt a b block) (sym at.2) (kept, other)))
    ∙ before))

pub first_layer : (a b : Node) (block : ℕ) (name : List ℕ) → IsLeastOf (DiffersAt a b block) a.layers 0 None (Some name)
    → IsFirstAt a b block (Some name)
first_layer a b block name least = record {
  kept = (least.differs name refl).0;
  differs =
      (least.differs name refl).1;
  first = first;
}
  where
    first : (other : Option (List ℕ)) → layer_before other (Some name) ≡ true → IsKept a other → ReadsAlikeAt a b other block
    first None before kept = absurd (false≢true before)
    first (Some other) before kept = before_least a b block (Some name) other least before kept

pub first_head : (a b : Node) (block : ℕ) → IsLeastOf (DiffersAt a b block) a.layers 0 None None → (ReadsAlikeAt a b None block → ⊥)
    → IsFirstAt a b block None
first_head a b block least differs = record { kept = tt; differs = differs; first = first }
  where
    first : (other : Option (List ℕ)) → layer_before other None ≡ true → IsKept a other → ReadsAlikeAt a b other block
    first None before kept = absurd (false≢true before)
    first (Some other) before kept = before_least a b block None other least refl kept

pub no_first : (a b : Node) (block : ℕ) → IsLeastOf (DiffersAt a b block) a.layers 0 None None
    → ReadsAlikeAt a b None block → AllAlikeAt a b block
no_first a b block least head None kept = head
no_first a b block least head (Some name) kept = before_least a b block None name least refl kept

-- ---- one block more

before_or : (a b c : List ℕ) → is_before a c ≡ true → is_before b c ≡ false → is_before a b ≡ true
before_or a b c before not = go (slice_cmp nat_cmp a b) refl
  where
    go : (o : Ordering) → slice_cmp nat_cmp a b ≡ o → is_before a b ≡ true
    go order.Less e = ap is_lt e
    go order.Equal e = absurd (false≢true (sym not ∙ ap (λ n. is_before n c) (sym (exact_bytes a b e)) ∙ before))
    go order.Greater e =
        let back : is_before b a ≡ true = ap is_lt (nat_list_cmp_total.antisymm b a ∙ ap ordering_reverse e) in
        absurd (false≢true (sym not ∙ before_trans b a c back before))

layer_or : (x y z : Option (List ℕ)) → layer_before x z ≡ true → layer_before y z ≡ false → layer_before x y ≡ true
layer_or None y z before not = absurd (false≢true before)
layer_or (Some x) None z before not = refl
layer_or (Some x) (Some y) None before not = absurd (false≢true (sym not))
layer_or (Some x) (Some y) (Some z) before not = before_or x y z before not

layer_trans : (x y z : Option (List ℕ)) → layer_before x y ≡ true → layer_before y z ≡ true → layer_before x z ≡ true
layer_trans None y z p q = absurd (false≢true p)
layer_trans (Some x) None z p q = absurd (false≢true q)
layer_trans (Some x) (Some y) None p q = refl
layer_trans (Some x) (Some y) (Some z) p q = before_trans x y z p q

pub none_more : (a b : Node) (count : ℕ) (best : Option (Option (List ℕ) × ℕ)) → AllAlikeAt a b count
    → IsFirstBelow a b count best → IsFirstBelow a b (count + 1) best
none_more a b count best alike had = record {
  found = had.found;
  first = λ other before kept. below_more _ _ (had.first other before kept) (alike other kept);
}

pub later_more : (a b : Node) (count : ℕ) (best : Option (Option (List ℕ) × ℕ)) (layer : Option (List ℕ))
    → IsFirstAt a b count layer
    → stands_before layer best ≡ false → IsFirstBelow a b count best → IsFirstBelow a b (count + 1) best
later_more a b count None layer here not had = absurd (false≢true (sym not))
later_more a b count (Some found) layer here not had = record {
  found = had.found;
  first = λ other before kept. below_more _ _ (had.first other before kept)
      (here.first other (layer_or other layer found.0 before not) kept);
}

pub sooner_more : (a b : Node) (count : ℕ) (best : Option (Option (List ℕ) × ℕ)) (layer : Option (List ℕ))
    → IsFirstAt a b count layer
    → stands_before layer best ≡ true → IsFirstBelow a b count best → IsFirstBelow a b (count + 1) (Some (layer, count))
sooner_more a b count best layer here before had = record {
  found = λ other block e.
      let pair : ◌≡◌ {A = Option (List ℕ) × ℕ} (layer, count) (other, block) = cc in
      let is : layer ≡ other = ap (λ x. x.0) pair in
      let at : count ≡ block = ap (λ x. x.1) pair in
      subst (λ l. IsKept a l × ReadsOtherwise a b l block) is
      (subst (λ k. IsKept a layer × ReadsOtherwise a b layer k) at
      (here.kept, record { differs = here.differs; first = had.first layer before here.kept }));
  first = λ other sooner kept. below_more _ _ (had.first other (over best other before sooner) kept) (here.first other sooner kept);
}
  where
    over : (best : Option (Option (List ℕ) × ℕ)) (other : Option (List ℕ)) → stands_before layer best ≡ true
        → layer_before other layer ≡ true → stands_before other best ≡ true
    over None other before sooner = refl
    over (Some found) other before sooner = layer_trans other layer found.0 sooner before

-- ---- all blocks

pub found_first : (a b : Node) (end : ℕ) (best : Option (Option (List ℕ) × ℕ)) → IsPair a b
    → length a.disk ≤ end * 4096 → IsFirstBelow a b end best
    → MatchOption best (AreAlike a b) (λ found. IsFirstReading a b found.0 found.1)
found_first a b end None pair all had = record {
  shape = pair.shape;
  readings = λ layer kept. same_readings a b layer pair.count pair.chained pair.chained_other
      (λ block inside. had.first layer refl kept block (omega (arith, inside, pair.size, all)));
}
found_first a b end (Some (layer, block)) pair all had =
    let here = had.found layer block refl in
    record {
      alike = pair.shape;
      kept = here.0;
      reads = here.1;
      first = λ other before kept. same_readings a b other pair.count pair.chained pair.chained_other
          (λ k inside. had.first other before kept k (omega (arith, inside, pair.size, all)));
    }
