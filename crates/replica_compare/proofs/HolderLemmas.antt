-- Where no holder reads otherwise at a block, all layers and the heads read the same there.
use Rattle.std.proofs.Common.{◌≡◌, inl, inr, ⊎_elim, ℕ, zero, suc, ◌+◌, ◌/◌, ◌<◌, ◌≤◌, Bool, true, false}
use Rattle.std.proofs.Common.{List, length, Option, Some, None, refl, sym, ap, subst, ◌∙◌, arith, not, below_more}
use Rattle.std.specs.Prelude.{IsTrue, ◌↔◌, slice_set, slice_index_or}
use Rattle.std.proofs.lemmas.Bool.{false≢true}
use Rattle.std.proofs.lemmas.List.{length-set, get_or-set_same, get_or-set_other}
use Rattle.replica_node.specs.Node.{Node, IsKept}
use Rattle.replica_node.specs.Held.{block_of, read_below}
use Rattle.replica_node.specs.Fold.{is_in}
use Rattle.replica_node.specs.Places.{kept_at}
use Rattle.replica_node.proofs.OwnLemmas.{is_in-same}
use Rattle.replica_compare.specs.declared.twins.Twin.{Twin}
use Rattle.replica_compare.specs.declared.holders.Holders.{Holders}
use Rattle.replica_compare.specs.Comparing.{ReadsAlikeAt}
use Rattle.replica_compare.specs.Blocks.{IsPair, AreTwins, AllAlikeAt, DiffersAt}
use Rattle.replica_compare.specs.Holders.{NeitherHas, AreBare, AreHolders, IsSettled, AreHeadsSettled}
use Rattle.replica_compare.proofs.ShapeLemmas.{kept_place}
use Rattle.replica_compare.proofs.ReadLemmas.{FallsHere, both_fall, alike_at, parent_older, block_length, is_named, named_place}

-- what is asked of two replicas that are alike in shape, and of one block
pub record AtBlock (a b : Node) (block : ℕ) (twins : List Twin) : Type 0 where
  pub pair : IsPair a b
  pub stand : AreTwins a b (length a.layers) twins
  pub inside : block < pair.count

-- what is known of a layer's parent is known of the layer
as_parent : (a b : Node) (block place : ℕ) (twins : List Twin) → AtBlock a b block twins → place < length a.layers
    → NeitherHas a b (kept_at a.layers place).meta.name block
    → ((older : ℕ) → place < older → older < length a.layers → ReadsAlikeAt a b (Some (kept_at a.layers older).meta.name) block)
    → ReadsAlikeAt a b (Some (kept_at a.layers place).meta.name) block
as_parent a b block place twins at less neither olders = by_parent (kept_at a.layers place).meta.parent refl
  where
    fall : FallsHere a b block place
    fall = both_fall a b block place (slice_index_or twins place (record { other = 0; parent = None }))
        (record { pair = at.pair; stands = at.stand.each place less; within = less; inside = at.inside }) neither

    by_parent : (on : Option (List ℕ)) → (kept_at a.layers place).meta.parent ≡ on
        → ReadsAlikeAt a b (Some (kept_at a.layers place).meta.name) block
    by_parent None is = fall.one ∙ ap (λ on. read_below a.layers on block) is
        ∙ ap (λ on. read_below b.layers on block) (sym is) ∙ sym fall.two
    by_parent (Some name) is =
        let older = parent_older a.layers at.pair.count block place name at.pair.chained.layers at.inside less fall.absent is in
        let same = subst (λ n. ReadsAlikeAt a b (Some n) block) older.3 (olders older.0 older.1 older.2) in
        fall.one ∙ ap (λ on. read_below a.layers on block) is ∙ same ∙ ap (λ on. read_below b.layers on block) (sym is) ∙ sym fall.two

-- from the oldest on
alike_from : (a b : Node) (block : ℕ) (twins : List Twin) → AtBlock a b block twins
    → ((place : ℕ) → place < length a.layers → IsSettled a b (kept_at a.layers place).meta.name block)
    → (left place : ℕ) → length a.layers ≤ place + left → place < length a.layers
    → ReadsAlikeAt a b (Some (kept_at a.layers place).meta.name) block
alike_from a b block twins at settled zero place all less = absurd (omega (arith, all, less))
alike_from a b block twins at settled (suc left) place all less =
    ⊎_elim (λ same. same)
    (λ neither. as_parent a b block place twins at less neither
    (λ older later within. alike_from a b block twins at settled left older (omega (arith, all, later)) within))
    (settled place less)

layers_alike : (a b : Node) (block : ℕ) (twins : List Twin) → AtBlock a b block twins
    → ((place : ℕ) → place < length a.layers → IsSettled a b (kept_at a.layers place).meta.name block)
    → (name : List ℕ) → IsKept a (Some name) → ReadsAlikeAt a b (Some name) block
layers_alike a b block twins at settled name kept =
    let here = kept_place a.layers name kept in
    subst (λ n. ReadsAlikeAt a b (Some n) block) here.2
    (alike_from a b block twins at settled (length a.layers) here.0 (omega arith) here.1)

-- the heads, where all layers read the same
heads_alike : (a b : Node) (block : ℕ) (pair : IsPair a b) → block < pair.count
    → ((place : ℕ) → place < length a.layers → ReadsAlikeAt a b (Some (kept_at a.layers place).meta.name) block)
    → AreHeadsSettled a b block → ReadsAlikeAt a b None block
heads_alike a b block pair inside layers (inl same) = same
heads_alike a b block pair inside layers (inr neither) = by_parent a.on refl
  where
    one : block_of a.disk block ≡ read_below a.layers a.on block
    one = pair.chained.head.below block inside neither.0

    two : block_of b.disk block ≡ read_below b.layers a.on block
    two = pair.chained_other.head.below block inside neither.1 ∙ ap (λ on. read_below b.layers on block) (sym pair.shape.on)

    by_parent : (on : Option (List ℕ)) → a.on ≡ on → block_of a.disk block ≡ block_of b.disk block
    by_parent None is = one ∙ ap (λ on. read_below a.layers on block) is
        ∙ ap (λ on. read_below b.layers on block) (sym is) ∙ sym two
    by_parent (Some name) is =
        let whole : length (read_below a.layers (Some name) block) ≡ 4096 =
        ap length (sym (one ∙ ap (λ on. read_below a.layers on block) is))
        ∙ block_length a.disk pair.count block pair.chained.head.size inside in
        let at = named_place a.layers name (is_named a.layers name block whole) in
        let same = subst (λ n. ReadsAlikeAt a b (Some n) block) at.2 (layers at.0 at.1) in
        one ∙ ap (λ on. read_below a.layers on block) is ∙ same ∙ ap (λ on. read_below b.layers on block) (sym is) ∙ sym two

pub all_settled : (a b : Node) (block : ℕ) (twins : List Twin) → AtBlock a b block twins
    → ((place : ℕ) → place < length a.layers → IsSettled a b (kept_at a.layers place).meta.name block)
    → AreHeadsSettled a b block → AllAlikeAt a b block
all_settled a b block twins at settled heads None kept =
    heads_alike a b block at.pair at.inside
    (λ place less. alike_from a b block twins at settled (length a.layers) place (omega arith) less) heads
all_settled a b block twins at settled heads (Some name) kept = layers_alike a b block twins at settled name kept

-- where each holder of the page of a block is settled, each layer is
pub holders_settled : (a b : Node) (block : ℕ) (h : Holders) → AreHolders a b (block / 512) (length a.layers) h
    → ((i : ℕ) → i < h.count → IsSettled a b (kept_at a.layers (slice_index_or h.places i 0)).meta.name block)
    → (place : ℕ) → place < length a.layers → IsSettled a b (kept_at a.layers place).meta.name block
holders_settled a b block h holders settled place less =
    ⊎_elim (λ holds. subst (λ k. IsSettled a b (kept_at a.layers k).meta.name block) holds.2 (settled holds.0 holds.1))
    (λ passes. inr (passes block (is_in-same (block / 512) block refl)))
    (holders.each place less)

-- what does not read otherwise is settled
pub not_differs : (a b : Node) (block : ℕ) (name : List ℕ) (t : Bool) → IsKept a (Some name)
    → IsTrue t ↔ DiffersAt a b block name → not t ≡ true → IsSettled a b name block
not_differs a b block name true kept tells e = absurd (false≢true e)
not_differs a b block name false kept tells e =
    inl (alike_at a b (Some name) block (λ other. false≢true (tells.1 (kept, other))))

-- ---- one layer more

pub bare_more : (a b : Node) (count : ℕ) (bare : List Bool) (t : Bool) → count < length a.layers
    → (t ≡ true → (block : ℕ) → NeitherHas a b (kept_at a.layers count).meta.name block)
    → AreBare a b count bare → AreBare a b (count + 1) (slice_set bare count t)
bare_more a b count bare t less here had = record {
  room = subst (λ n. length a.layers ≤ n) (sym (length-set bare count t)) had.room;
  each = below_more _ _
      (λ place before is. had.each place before (sym (get_or-set_other bare count place t false
      (λ same. absurd (omega (arith, before, same)))) ∙ is))
      (λ is. here (sym (get_or-set_same bare count t false (omega (arith, less, had.room))) ∙ is));
}

-- the layer has no block of the page
pub passed_more : (a b : Node) (page count : ℕ) (h : Holders)
    → ((block : ℕ) → is_in page block ≡ true → NeitherHas a b (kept_at a.layers count).meta.name block)
    → AreHolders a b page count h → AreHolders a b page (count + 1) h
passed_more a b page count h here had = record {
  few = omega (arith, had.few);
  room = had.room;
  within = had.within;
  each = below_more _ _ had.each (inr here);
}

-- it is one more holder
pub held_more : (a b : Node) (page count : ℕ) (h : Holders) → count < length a.layers → AreHolders a b page count h
    → AreHolders a b page (count + 1) (record { places = slice_set h.places h.count count; count = h.count + 1 })
held_more a b page count h less had = record {
  few = omega (arith, had.few);
  room = subst (λ n. length a.layers ≤ n) (sym (length-set h.places h.count count)) had.room;
  within = below_more _ _ (λ i before. subst (λ p. p < length a.layers) (sym (others i before)) (had.within i before))
      (subst (λ p. p < length a.layers) (sym last) less);
  each = below_more _ _
      (λ place before. ⊎_elim (λ holds. inl (holds.0, omega (arith, holds.1), others holds.0 holds.1 ∙ holds.2)) inr
      (had.each place before))
      (inl (h.count, omega arith, last));
}
  where
    last : slice_index_or (slice_set h.places h.count count) h.count 0 ≡ count
    last = get_or-set_same h.places h.count count 0 (omega (arith, less, had.few, had.room))

    others : (i : ℕ) → i < h.count → slice_index_or (slice_set h.places h.count count) i 0 ≡ slice_index_or h.places i 0
    others i before = get_or-set_other h.places h.count i count 0 (λ same. absurd (omega (arith, before, same)))
