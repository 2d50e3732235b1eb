-- A run of own blocks more in a map, and all of them.
use Rattle.std.proofs.Common.{◌≡◌, ℕ, ◌+◌, ◌-◌, ◌≤◌, Bool, true, false, List, [], ◌∷◌, ◌++◌, length, refl, sym, ap, subst, ◌∙◌, arith}
use Rattle.std.specs.Prelude.{◌&&◌, ◌||◌, nat_lt}
use Rattle.std.proofs.lemmas.Grind.{common_steps}
use Rattle.std.proofs.lemmas.List.{get_or_past}
use Rattle.image_maps.specs.Maps.{is_within}
use Rattle.image_maps.specs.declared.span.BlockSpan.{BlockSpan}
use Rattle.image_maps.proofs.MapLemmas.{spans_append, end_push, has_push}
use Rattle.replica_node.specs.Node.{has_own}
use Rattle.replica_shelf.specs.Saving.{ListsAll, ListsBelow, IsNextOwn, IsRun}

abbrev run : ℕ → ℕ → BlockSpan
run first end = record { first = first; count = end - first }

pub lists_run : (ss : List BlockSpan) (own : List Bool) (first end : ℕ) → ListsBelow ss own first → IsRun own first end
    → ListsBelow (ss ++ run first end ∷ []) own (end + 1)
lists_run ss own first end below r = record {
  fit = spans_append 0 (length own) ss (run first end ∷ []) below.fit
      (record { least_ok = below.end; some = omega (arith, r.some); most = omega (arith, r.some, r.most) }, tt);
  end = subst (λ n. n ≤ end + 1) (sym (end_push 0 ss (run first end))) (omega (arith, r.some));
  told = λ k.
      has_push ss (run first end) k ∙ ap (λ b. b || is_within (run first end) k) (below.told k)
      ∙ by_place k (nat_lt k first) (is_within (run first end) k) (nat_lt k (end + 1)) (has_own own k) refl refl refl refl;
}
  where
    by_place : (k : ℕ) (a w b o : Bool) → nat_lt k first ≡ a → is_within (run first end) k ≡ w → nat_lt k (end + 1) ≡ b
        → has_own own k ≡ o → ((a && o) || w) ≡ (b && o)
    by_place k a w true true p q s t = decide a w p q
      where
        decide : (a w : Bool) → nat_lt k first ≡ a → is_within (run first end) k ≡ w → ((a && true) || w) ≡ true
        decide true w p q = refl
        decide false true p q = refl
        decide false false p q = absurd (grind (arith, common_steps, p, q, s, t, r.last))
    by_place k a w true false p q s t = decide a w p q
      where
        decide : (a w : Bool) → nat_lt k first ≡ a → is_within (run first end) k ≡ w → ((a && false) || w) ≡ false
        decide true false p q = refl
        decide false false p q = refl
        decide a true p q = absurd (grind (arith, common_steps, p, q, s, t, r.all k))
    by_place k a w false o p q s t = decide a w p q
      where
        decide : (a w : Bool) → nat_lt k first ≡ a → is_within (run first end) k ≡ w → ((a && o) || w) ≡ false
        decide false false p q = refl
        decide true w p q = absurd (grind (arith, common_steps, p, s, r.some))
        decide false true p q = absurd (grind (arith, common_steps, q, s, r.some))

-- there is none up to the next
pub lists_on : (ss : List BlockSpan) (own : List Bool) (from next : ℕ) → IsNextOwn own from next → ListsBelow ss own from
    → ListsBelow ss own next
lists_on ss own from next n below = record {
  fit = below.fit;
  end = omega (arith, below.end, n.least);
  told = λ k. below.told k ∙ by_place k (nat_lt k from) (nat_lt k next) (has_own own k) refl refl refl;
}
  where
    by_place : (k : ℕ) (a b o : Bool) → nat_lt k from ≡ a → nat_lt k next ≡ b → has_own own k ≡ o → (a && o) ≡ (b && o)
    by_place k true true o p q s = refl
    by_place k false false o p q s = refl
    by_place k true false o p q s = absurd (grind (arith, common_steps, p, q, n.least))
    by_place k false true false p q s = refl
    by_place k false true true p q s = absurd (grind (arith, common_steps, p, q, s, n.none k))

-- past the last block they are all
pub lists_all : (ss : List BlockSpan) (own : List Bool) (block : ℕ) → length own ≤ block → ListsBelow ss own block → ListsAll ss own
lists_all ss own block past below = record {
  fit = below.fit;
  told = λ k. below.told k ∙ by_place k (nat_lt k block) refl;
}
  where
    by_place : (k : ℕ) (b : Bool) → nat_lt k block ≡ b → (b && has_own own k) ≡ has_own own k
    by_place k true p = refl
    by_place k false p = sym (get_or_past own k false (grind (arith, common_steps, p, past)))
