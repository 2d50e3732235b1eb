-- Maps: one line more, and what a text tells.
use Rattle.std.proofs.Common.{◌≡◌, ℕ, ◌^◌, ◌<◌, List, [], ◌∷◌, ◌++◌, length, decimal}
use Rattle.std.proofs.Common.{refl, sym, ap, subst, ◌∙◌, arith, append_assoc, append-nil}
use Rattle.std.specs.Prelude.{◌||◌, Bool, true, false}
use Rattle.std.proofs.lemmas.Fmt.{decimal_injective}
use Rattle.image_maps.specs.Maps.{line, map_text, Fits, behind, AreSpans, end_of, IsMap, BeginsWithLine, IsBadAt}
use Rattle.image_maps.specs.Maps.{has_block, is_within}
use Rattle.image_maps.specs.declared.span.BlockSpan.{BlockSpan}
use Rattle.image_maps.proofs.BegunLemmas.{line_cut}
use Rattle.image_maps.proofs.Cuts.{Lacks, one_cut}
use Rattle.image_maps.proofs.DigitLemmas.{decimal_lacks}

pub text_append : (ss ts : List BlockSpan) → map_text (ss ++ ts) ≡ map_text ss ++ map_text ts
text_append [] ts = refl
text_append (s ∷ ss) ts =
    ap (λ text. line s ++ text) (text_append ss ts) ∙ sym (append_assoc (line s) (map_text ss) (map_text ts))

pub spans_append : (least blocks : ℕ) (ss ts : List BlockSpan) → AreSpans least blocks ss
    → AreSpans (end_of least ss) blocks ts → AreSpans least blocks (ss ++ ts)
spans_append least blocks [] ts fit more = more
spans_append least blocks (s ∷ ss) ts fit more = (fit.0, spans_append (behind s) blocks ss ts fit.1 more)

pub end_push : (least : ℕ) (ss : List BlockSpan) (s : BlockSpan) → end_of least (ss ++ s ∷ []) ≡ behind s
end_push least [] s = refl
end_push least (t ∷ ss) s = end_push (behind t) ss s

-- the runs of whole lines, and what stands behind the last: no line of a run that fits
record IsWalk (text : List ℕ) (least blocks : ℕ) (ss : List BlockSpan) (rest : List ℕ) : Type 0 where
  fit : AreSpans least blocks ss
  cut : text ≡ map_text ss ++ rest
  last : BeginsWithLine rest (end_of least ss) blocks → ⊥

one_line : (least blocks : ℕ) (s t : BlockSpan) (a b : List ℕ) → blocks < 2 ^ 32 → Fits least blocks s
    → Fits least blocks t
    → line s ++ a ≡ line t ++ b → (s ≡ t) × (a ≡ b)
one_line least blocks s t a b small fits too is =
    let blank : (u : BlockSpan) → Fits least blocks u → Lacks 32 (decimal u.first) =
    λ u fit. decimal_lacks 32 u.first (omega arith) (omega (arith, fit.most)) in
    let feed : (u : BlockSpan) → Fits least blocks u → Lacks 10 (decimal u.count) =
    λ u fit. decimal_lacks 10 u.count (omega arith) (omega (arith, fit.most)) in
    let first = one_cut 32 (decimal s.first) (decimal s.count ++ 10 ∷ a) (decimal t.first) (decimal t.count ++ 10 ∷ b)
    (blank s fits) (blank t too) (sym (line_cut s a) ∙ is ∙ line_cut t b) in
    let second = one_cut 10 (decimal s.count) a (decimal t.count) b (feed s fits) (feed t too) first.1 in
    let same_first : s.first ≡ t.first =
    decimal_injective s.first t.first (omega (arith, fits.most)) (omega (arith, too.most)) first.0 in
    let same_count : s.count ≡ t.count =
    decimal_injective s.count t.count (omega (arith, fits.most)) (omega (arith, too.most)) second.0 in
    ((λ i. record { first = same_first i; count = same_count i }), second.1)

-- a text has one walk
one_walk : (text : List ℕ) (least blocks : ℕ) (ss ts : List BlockSpan) (rest other : List ℕ) → blocks < 2 ^ 32
    → IsWalk text least blocks ss rest → IsWalk text least blocks ts other → (ss ≡ ts) × (rest ≡ other)
one_walk text least blocks [] [] rest other small w v = (refl, sym w.cut ∙ v.cut)
one_walk text least blocks [] (t ∷ ts) rest other small w v =
    absurd (w.last (t, v.fit.0, (map_text ts ++ other, sym w.cut ∙ v.cut ∙ append_assoc (line t) (map_text ts) other)))
one_walk text least blocks (s ∷ ss) [] rest other small w v =
    absurd (v.last (s, w.fit.0, (map_text ss ++ rest, sym v.cut ∙ w.cut ∙ append_assoc (line s) (map_text ss) rest)))
one_walk text least blocks (s ∷ ss) (t ∷ ts) rest other small w v =
    let here = sym (append_assoc (line s) (map_text ss) rest) ∙ sym w.cut ∙ v.cut ∙ append_assoc (line t) (map_text ts) other in
    let head = one_line least blocks s t (map_text ss ++ rest) (map_text ts ++ other) small w.fit.0 v.fit.0 here in
    let behind_it : IsWalk (map_text ss ++ rest) (behind s) blocks ts other = record {
      fit = subst (λ (x : BlockSpan). AreSpans (behind x) blocks ts) (sym head.0) v.fit.1;
      cut = head.1;
      last = subst (λ (x : BlockSpan). BeginsWithLine other (end_of (behind x) ts) blocks → ⊥) (sym head.0) v.last;
    } in
    let more = one_walk (map_text ss ++ rest) (behind s) blocks ss ts rest other small
    (record { fit = w.fit.1; cut = refl; last = w.last }) behind_it in
    ((λ i. head.0 i ∷ more.0 i), more.1)

-- no line is empty
no_line : (least blocks : ℕ) → BeginsWithLine [] least blocks → ⊥
no_line least blocks (s, fits, (more, is)) =
    empty (decimal s.first) (decimal s.count ++ 10 ∷ more) (is ∙ line_cut s more)
  where
    empty : (a b : List ℕ) → [] ≡ a ++ 32 ∷ b → ⊥
    empty [] b is = cc
    empty (x ∷ a) b is = cc

of_map : (text : List ℕ) (blocks : ℕ) (spans : List BlockSpan) → IsMap text blocks spans → IsWalk text 0 blocks spans []
of_map text blocks spans is = record {
  fit = is.fit;
  cut = is.lines ∙ sym (append-nil (map_text spans));
  last = no_line (end_of 0 spans) blocks;
}

of_bad : (text : List ℕ) (blocks place : ℕ) (bad : IsBadAt text blocks place) → IsWalk text 0 blocks bad.spans bad.rest
of_bad text blocks place bad = record { fit = bad.fit; cut = bad.cut; last = bad.bad }

pub one_map : (text : List ℕ) (blocks : ℕ) (a b : List BlockSpan) → blocks < 2 ^ 32 → IsMap text blocks a
    → IsMap text blocks b → a ≡ b
one_map text blocks a b small is too =
    (one_walk text 0 blocks a b [] [] small (of_map text blocks a is) (of_map text blocks b too)).0

pub no_bad_map : (text : List ℕ) (blocks place : ℕ) (a : List BlockSpan) → blocks < 2 ^ 32 → IsMap text blocks a
    → IsBadAt text blocks place → ⊥
no_bad_map text blocks place a small is bad =
    let walks = one_walk text 0 blocks a bad.spans [] bad.rest small (of_map text blocks a is)
    (of_bad text blocks place bad) in
    bad.some (sym walks.1)

pub one_place : (text : List ℕ) (blocks p q : ℕ) → blocks < 2 ^ 32 → IsBadAt text blocks p → IsBadAt text blocks q
    → p ≡ q
one_place text blocks p q small bad also =
    let walks = one_walk text 0 blocks bad.spans also.spans bad.rest also.rest small (of_bad text blocks p bad)
    (of_bad text blocks q also) in
    bad.place_is ∙ ap (λ ss. length (map_text ss)) walks.0 ∙ sym also.place_is

-- a run more has its blocks
pub has_push : (ss : List BlockSpan) (s : BlockSpan) (k : ℕ)
    → has_block (ss ++ s ∷ []) k ≡ (has_block ss k || is_within s k)
has_push [] s k = or_nothing (is_within s k)
  where
    or_nothing : (b : Bool) → (b || false) ≡ b
    or_nothing true = refl
    or_nothing false = refl
has_push (x ∷ ss) s k =
    ap (λ b. is_within x k || b) (has_push ss s k) ∙ regroup (is_within x k) (has_block ss k) (is_within s k)
  where
    regroup : (a b c : Bool) → (a || (b || c)) ≡ ((a || b) || c)
    regroup true b c = refl
    regroup false b c = refl
