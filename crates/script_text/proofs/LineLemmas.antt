-- Lemmas on specs/Line.antt.
use Rattle.std.proofs.Common.{◌≡◌, ◌≢◌, ◌∙◌, ℕ, ◌+◌, ◌<◌, ◌≤◌, Bool, cond, eqb, List, [], ◌∷◌, ◌++◌, length, get_or}
use Rattle.std.proofs.Common.{take, drop, Option, Some, None, IfSome, IfNone, refl, sym, ap, inl, inr, arith}
use Rattle.std.specs.List.{All, position, position_or_len}
use Rattle.std.proofs.lemmas.Bool.{eqb-true, eqb-false, cases_lt, lt-ltb}
use Rattle.std.proofs.lemmas.List.{get_or-take, get_or_at, length-take, take-append-drop, drop_more}
use Rattle.std.proofs.lemmas.List.Elements.{All-head, All-tail, All-get_or, All-from_get_or}
use Rattle.std.proofs.lemmas.List.Quantifiers.{position-Some}
use Rattle.std.proofs.lemmas.List.Sums.{fails_before_first}
use Rattle.script_head.specs.Limits.{longest_line, most_input}
use Rattle.script_text.specs.Line.{IsCut, HasNoLine}

abbrev IsOther : ℕ → Type 0
IsOther byte = byte ≢ 10

-- two lists that are cut at their first line feeds, and are equal, are cut alike
cut_alike : (a b x y : List ℕ) → All IsOther a → All IsOther b → a ++ 10 ∷ x ≡ b ++ 10 ∷ y → (a ≡ b) × (x ≡ y)
cut_alike [] [] x y p q e = (refl, tails e)
  where
    tails : 10 ∷ x ≡ 10 ∷ y → x ≡ y
    tails h = cc
cut_alike [] (b ∷ bs) x y p q e = absurd (All-head IsOther b bs q (sym (heads e)))
  where
    heads : 10 ∷ x ≡ b ∷ (bs ++ 10 ∷ y) → 10 ≡ b
    heads h = cc
cut_alike (a ∷ as') [] x y p q e = absurd (All-head IsOther a as' p (heads e))
  where
    heads : a ∷ (as' ++ 10 ∷ x) ≡ 10 ∷ y → a ≡ 10
    heads h = cc
cut_alike (a ∷ as') (b ∷ bs) x y p q e =
    let t = cut_alike as' bs x y (All-tail IsOther a as' p) (All-tail IsOther b bs q) (tails e) in (both (heads e) t.0, t.1)
  where
    heads : a ∷ (as' ++ 10 ∷ x) ≡ b ∷ (bs ++ 10 ∷ y) → a ≡ b
    heads h = cc

    tails : a ∷ (as' ++ 10 ∷ x) ≡ b ∷ (bs ++ 10 ∷ y) → as' ++ 10 ∷ x ≡ bs ++ 10 ∷ y
    tails h = cc

    both : a ≡ b → as' ≡ bs → a ∷ as' ≡ b ∷ bs
    both h k = cc

-- an input has one first line
pub one_cut : (input l r m s : List ℕ) → IsCut input l r → IsCut input m s → (l ≡ m) × (r ≡ s)
one_cut input l r m s p q = cut_alike l m r s p.first q.first (sym p.whole ∙ q.whole)

-- and none where its front has no line feed
pub no_cut : (input line body : List ℕ) → HasNoLine input → IsCut input line body → ⊥
no_cut input line body none cut = not_there longest_line input line body none cut.short cut.whole
  where
    not_there : (most : ℕ) (input line body : List ℕ) → All IsOther (take most input) → length line < most → input ≡ line ++ 10 ∷ body → ⊥
    not_there most input line body all short whole =
        let len : length input ≡ length (line ++ 10 ∷ body) = ap length whole in
        let inside : length line < length (take most input) = omega (arith, length-take most input, length_more line body) in
        let at : get_or (take most input) (length line) 0 ≡ 10 =
        get_or-take most input (length line) 0 short ∙ ap (λ l. get_or l (length line) 0) whole
        ∙ get_or_at line 10 body 0 (length line) refl in
        All-get_or IsOther (take most input) (length line) 0 inside all at
      where
        length_more : (line body : List ℕ) → length line < length (line ++ 10 ∷ body)
        length_more [] body = omega arith
        length_more (x ∷ xs) body = omega (arith, length_more xs body)

-- ---- the search for the line feed

abbrev IsFeed : ℕ → Bool
IsFeed byte = eqb byte 10

pub cut_at : (most : ℕ) (input : List ℕ) (n : ℕ) → position IsFeed (take most input) ≡ Some n
    → (input ≡ take n input ++ 10 ∷ drop (n + 1) input) × All IsOther (take n input) × (n < length input) × (length (take n input) < most)
cut_at most input n found =
    let at = position-Some IsFeed (take most input) n 0 found in
    let size = length-take most input in
    let inside : n < length input = omega (arith, at.0, size) in
    let less : n < most = omega (arith, at.0, size) in
    let feed : get_or input n 0 ≡ 10 = sym (get_or-take most input n 0 less) ∙ eqb-true _ _ at.1 in (
      sym (take-append-drop n input) ∙ ap (λ l. take n input ++ l) (drop_more input n 0 inside ∙ ap (λ b. b ∷ drop (n + 1) input) feed),
      All-from_get_or IsOther (take n input) 0
          (λ k below.
          let front : k < n = omega (arith, below, length-take n input) in
          eqb-false _ _ (ap IsFeed (get_or-take n input k 0 front ∙ sym (get_or-take most input k 0 (omega arith))) ∙ at.2 k front)),
      inside,
      omega (arith, length-take n input),
    )

pub no_line : (front : List ℕ) → position IsFeed front ≡ None → All IsOther front
no_line front none = All-from_get_or IsOther front 0
    (λ k below. eqb-false _ _ (fails_before_first IsFeed front k 0 (omega (arith, past none))))
  where
    past : position IsFeed front ≡ None → length front ≤ position_or_len IsFeed front
    past e = elim (cases_lt (position_or_len IsFeed front) (length front)) [
      | inl h ↦ absurd (found (sym (ap (λ (b : Bool). cond b (Some (position_or_len IsFeed front)) None) (lt-ltb _ _ h)) ∙ e))
      | inr h ↦ h
    ]
      where
        found : Some (position_or_len IsFeed front) ≡ None → ⊥
        found h = cc

-- what the search finds none of
pub HasNoLine-from_position : (input : List ℕ) (found : Option ℕ) → found ≡ position IsFeed (take longest_line input)
    → IfNone found (HasNoLine input)
HasNoLine-from_position input None is = no_line (take longest_line input) (sym is)
HasNoLine-from_position input (Some n) is = tt

-- and what it finds
pub IsCut-from_position : (input : List ℕ) (found : Option ℕ) → length input ≤ most_input
    → found ≡ position IsFeed (take longest_line input)
    → IfSome found (λ n. IsCut input (take n input) (drop (n + 1) input)) × IfSome found (λ n. n < length input)
IsCut-from_position input None most is = (tt, tt)
IsCut-from_position input (Some n) most is =
    let cut = cut_at longest_line input n (sym is) in (record { most = most; whole = cut.0; first = cut.1; short = cut.3 }, cut.2)
