-- How many of the first elements of a list pass, counted in parts.
use Rattle.std.proofs.Common.{◌≡◌, ℕ, zero, suc, ◌+◌, ◌≤◌, Bool, true, false, cond, List, [], ◌∷◌, length, take, drop, arith}
use Rattle.std.specs.List.{prefix_len, list_all}
use Rattle.std.proofs.lemmas.Bool.{and_parts}

module _ {X : Type 0} (p : X → Bool) where
  -- behind a part that passes
  pub prefix_len-drop : (n : ℕ) (xs : List X) → n ≤ prefix_len p xs → n + prefix_len p (drop n xs) ≡ prefix_len p xs
  prefix_len-drop zero xs passes = omega arith
  prefix_len-drop (suc n) [] passes = omega arith
  prefix_len-drop (suc n) (x ∷ xs) passes = by_test (p x) (prefix_len-drop n xs) passes
    where
      by_test : (t : Bool) → (n ≤ prefix_len p xs → n + prefix_len p (drop n xs) ≡ prefix_len p xs)
          → suc n ≤ cond t (1 + prefix_len p xs) 0 → suc n + prefix_len p (drop n xs) ≡ cond t (1 + prefix_len p xs) 0
      by_test true rest passes = let h = rest (omega arith) in omega arith
      by_test false rest passes = absurd (omega arith)

  -- a part that passes throughout
  pub le_prefix_len : (n : ℕ) (xs : List X) → n ≤ length xs → list_all p (take n xs) ≡ true → n ≤ prefix_len p xs
  le_prefix_len zero xs inside all = omega arith
  le_prefix_len (suc n) [] inside all = absurd (omega arith)
  le_prefix_len (suc n) (x ∷ xs) inside all =
      let both = and_parts (p x) (list_all p (take n xs)) all in
      let rest : n ≤ prefix_len p xs = le_prefix_len n xs (omega arith) both.1 in
      rw (both.0) (omega arith)

  -- one part more
  pub le_prefix_len_more : (m n : ℕ) (xs : List X) → m ≤ prefix_len p xs → n ≤ prefix_len p (drop m xs) → m + n ≤ prefix_len p xs
  le_prefix_len_more m n xs prefix more = let whole = prefix_len-drop m xs prefix in omega arith
