-- Words that commas part: the first, and then each behind a comma.
use Rattle.std.proofs.Common.{◌≡◌, ℕ, ◌-◌, ◌≤◌, List, [], ◌∷◌, ◌++◌, length, map, get_or, take, drop, flat_map, ap, ◌∙◌, append-nil, arith}
use Rattle.std.specs.List.{join_with_byte}
use Rattle.std.proofs.lemmas.Grind.{common_steps}

module _ {A : Type 0} (text : A → List ℕ) where
  first_and_more : (x : A) (xs : List A) → text x ++ flat_map (λ y. 44 ∷ text y) xs ≡ join_with_byte 44 (map text (x ∷ xs))
  first_and_more x [] = append-nil (text x)
  first_and_more x (y ∷ ys) = ap (λ l. text x ++ 44 ∷ l) (first_and_more y ys)

  behind_first : (x : A) (xs : List A) → take (length (x ∷ xs) - 1) (drop 1 (x ∷ xs)) ≡ xs
  behind_first x xs = grind (arith, common_steps)

  -- as a slice is taken apart
  pub words_apart : (d : A) (xs : List A) → 1 ≤ length xs
      → text (get_or xs 0 d) ++ flat_map (λ y. 44 ∷ text y) (take (length xs - 1) (drop 1 xs)) ≡ join_with_byte 44 (map text xs)
  words_apart d [] some = absurd (omega (arith, some))
  words_apart d (x ∷ xs) some =
      ap (λ l. text x ++ flat_map (λ y. 44 ∷ text y) l) (behind_first x xs) ∙ first_and_more x xs
