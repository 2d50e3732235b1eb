-- Several appends, one behind another.
use Rattle.std.proofs.Common.{◌≡◌, ◌≤◌, ℕ, List, ◌++◌, length, take, sym, ap, ◌∙◌, arith, append_assoc, length-append}
use Rattle.std.proofs.lemmas.List.{take-take}
use Rattle.std.proofs.Math.Seq.{take-append_seam}

-- What a text begins with that begins with more is still its beginning.
pub kept_more : (old mid new x : List ℕ) → mid ≡ old ++ x → take (length mid) new ≡ mid → take (length old) new ≡ old
kept_more old mid new x more kept =
    let le : length old ≤ length mid = omega (arith, ap length more, length-append {A = ℕ}) in
    sym (take-take (length old) (length mid) new le) ∙ ap (take (length old)) (kept ∙ more) ∙ take-append_seam old x

-- two appends are one
pub two_appends : (o a b p q : List ℕ) → a ≡ o ++ p → b ≡ a ++ q → b ≡ o ++ (p ++ q)
two_appends o a b p q ea eb = eb ∙ ap (λ l. l ++ q) ea ∙ append_assoc o p q

-- three appends are one
pub three_appends : (o a b c p q r : List ℕ) → a ≡ o ++ p → b ≡ a ++ q → c ≡ b ++ r → c ≡ o ++ (p ++ q ++ r)
three_appends o a b c p q r ea eb ec = ec ∙ ap (λ l. l ++ r) (eb ∙ ap (λ l. l ++ q) ea) ∙ regroup
  where
    regroup : ((o ++ p) ++ q) ++ r ≡ o ++ (p ++ q ++ r)
    regroup = simp append_assoc

-- five appends are one
pub five_appends : (o a b c d e p q r s t : List ℕ) → a ≡ o ++ p → b ≡ a ++ q → c ≡ b ++ r → d ≡ c ++ s → e ≡ d ++ t
    → e ≡ o ++ (p ++ (q ++ r) ++ s ++ t)
five_appends o a b c d e p q r s t ea eb ec ed ee =
    ee ∙ ap (λ l. l ++ t) (ed ∙ ap (λ l. l ++ s) (ec ∙ ap (λ l. l ++ r) (eb ∙ ap (λ l. l ++ q) ea))) ∙ regroup
  where
    regroup : ((((o ++ p) ++ q) ++ r) ++ s) ++ t ≡ o ++ (p ++ (q ++ r) ++ s ++ t)
    regroup = simp append_assoc
