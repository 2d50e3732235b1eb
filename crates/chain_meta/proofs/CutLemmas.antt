-- A list, its front and its back.
use Rattle.std.proofs.Common.{◌≡◌, ◌≢◌, ℕ, ◌-◌, ◌<◌, List, ◌++◌, length, take, drop}
use Rattle.std.proofs.Common.{sym, ap, ◌∙◌, arith, length-append}
use Rattle.std.proofs.Math.Seq.{take-append_seam, drop-append_seam}
use Rattle.std.proofs.lemmas.List.{take-append-drop, append_cancel_left}

-- a text that begins so
pub with_front : (text front : List ℕ) (n : ℕ) → take n text ≡ front → text ≡ front ++ drop n text
with_front text front n begins = sym (take-append-drop n text) ∙ ap (λ s. s ++ drop n text) begins

-- a text that ends so
pub with_back : (text back : List ℕ) (n : ℕ) → drop n text ≡ back → text ≡ take n text ++ back
with_back text back n ends = sym (take-append-drop n text) ∙ ap (λ s. take n text ++ s) ends

-- a text that is shorter does not begin so
pub too_short_front : (text front rest : List ℕ) → length text < length front → text ≢ front ++ rest
too_short_front text front rest short is = omega (arith, ap length is, length-append front rest)

pub too_short_back : (text back rest : List ℕ) → length text < length back → text ≢ rest ++ back
too_short_back text back rest short is = omega (arith, ap length is, length-append rest back)

-- nor does one with another front
pub other_front : (text front rest : List ℕ) → take (length front) text ≢ front → text ≢ front ++ rest
other_front text front rest differs is = differs (ap (take (length front)) is ∙ take-append_seam front rest)

pub other_back : (text back rest : List ℕ) → drop (length text - length back) text ≢ back → text ≢ rest ++ back
other_back text back rest differs is =
    let before : length text - length back ≡ length rest = omega (arith, ap length is, length-append rest back) in
    differs (ap (λ k. drop k text) before ∙ ap (drop (length rest)) is ∙ drop-append_seam rest back)

pub ruleset fronts = (with_front, with_back, too_short_front, too_short_back, other_front, other_back)

-- what stands behind a front is one
pub one_rest : (text front a b : List ℕ) → text ≡ front ++ a → text ≡ front ++ b → a ≡ b
one_rest text front a b is too = append_cancel_left front a b (sym is ∙ too)

-- a text whose front is there, but what follows it does not end so
pub no_middle : (text front rest back : List ℕ) → text ≡ front ++ rest → ((m : List ℕ) → rest ≢ m ++ back)
    → (m : List ℕ) → text ≢ front ++ (m ++ back)
no_middle text front rest back is none m too = none m (one_rest text front rest (m ++ back) is too)
