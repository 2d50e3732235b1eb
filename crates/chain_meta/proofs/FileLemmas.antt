-- The file names of images: which file is whose.
use Rattle.std.proofs.Common.{◌≡◌, ◌≢◌, ℕ, ◌^◌, ◌<◌, Bool, true, false, nat_lt, List, ◌++◌, codes, decimal}
use Rattle.std.proofs.Common.{inl, inr, refl, sym, ap, subst, ◌∙◌}
use Rattle.std.proofs.lemmas.Fmt.{decimal_injective, decimal_is_IsNumeral}
use Rattle.std.specs.Prelude.{if◌then◌else◌}
use Rattle.std.specs.Str.Parse.{digits_value}
use Rattle.std.proofs.lemmas.List.{append_cancel_left, append_cancel_right}
use Rattle.vol_units.specs.Name.{IsName}
use Rattle.chain_meta.specs.ImageNames.{zeros_before, head_digits, head_file}
use Rattle.chain_meta.specs.ImageNames.{IsHeadFile, IsSnapshotFile, IsImageName}
use Rattle.chain_meta.proofs.CutLemmas.{one_rest}

-- the middle of a file name is one
pub one_middle : (file front back a b : List ℕ) → file ≡ front ++ (a ++ back) → file ≡ front ++ (b ++ back) → a ≡ b
one_middle file front back a b is too =
    append_cancel_right a b back (append_cancel_left front (a ++ back) (b ++ back) (sym is ∙ too))

pub no_head : (file : List ℕ) → ((m : List ℕ) → file ≢ codes "volume-head-" ++ (m ++ codes ".img"))
    → (n : ℕ) → IsHeadFile n file → ⊥
no_head file none n is = none (head_digits n) is.1

pub no_snapshot : (file : List ℕ) → ((m : List ℕ) → file ≢ codes "volume-snap-" ++ (m ++ codes ".img"))
    → (name : List ℕ) → IsSnapshotFile name file → ⊥
no_snapshot file none name is = none name is.1

pub other_name : (file name : List ℕ) → file ≡ codes "volume-snap-" ++ (name ++ codes ".img") → (IsName name → ⊥)
    → (n : List ℕ) → IsSnapshotFile n file → ⊥
other_name file name is bad n has =
    bad (subst IsName (one_middle file (codes "volume-snap-") (codes ".img") n name has.1 is) has.0)

pub other_digits : (file digits : List ℕ) → file ≡ codes "volume-head-" ++ (digits ++ codes ".img")
    → ((n : ℕ) → n < 2 ^ 64 → digits ≢ head_digits n) → (n : ℕ) → IsHeadFile n file → ⊥
other_digits file digits is bad n has =
    bad n has.0 (one_middle file (codes "volume-head-") (codes ".img") digits (head_digits n) is has.1)

-- the number behind zeros is one
pub number_is : (digits zeros rest : List ℕ) (k n : ℕ) → digits ≡ zeros ++ rest → rest ≡ decimal k
    → k < 2 ^ 64 → n < 2 ^ 64 → digits ≡ zeros ++ decimal n → k ≡ n
number_is digits zeros rest k n is also small low has =
    decimal_injective k n small low (sym also ∙ one_rest digits zeros rest (decimal n) is has)

-- a number's zeros are two, one or none
pub no_digits : (digits : List ℕ)
    → ((n : ℕ) → n < 2 ^ 64 → zeros_before n ≡ codes "00" → digits ≢ codes "00" ++ decimal n)
    → ((n : ℕ) → n < 2 ^ 64 → zeros_before n ≡ codes "0" → digits ≢ codes "0" ++ decimal n)
    → ((n : ℕ) → n < 2 ^ 64 → zeros_before n ≡ codes "" → digits ≢ codes "" ++ decimal n)
    → (n : ℕ) → n < 2 ^ 64 → digits ≢ head_digits n
no_digits digits two one none n low is = by_test (nat_lt n 10) (nat_lt n 100) refl refl
  where
    by_test : (a b : Bool) → nat_lt n 10 ≡ a → nat_lt n 100 ≡ b → ⊥
    by_test true b ten hundred = two n low (rw ten refl) (is ∙ rw ten refl)
    by_test false true ten hundred = one n low (rw (ten, hundred) refl) (is ∙ rw (ten, hundred) refl)
    by_test false false ten hundred = none n low (rw (ten, hundred) refl) (is ∙ rw (ten, hundred) refl)

-- what is the file of neither is no image's
pub no_image : (file : List ℕ) → ((n : ℕ) → IsHeadFile n file → ⊥)
    → ((name : List ℕ) → IsSnapshotFile name file → ⊥) → IsImageName file → ⊥
no_image file head snapshot (inl h) = head h.0 h.1
no_image file head snapshot (inr s) = snapshot s.0 s.1

pub is_head : (file : List ℕ) (n : ℕ) → IsHeadFile n file → IsImageName file
is_head file n h = inl (n, h)

pub is_snapshot : (file : List ℕ) (name : List ℕ) → IsSnapshotFile name file → IsImageName file
is_snapshot file name s = inr (name, s)

pub ruleset images = (is_head, is_snapshot, no_image)

-- the value of a head's digits is its number
digits_are : (n : ℕ) → n < 2 ^ 64 → digits_value 10 (head_digits n) ≡ n
digits_are n low = by_test (nat_lt n 10) (nat_lt n 100)
  where
    by_test : (a b : Bool)
        → digits_value 10 ((if a then codes "00" else (if b then codes "0" else codes "")) ++ decimal n) ≡ n
    by_test true b = (decimal_is_IsNumeral n low).1
    by_test false true = (decimal_is_IsNumeral n low).1
    by_test false false = (decimal_is_IsNumeral n low).1

-- two numbers of one file are one
pub one_head_number : (a b : ℕ) → a < 2 ^ 64 → b < 2 ^ 64 → head_file a ≡ head_file b → a ≡ b
one_head_number a b low_a low_b same =
    let behind : head_digits a ++ codes ".img" ≡ head_digits b ++ codes ".img" =
    append_cancel_left (codes "volume-head-") _ _ same in
    let digits : head_digits a ≡ head_digits b = append_cancel_right _ _ (codes ".img") behind in
    sym (digits_are a low_a) ∙ ap (digits_value 10) digits ∙ digits_are b low_b
