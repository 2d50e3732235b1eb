-- A member of a kind has one value.
use Rattle.std.proofs.Common.{◌≡◌, ℕ, Bool, List, [], ◌∷◌, Option, Some, None, decimal}
use Rattle.std.proofs.Common.{inl, inr, refl, sym, ap, subst, ◌∙◌}
use Rattle.std.specs.Prelude.{option_and_then}
use Rattle.std.proofs.lemmas.Fmt.{decimal_injective}
use Rattle.serde_json.specs.Data.{Data, null, boolean, number, string, array, object}
use Rattle.serde_json.specs.Find.{as_str, as_bool, as_number, as_u64}
use Rattle.chain_meta.specs.ImageNames.{IsImageName}
use Rattle.chain_meta.specs.Kinds.{HasKind, IsFlag, IsImage, IsParent, IsHead, IsSize}
use Rattle.chain_meta.proofs.FileLemmas.{one_head_number}
use Rattle.chain_meta.proofs.Found.{same_value}

pub one_kind : {A : Type 0} (Is : Data → A → Type 0) → ((d : Data) (a b : A) → Is d a → Is d b → a ≡ b)
    → (found : Option Data) (v w : Option A) → HasKind Is found v → HasKind Is found w → v ≡ w
one_kind Is one None None None is too = refl
one_kind Is one None None (Some a) is too = absurd too
one_kind Is one None (Some a) w is too = absurd is
one_kind Is one (Some d) None w is too = absurd is
one_kind Is one (Some d) (Some a) None is too = absurd too
one_kind Is one (Some d) (Some a) (Some b) is too = ap Some (one d a b is too)

pub one_flag : (d : Data) (a b : Bool) → IsFlag d a → IsFlag d b → a ≡ b
one_flag d a b is too = same_value (as_bool d) is too

pub one_image : (d : Data) (a b : List ℕ) → IsImage d a → IsImage d b → a ≡ b
one_image d a b is too = same_value (as_str d) is.0 too.0

-- an image's file name is not empty
filled : IsImageName [] → ⊥
filled (inl (n, is)) = no_code is.1
  where
    no_code : {c : ℕ} {cs : List ℕ} → [] ≡ c ∷ cs → ⊥
    no_code same = cc
filled (inr (n, is)) = no_code is.1
  where
    no_code : {c : ℕ} {cs : List ℕ} → [] ≡ c ∷ cs → ⊥
    no_code same = cc

pub one_parent : (d : Data) (a b : Option (List ℕ)) → IsParent d a → IsParent d b → a ≡ b
one_parent d None None is too = refl
one_parent d None (Some b) is too = absurd (filled (subst IsImageName (same_value (as_str d) too.0 is) too.1))
one_parent d (Some a) None is too = absurd (filled (subst IsImageName (same_value (as_str d) is.0 too) is.1))
one_parent d (Some a) (Some b) is too = ap Some (one_image d a b is too)

pub one_head : (d : Data) (a b : ℕ) → IsHead d a → IsHead d b → a ≡ b
one_head d a b (file, there, is, low) (other, here, too, less) =
    one_head_number a b is.0 too.0 (sym is.1 ∙ same_value (as_str d) there here ∙ too.1)

-- what is a number is no text
apart : (d : Data) (size : ℕ) (text : List ℕ) → option_and_then as_u64 (as_number d) ≡ Some size
    → as_str d ≡ Some text → ⊥
apart null size text is too = cc
apart (boolean b) size text is too = cc
apart (number n) size text is too = cc
apart (string s) size text is too = cc
apart (array ds) size text is too = cc
apart (object ms) size text is too = cc

pub one_size : (d : Data) (a b : ℕ) → IsSize d a → IsSize d b → a ≡ b
one_size d a b (inl is) (inl too) = same_value _ is too
one_size d a b (inl is) (inr (text, small)) = absurd (apart d a (decimal b) is text)
one_size d a b (inr (text, small)) (inl too) = absurd (apart d b (decimal a) too text)
one_size d a b (inr (is, small)) (inr (too, low)) = decimal_injective a b small low (same_value (as_str d) is too)
