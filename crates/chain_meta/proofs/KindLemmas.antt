-- Members of an object that are there and of no such kind.
use Rattle.std.proofs.Common.{◌≡◌, ℕ, List, Option, Some, None, refl, sym, subst, ◌∙◌, arith, ◌<◌}
use Rattle.serde_json.specs.Data.{Data}
use Rattle.serde_json.specs.Find.{as_str}
use Rattle.chain_meta.specs.ImageNames.{IsHeadFile}
use Rattle.chain_meta.specs.Kinds.{HasKind, IsHead, largest_head}
use Rattle.chain_meta.proofs.FileLemmas.{one_head_number}
use Rattle.chain_meta.proofs.Found.{same_value, no_value}

-- a member that is there and of no such kind has no value
pub no_kind : {A : Type 0} (Is : Data → A → Type 0) (found : Option Data) (d : Data) → found ≡ Some d
    → ((a : A) → Is d a → ⊥) → (value : Option A) → HasKind Is found value → ⊥
no_kind Is None d is none value has = no_value None refl is
no_kind Is (Some e) d is none None has = has
no_kind Is (Some e) d is none (Some a) has = none a (subst (λ x. Is x a) (same_value (Some e) refl is) has)

pub no_head_text : (d : Data) → as_str d ≡ None → (n : ℕ) → IsHead d n → ⊥
no_head_text d none n (file, is, named, low) = no_value (as_str d) none is

pub no_head_file : (d : Data) (text : List ℕ) → as_str d ≡ Some text → ((n : ℕ) → IsHeadFile n text → ⊥)
    → (n : ℕ) → IsHead d n → ⊥
no_head_file d text is none n (file, there, named, low) =
    none n (subst (IsHeadFile n) (same_value (as_str d) there is) named)

-- a head's number past the last that is opened is none
pub too_high : (d : Data) (text : List ℕ) (k : ℕ) → as_str d ≡ Some text → IsHeadFile k text → largest_head < k
    → (n : ℕ) → IsHead d n → ⊥
too_high d text k is named high n (file, there, also, low) =
    let one : k ≡ n = one_head_number k n named.0 also.0 (sym named.1 ∙ same_value (as_str d) is there ∙ also.1) in
    omega arith
