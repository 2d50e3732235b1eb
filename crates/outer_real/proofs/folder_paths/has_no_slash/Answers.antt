use Rattle.std.proofs.Common.{◌≡◌, ◌≢◌, ◌↔◌, ℕ, ◌<◌, length, List, Bool, true, false, not, IsTrue, EachIndex, get_or, refl, arith}
use Rattle.std.specs.Path.{slash}
use Rattle.std.proofs.lemmas.Bool.{both_ways}
use Rattle.std.proofs.lemmas.Str.Pattern.{contains_char}
use Rattle.outer_real.proofs.folder_paths.has_no_slash.Goals as goal

-- what is found is there, and what is there is found
found_or_not : (name : List ℕ) (found : Bool) → (found ≡ true → (k : ℕ) × (k < length name) × (get_or name k 0 ≡ slash))
    → ((k : ℕ) → k < length name → get_or name k 0 ≡ slash → found ≡ true)
    → IsTrue (not found) ↔ EachIndex name (λ k. get_or name k 0 ≢ slash)
found_or_not name true there _ = (
  λ none. absurd (both_ways false refl none),
  λ none. let at = there refl in absurd (none at.0 at.1 at.2),
)
found_or_not name false _ all = (λ _ k within here. both_ways false refl (all k within here), λ _. refl)

pub returns : goal.returns
returns c =
    let known = contains_char slash c.args.name.now c.contains.result c.contains.ensures.cases (omega arith) in
    found_or_not c.args.name.now c.contains.result known.0 known.1
