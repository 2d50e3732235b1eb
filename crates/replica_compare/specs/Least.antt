-- The least of the names that differ, as it is found on the way over layers.
use Rattle.std.specs.Prelude.{◌≡◌, ℕ, ◌<◌, ◌≤◌, false, true, List, length, Option, Some}
use Rattle.replica_node.specs.Node.{Kept}
use Rattle.replica_node.specs.Places.{kept_at}
use Rattle.replica_compare.specs.Comparing.{comes_before}

-- of the best so far and one more name, where it differs, the one that comes first
pub data IsLesser (Differs : List ℕ → Type 0) (name : List ℕ) (best : Option (List ℕ)) : Option (List ℕ) → Type 0 where
  Stays : (Differs name → comes_before name best ≡ false) → IsLesser Differs name best best
  Falls : comes_before name best ≡ true → Differs name → IsLesser Differs name best (Some name)

-- That is one that differs, where it is one. None of the layers from that place on that differs comes before it, and
-- what did not come before the one at first does not either.
pub record IsLeastOf (Differs : List ℕ → Type 0) (ks : List Kept) (start : ℕ) (first best : Option (List ℕ)) : Type 0 where
  pub differs : (name : List ℕ) → best ≡ Some name → Differs name
  pub least : (place : ℕ) → start ≤ place → place < length ks → Differs (kept_at ks place).meta.name
      → comes_before (kept_at ks place).meta.name best ≡ false
  pub kept : (name : List ℕ) → comes_before name first ≡ false → comes_before name best ≡ false
