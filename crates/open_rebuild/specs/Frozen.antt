-- The names of the layers that the barrier of a rebuild leaves.
use Rattle.std.specs.Prelude.{◌≡◌, ◌↔◌, ℕ, ◌+◌, ◌<◌, ◌≤◌, true, List, [], ◌∷◌, length, Contains, slice_index_or}
use Rattle.volume_model.specs.Purge.{is_before}

-- the names of the layers, and the one under which the head is closed
abbrev pub AreFrozen : List (List ℕ) → List ℕ → List (List ℕ) → Type 0
AreFrozen layers own frozen = (name : List ℕ) → Contains frozen name ↔ Contains (own ∷ layers) name

-- each is before those behind it in the order of bytes, so none comes twice
abbrev pub IsInByteOrder : List (List ℕ) → Type 0
IsInByteOrder frozen = (i j : ℕ) → i < j → j < length frozen
    → is_before (slice_index_or frozen i []) (slice_index_or frozen j []) ≡ true

-- one name more, where it is not among them
pub record AddsName (old new : List (List ℕ)) (name : List ℕ) : Type 0 where
  pub names : AreFrozen old name new
  pub order : IsInByteOrder new
  pub few : length new ≤ length old + 1
