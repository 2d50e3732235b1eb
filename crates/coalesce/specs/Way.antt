-- How the layer of a name can go, and whether it can at all, told of snapshots alone.
use Rattle.std.specs.Prelude.{◌≡◌, ℕ, List, Option}
use Rattle.volume_model.specs.Purge.{CanBeDone, gone}
use Rattle.volume_model.specs.Snapshots.{Snapshot}
use Rattle.volume_model.specs.declared.mark.FoldOrDrop.{FoldOrDrop}

-- the one of the name can go so
abbrev pub IsWayOf : List Snapshot → Option (List ℕ) → List ℕ → FoldOrDrop → Type 0
IsWayOf tree on name part = (gone part ≡ name) × CanBeDone tree on part

-- the one of the name cannot go, or is not there
abbrev pub HasNoWay : List Snapshot → Option (List ℕ) → List ℕ → Type 0
HasNoWay tree on name = (part : FoldOrDrop) → gone part ≡ name → CanBeDone tree on part → ⊥
