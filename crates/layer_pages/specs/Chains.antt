-- The chain of a snapshot, and the part of it that lies above a base. An incremental backup, as Longhorn makes it, reads
-- what the layers of that part have.
use Rattle.std.specs.Prelude.{ℕ, Bool, List, [], ◌∷◌, Option, Some, if◌then◌else◌}
use Rattle.vol_units.specs.Chain.{is_named, chain_from}
use Rattle.volume_model.specs.Names.{has_name}
use Rattle.volume_model.specs.Snapshots.{Snapshot}

-- the snapshot that is wanted, the one on which it stands, and so on down
abbrev pub chain_in : List Snapshot → Option (List ℕ) → List Snapshot
chain_in tree wanted = chain_from (λ s. s.name) (λ s. s.parent) tree wanted

-- the base is the snapshot of the name, or one on which that stands
abbrev pub is_over : List Snapshot → List ℕ → List ℕ → Bool
is_over tree name base = has_name (chain_in tree (Some name)) base

-- the snapshots of a chain down to the base, which is left out; all of them where none is given
abbrev pub down_to : Option (List ℕ) → List Snapshot → List Snapshot
down_to base [] = []
down_to base (s ∷ ss) = if is_named base s.name then [] else s ∷ down_to base ss

-- those from the one of the name down to the base
abbrev pub chain_above : List Snapshot → List ℕ → Option (List ℕ) → List Snapshot
chain_above tree name base = down_to base (chain_in tree (Some name))
