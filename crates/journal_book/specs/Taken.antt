-- The names that snapshots were taken under, as a map from each to its mark, the oldest first.
use Rattle.std.specs.Prelude.{ℕ, Bool, List, ◌∷◌, map, reverse, if◌then◌else◌}
use Rattle.volume_model.specs.declared.names.UsedName.{UsedName}
use Rattle.volume_model.specs.Names.{is_used_in}

-- a name with its mark
abbrev pub used_name : List ℕ × Bool → UsedName
used_name e = record { name = e.0; marked = e.1 }

-- those of the map, the newest first
abbrev pub taken_of : List (List ℕ × Bool) → List UsedName
taken_of entries = reverse (map used_name entries)

-- those, and that one as it was found in a replica's folder; one that is there stays as it is
abbrev pub with_found : List UsedName → List ℕ → Bool → List UsedName
with_found names name marked = if is_used_in names name then names else record { name = name; marked = marked } ∷ names
