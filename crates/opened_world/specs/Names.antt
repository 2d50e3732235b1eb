-- The names that are taken where a run begins with opened folders: those of the disk's snapshots.
use Rattle.std.specs.Prelude.{List, [], ◌∷◌}
use Rattle.volume_model.specs.declared.names.UsedName.{UsedName}
use Rattle.volume_model.specs.Snapshots.{Snapshot}
use Rattle.journal_book.specs.Taken.{with_found}

-- the names of these snapshots, each with its mark, the newest first
abbrev pub names_of : List Snapshot → List UsedName
names_of [] = []
names_of (s ∷ ss) = with_found (names_of ss) s.name s.marked
