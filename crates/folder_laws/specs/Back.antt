-- What `open` gives back of a replica that was saved.
use Rattle.std.specs.Prelude.{◌≡◌}
use Rattle.replica_node.specs.Node.{Node}
use Rattle.replica_shelf.specs.Folder.{Stamps}
use Rattle.replica_compare.specs.Comparing.{AreAlike}
use Rattle.replica_open.specs.declared.opening.Opened.{Opened}
use Rattle.replica_open.specs.declared.opening.Opened.TheVariants as found
use Rattle.folder_laws.specs.Told.{AreToldAlike}

-- It is clean, and the replica is alike: size, number, names, parents, marks and readings. What is told of its layers is the
-- same, where one that came with no time has that of the run that saved it, and so is what is told of its head.
abbrev pub IsBack : Stamps → Node → Opened → Type 0
IsBack stamps saved (found.Clean node head) =
    AreAlike saved node × AreToldAlike stamps.now stamps.now saved node × (head ≡ stamps.head)
IsBack stamps saved (found.Unclean flag) = ⊥
IsBack stamps saved (found.Damaged damage) = ⊥
