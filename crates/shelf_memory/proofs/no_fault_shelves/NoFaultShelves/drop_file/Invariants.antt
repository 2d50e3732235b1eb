use Rattle.std.proofs.Common.{length}
use Rattle.shelf_traits.specs.Files.{OthersStay}
use Rattle.shelf_memory.specs.Kept.{files_of}
use Rattle.shelf_memory.proofs.no_fault_shelves.NoFaultShelves.drop_file.Given as goal

abbrev pub invariant-loop-place : goal.invariant-loop-place
invariant-loop-place l =
    OthersStay l.shelf l.name (files_of l.initial.self-inside.files.items) (files_of l.self-inside.files.items)

abbrev pub decreases-loop-place : goal.decreases-loop-place
decreases-loop-place l = length l.self-inside.files.items
