-- The file that is kept open, and the shelves of which something was not flushed.
use Rattle.std.specs.Prelude.{◌≡◌, ◌⊎◌, ℕ, List, Bool, true, slice_index_or, false, string_bytes}
use Rattle.outer_real.specs.declared.open_file.Access.{Access}
use Rattle.outer_real.specs.declared.open_file.Access.TheVariants.{Read, Write}
use Rattle.outer_real.specs.declared.open_file.OpenFile.{OpenFile}

-- it is noted as that file of that shelf, and is open for this
pub record ServesCall (opened : OpenFile) (shelf : ℕ) (name : List ℕ) (access : Access) : Type 0 where
  pub on : opened.shelf ≡ shelf
  pub named : string_bytes opened.name ≡ name
  pub open_for : (access ≡ Read) ⊎ (opened.access ≡ Write)

-- a shelf that was marked is marked still
abbrev pub MarksStay : List Bool → List Bool → Type 0
MarksStay old new = (shelf : ℕ) → slice_index_or old shelf false ≡ true → slice_index_or new shelf false ≡ true
