-- The records of lines that were taken back, as the list that they are.
use Rattle.std.specs.Prelude.{List, [], ◌∷◌}
use Rattle.outer_traits.specs.declared.taken_back.LineRecord.{LineRecord}
use Rattle.outer_traits.specs.declared.taken_back.Pile.{Pile, Empty, On'}

-- the last first
abbrev pub records_in : {T : Type 0} → Pile T → List (LineRecord T)
records_in Empty = []
records_in (On' r p below) = r ∷ records_in below
