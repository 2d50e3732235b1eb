-- What is so of each entry of a journal where it stands: between the entries before it and those after.
use Rattle.std.specs.Prelude.{List, [], ◌∷◌, ◌++◌}
use Rattle.volume_model.specs.declared.entry.Entry.{Entry}

-- what may be so of an entry between those before it and those after
abbrev pub Place : Type 1
Place = List Entry → Entry → List Entry → Type 0

-- it is so of each of these entries, which stand behind those before
abbrev pub StandFrom : Place → List Entry → List Entry → Type 0
StandFrom Stands before [] = Unit {0}
StandFrom Stands before (e ∷ es) = Stands before e es × StandFrom Stands (before ++ e ∷ []) es

-- of each of a journal
abbrev pub EachStands : Place → List Entry → Type 0
EachStands Stands journal = StandFrom Stands [] journal
