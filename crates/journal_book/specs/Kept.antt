-- What a journal keeps beside its entries: what they leave, and places for more.
use Rattle.std.specs.Prelude.{◌≡◌, ◌+◌, ◌<◌, ◌≤◌, ◌^◌, length, vec_len, vec_capacity}
use Rattle.indexmap.specs.IndexMap.{spare}
use Rattle.journal_book.specs.declared.journal.Journal.TheInside.{Inside}
use Rattle.journal_book.specs.Lines.{AreLast}
use Rattle.journal_book.specs.Taken.{taken_of}
use Rattle.volume_model.specs.Modes.{modes_after}
use Rattle.volume_model.specs.Names.{layers_after, names_after}

-- the modes, the count of layers, the names and the last counts are what the entries leave
pub record IsLeft (j : Inside) : Type 0 where
  pub modes : j.modes ≡ modes_after j.opening.value.modes j.entries.entries
  pub layers : j.layers ≡ layers_after j.opening.value.layers j.entries.entries
  pub names : taken_of j.names.entries ≡ names_after j.opening.value.names j.entries.entries
  pub lines : AreLast j.lines.items j.entries.entries

-- places are made for the spare entries, each of which may take a name, show a line's first fault and add a layer
pub record IsRoomy (j : Inside) : Type 0 where
  pub names : j.entries.spare ≤ spare j.names
  pub lines : vec_len j.lines + j.entries.spare ≤ vec_capacity j.lines
  pub layers : j.layers < 2 ^ 32 + length j.entries.entries
