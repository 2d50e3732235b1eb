-- Which answers the entries that a stream added have, beside all entries that came.
use Rattle.std.specs.Prelude.{◌≡◌, List, [], ◌∷◌}
use Rattle.volume_model.specs.declared.entry.Answer.{Answer}
use Rattle.volume_model.specs.declared.entry.Entry.{Entry}
use Rattle.volume_model.specs.declared.entry.Entry.TheVariants as entry
use Rattle.stream_steps.specs.Mine.{Placed, entries_in}

-- the answers among the entries, in their order: marks are left out
abbrev pub answers_in : List Entry → List Answer
answers_in [] = []
answers_in (entry.Answer a ∷ es) = a ∷ answers_in es
answers_in (entry.Mark m ∷ es) = answers_in es

-- the stream's own entries have the same answers as all that came
abbrev pub HasAnswers : List Placed → List Entry → Type 0
HasAnswers own all = answers_in (entries_in own) ≡ answers_in all
