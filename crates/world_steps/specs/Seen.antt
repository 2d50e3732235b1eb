-- What a step tells its stream of the World that it saw.
use Rattle.std.specs.Prelude.{ℕ}
use Rattle.std.specs.Option.{option_map}
use Rattle.volume_model.specs.declared.mark.FoldOrDrop.{FoldOrDrop}
use Rattle.open_calls.specs.declared.whole.Whole.{Whole}
use Rattle.open_calls.specs.Maint.{CanGo}
use Rattle.volume_core.specs.State.{State, spot_of, modes_in}
use Rattle.volume_maint.specs.Answers.{snapshots_told}
use Rattle.stream_steps.specs.Seen.{Seen}

-- the ticket of an operation on the whole volume
abbrev pub number_of : Whole → ℕ
number_of w = w.number

-- what is seen of it
abbrev pub seen_of : State → Seen
seen_of s = record {
  log = record { spot = spot_of s; entries = s.book.entries };
  tickets = s.tickets;
  commands = s.maint;
  whole = option_map number_of s.whole;
}

-- the part of a purge can be done, and each replica that is read has folded it
abbrev pub MayGoIn : State → FoldOrDrop → Type 0
MayGoIn s f = CanGo (snapshots_told s) (modes_in s) s.nodes f
