-- The lines that have shown a fault, each with the count that its last fault mark tells.
use Rattle.std.specs.Prelude.{◌≡◌, ℕ, List, Bool, ◌==◌, ◌&&◌}
use Rattle.std.specs.List.{find}
use Rattle.std.specs.Option.{option_map_or}
use Rattle.journal_book.specs.declared.faults.LastCount.{LastCount}
use Rattle.volume_model.specs.declared.entry.Entry.{Entry}
use Rattle.volume_model.specs.Faults.{last_count}

-- it is the line of the stream to the replica
abbrev pub is_line : ℕ → ℕ → LastCount → Bool
is_line stream replica line = line.stream == stream && line.replica == replica

-- the count of that line, and 0 where it has shown none
abbrev pub count_in : ℕ → ℕ → List LastCount → ℕ
count_in stream replica lines = option_map_or (λ line. line.count) (find (is_line stream replica) lines) 0

-- they tell the last count of each line
abbrev pub AreLast : List LastCount → List Entry → Type 0
AreLast lines entries = (stream replica : ℕ) → count_in stream replica lines ≡ last_count stream replica entries
