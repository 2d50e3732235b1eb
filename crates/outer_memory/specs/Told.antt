-- What lines in memory told when they were taken back.
use Rattle.std.specs.Prelude.{ℕ, List, Option, None, Some}
use Rattle.outer_traits.specs.Lines.{Asked}
use Rattle.outer_memory.specs.declared.memory_line.Told.{Told}
use Rattle.outer_memory.specs.declared.memory_wiring.LineAsk.{LineAsk}
use Rattle.outer_memory.specs.Frames.{told_frames}

-- how often the line had failed, and 0 where none was taken back
abbrev pub faults_told : Option Told → ℕ
faults_told None = 0
faults_told (Some told) = told.faults

-- what it had carried, where it told that
abbrev pub frames_of : Option Told → Option (List (List ℕ))
frames_of None = None
frames_of (Some told) = told_frames told.faults told.kept.frames

-- what a line was asked for
abbrev pub ask_of : LineAsk → Asked
ask_of a = record { ends = a.ends; fails = a.fails.items }
