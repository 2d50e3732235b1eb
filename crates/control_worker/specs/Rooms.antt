-- What a command is carried in.
use Rattle.std.specs.Prelude.{ℕ, ◌+◌, ◌≤◌}
use Rattle.frame_wire.specs.Spelling.{header_length}
use Rattle.control_worker.specs.Frames.{longest_text}

-- so many bytes are enough for the longest request, and for any frame that arrives
abbrev pub HasRoom : ℕ → Type 0
HasRoom capacity = header_length + longest_text ≤ capacity
