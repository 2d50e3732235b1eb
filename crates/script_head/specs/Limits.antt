-- What a script may ask for, and what its input may have. A member that asks for more is a bad one. The limits are this
-- project's own.
use Rattle.std.specs.Prelude.{ℕ}

-- the most bytes of an input, and so of the frames of a stream
abbrev pub most_input : ℕ
most_input = 268435456

-- the most bytes of the first line, its line feed counted
abbrev pub longest_line : ℕ
longest_line = 1048576

-- the most replicas of a volume
abbrev pub most_replicas : ℕ
most_replicas = 8

-- the most streams
abbrev pub most_streams : ℕ
most_streams = 16

-- the most calls of a run, and so the most commands of a stream
abbrev pub most_calls : ℕ
most_calls = 65536

-- the most failures that are planned of one line
abbrev pub most_failures : ℕ
most_failures = 1024

-- the largest number of a carry that is planned to fail
abbrev pub largest_carry : ℕ
largest_carry = 4294967295
