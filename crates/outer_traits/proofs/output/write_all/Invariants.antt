use Rattle.std.proofs.Common.{◌≡◌, ℕ, List, ◌++◌, length}
use Rattle.std.specs.Io.KnownBytes.{Appends}
use Rattle.outer_traits.proofs.output.write_all.Given as goal

-- the sink has taken a prefix of the bytes, and has not failed
abbrev pub invariant-loop-rest : goal.invariant-loop-rest
invariant-loop-rest g l = (prefix : List ℕ) × (l.bytes ≡ prefix ++ l.rest)
    × Appends (g.K.Sink.contents l.fn.sink) (g.K.Sink.contents l.sink) prefix × (g.K.Sink.faults l.sink ≡ g.K.Sink.faults l.fn.sink)

abbrev pub decreases-loop-rest : goal.decreases-loop-rest
decreases-loop-rest g l = length l.rest
