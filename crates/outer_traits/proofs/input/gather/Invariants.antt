use Rattle.std.proofs.Common.{◌≡◌, ◌+◌, ◌-◌, ◌<◌, ◌≤◌, vec_len}
use Rattle.std.specs.Io.KnownBytes.{Consumes}
use Rattle.outer_traits.proofs.input.gather.Given as goal

-- the input so far is what the source has given, and it has not failed
abbrev pub invariant-loop-piece : goal.invariant-loop-piece
invariant-loop-piece g l = record {
  room : 0 < vec_len l.piece;
  most : vec_len l.input ≤ l.most + 1;
  bytes : Consumes (g.S.Source.left l.fn.source) (g.S.Source.left l.source) l.input.items;
  faults : g.S.Source.faults l.source ≡ g.S.Source.faults l.fn.source;
}

abbrev pub decreases-loop-piece : goal.decreases-loop-piece
decreases-loop-piece g l = (l.most + 1) - vec_len l.input
