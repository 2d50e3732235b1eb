use Rattle.std.proofs.Common.{◌≡◌, ◌++◌, length}
use Rattle.frame_wire.specs.Decoding.{Decodes}
use Rattle.frame_stream.proofs.reader.find_behind.Given as goal

abbrev pub invariant-loop-piece : goal.invariant-loop-piece
invariant-loop-piece l = record {
  same : l.held.items ++ l.piece ≡ l.fn.held.items ++ l.fn.piece;
  means : Decodes l.held.items l.most l.found;
}

abbrev pub decreases-loop-piece : goal.decreases-loop-piece
decreases-loop-piece l = length l.piece
