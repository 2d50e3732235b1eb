use Rattle.std.proofs.Common.{◌≡◌, List, length}
use Rattle.frame_stream.specs.declared.frame.Frame.{Frame}
use Rattle.replica_serve.specs.Turns.{AnswersCalls}
use Rattle.replica_serve.proofs.serve.serve_waiting.Given as goal

abbrev pub invariant-loop-frame : goal.invariant-loop-frame
invariant-loop-frame g l =
    (frames : List Frame) × AnswersCalls l.fn.reader l.reader l.fn.node.disk l.node.disk l.fn.replies.items l.replies.items
    (g.K.Sink.contents l.fn.sink) (g.K.Sink.contents l.sink) frames
    × (g.K.Sink.faults l.sink ≡ g.K.Sink.faults l.fn.sink)

abbrev pub decreases-loop-frame : goal.decreases-loop-frame
decreases-loop-frame g l = length l.reader.left
