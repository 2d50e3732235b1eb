use Rattle.std.proofs.Common.{◌≡◌, List, []}
use Rattle.frame_stream.specs.declared.frame.Frame.{Frame}
use Rattle.replica_serve.specs.Turns.{HasAnswered}
use Rattle.replica_serve.proofs.serve.serve_replica.Given as goal

abbrev pub invariant-loop : goal.invariant-loop
invariant-loop g l =
    (goal.iterator-loop g).can_next l.iterator' × (goal.iterator-loop g).is_finite l.iterator'
    × ((frames : List Frame) × HasAnswered l.fn.node.disk l.node.disk (g.S.Source.left l.fn.source) (g.S.Source.left l.source)
    (g.K.Sink.contents l.fn.sink) (g.K.Sink.contents l.sink) l.reader frames)
    × (l.replies.items ≡ [])
    × (g.S.Source.faults l.source ≡ g.S.Source.faults l.fn.source) × (g.K.Sink.faults l.sink ≡ g.K.Sink.faults l.fn.sink)
