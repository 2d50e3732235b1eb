use Rattle.std.proofs.Common.{◌≡◌, length, List}
use Rattle.desk_lock.specs.Seats.{last_of}
use Rattle.frame_stream.specs.declared.frame.Frame.{Frame}
use Rattle.session_serve.specs.Sessions.{MayCall}
use Rattle.world_holder.specs.Laid.{laid}
use Rattle.world_holder.specs.Lent.{IsSince}
use Rattle.session_workers.specs.Talking.{HasReplied}
use Rattle.session_workers.proofs.serve.serve_calls.Given as goal

abbrev pub invariant-loop : goal.invariant-loop
invariant-loop g l =
    (goal.iterator-loop g).can_next l.iterator' × (goal.iterator-loop g).is_finite l.iterator'
    × MayCall g.L.Line.count g.L.Line.carried l.desk l.seat l.session
    × (l.session.number ≡ l.fn.session.number) × IsSince (laid (last_of l.fn.seat)) (laid (last_of l.seat))
    × ((frames : List Frame) × (l.calls ≡ length frames) × HasReplied l.fn.session.number (g.I.Source.left l.fn.client.source)
    (g.I.Source.left l.client.source) (g.O.Sink.contents l.fn.client.sink) (g.O.Sink.contents l.client.sink) l.reader
    (laid (last_of l.seat)).book.entries frames)
    × (g.I.Source.faults l.client.source ≡ g.I.Source.faults l.fn.client.source)
    × (g.O.Sink.faults l.client.sink ≡ g.O.Sink.faults l.fn.client.sink)
