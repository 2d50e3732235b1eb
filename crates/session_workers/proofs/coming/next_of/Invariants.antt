use Rattle.std.proofs.Common.{◌≡◌, ℕ, List, Option}
use Rattle.frame_stream.specs.declared.frame.Frame.{Frame}
use Rattle.client_input.specs.Giving.{HasGiven}
use Rattle.session_workers.proofs.coming.next_of.Given as goal

abbrev pub invariant-loop : goal.invariant-loop
invariant-loop g l =
    (goal.iterator-loop g).can_next l.iterator' × (goal.iterator-loop g).is_finite l.iterator'
    × ((left : Option (List ℕ)) (frames : List Frame) → HasGiven left (g.I.Source.left l.fn.source) l.fn.reader frames
    → HasGiven left (g.I.Source.left l.source) l.reader frames)
    × (g.I.Source.faults l.source ≡ g.I.Source.faults l.fn.source)
