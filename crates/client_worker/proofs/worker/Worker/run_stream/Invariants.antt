use Rattle.std.proofs.Common.{◌≡◌, List, ◌++◌, length, map}
use Rattle.std.specs.List.{All}
use Rattle.frame_stream.specs.Asked.{call_of}
use Rattle.frame_stream.specs.declared.frame.Frame.{Frame}
use Rattle.client_worker.specs.Asks.{IsAsked}
use Rattle.client_worker.specs.Serving.{Grew}
use Rattle.client_worker.specs.Working.{Stays}
use Rattle.client_worker.proofs.worker.Worker.run_stream.Given as goal

-- the calls of the frames before are served
abbrev pub invariant-loop-left : goal.invariant-loop-left
invariant-loop-left g l = record {
  stays : Stays g.C.ClientSteps.home g.L.Line.ends l.initial.self l.self;
  asked : All IsAsked l.left;
  done : (frames : List Frame) × (frames ++ l.left ≡ l.fn.frames)
      × Grew (map call_of frames) (g.C.ClientSteps.mine l.initial.self.steps) (g.C.ClientSteps.mine l.self.steps);
}

abbrev pub decreases-loop-left : goal.decreases-loop-left
decreases-loop-left g l = length l.left
