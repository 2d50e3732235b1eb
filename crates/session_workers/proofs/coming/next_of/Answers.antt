use Rattle.std.proofs.Common.{subst}
use Rattle.frame_stream.specs.Reading.{GivesNext}
use Rattle.session_workers.proofs.Comes.{comes_frame}
use Rattle.session_workers.proofs.coming.next_of.Goals as goal

pub returns-in-Frame-clause-comes : goal.returns-in-Frame-clause-comes
returns-in-Frame-clause-comes g c left frames given =
    comes_frame c.args.calls left (g.I.Source.left c.loop.source) c.loop.reader frames (c.loop.invariant.2 left frames given)
    c.next-in-loop.new.self c.in-Frame.frame c.of_frame.result
    (subst (GivesNext c.loop.reader c.next-in-loop.new.self) c.in-Frame.is c.in_ok-frame.ensures.next) c.of_frame.ensures
