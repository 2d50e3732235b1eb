use Rattle.std.proofs.Common.{ap}
use Rattle.script_text.specs.declared.script.Stream.TheVariants as stream
use Rattle.script_text.specs.Generated.{streams_from}
use Rattle.script_text.proofs.GeneratedLemmas.{next_stream_made}
use Rattle.script_text.proofs.generated.make_streams.Goals as goal

pub loop-page-preserved : goal.loop-page-preserved
loop-page-preserved c =
    rw c.in_ok-push.ensures.items
    (next_stream_made c.loop-page.made.items c.args.number c.args.calls c.loop-page.page c.args.streams
    (streams_from c.args.number c.args.calls 0 c.args.streams) _ c.loop-page-test.true c.loop-page.invariant
    (ap stream.Frames c.in_ok-make_frames.ensures))
