use Rattle.std.proofs.Common.{refl}
use Rattle.std.specs.Fmt.{digits}
use Rattle.frame_stream.specs.Replies.{head_bytes}
use Rattle.run_report.proofs.rows.the_summary_reads.Goals as goal

pub returns-clause-stream : goal.returns-clause-stream
unfolding digits
returns-clause-stream c = refl

pub returns-clause-failed : goal.returns-clause-failed
unfolding digits
returns-clause-failed c = refl

pub returns-clause-frames : goal.returns-clause-frames
unfolding head_bytes
returns-clause-frames c = refl
