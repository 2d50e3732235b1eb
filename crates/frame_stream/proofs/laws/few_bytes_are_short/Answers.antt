use Rattle.frame_stream.proofs.ReadingLaws.{short_of_frame}
use Rattle.frame_stream.proofs.laws.few_bytes_are_short.Goals as goal

pub returns : goal.returns
returns c = short_of_frame
