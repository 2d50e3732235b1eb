use Rattle.frame_stream.proofs.ReadingLaws.{next_on}
use Rattle.frame_stream.proofs.laws.more_bytes_change_no_answer.Goals as goal

pub returns : goal.returns
returns c = next_on
