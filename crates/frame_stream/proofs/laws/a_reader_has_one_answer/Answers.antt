use Rattle.frame_stream.proofs.ReadingLaws.{one_next}
use Rattle.frame_stream.proofs.laws.a_reader_has_one_answer.Goals as goal

pub returns : goal.returns
returns c = one_next
