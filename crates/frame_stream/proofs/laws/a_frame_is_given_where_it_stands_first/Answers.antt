use Rattle.frame_stream.proofs.ReadingLaws.{given_stands, standing_given}
use Rattle.frame_stream.proofs.laws.a_frame_is_given_where_it_stands_first.Goals as goal

pub returns : goal.returns
returns c = λ fed new f. (given_stands fed new f, standing_given fed new f)
