use Rattle.frame_stream.proofs.ReadingLaws.{short_stays, bad_stays}
use Rattle.frame_stream.proofs.laws.only_a_frame_is_taken.Goals as goal

pub returns-clause-short : goal.returns-clause-short
returns-clause-short c = short_stays

pub returns-clause-bad : goal.returns-clause-bad
returns-clause-bad c = bad_stays
