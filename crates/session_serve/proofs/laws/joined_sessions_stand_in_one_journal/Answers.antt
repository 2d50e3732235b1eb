use Rattle.session_serve.proofs.Joined.{all_stand}
use Rattle.session_serve.proofs.laws.joined_sessions_stand_in_one_journal.Goals as goal

pub returns : goal.returns
returns c = all_stand
