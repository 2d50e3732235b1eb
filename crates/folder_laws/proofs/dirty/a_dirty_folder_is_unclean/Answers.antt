use Rattle.folder_laws.proofs.DirtyLemmas.{one_answer}
use Rattle.folder_laws.proofs.dirty.a_dirty_folder_is_unclean.Goals as goal

pub returns : goal.returns
returns c = λ folder size volume opened is dirty answer. one_answer folder size volume is dirty opened answer
