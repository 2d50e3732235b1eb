use Rattle.volume_model.proofs.EndLemmas.{none_open, none_alone}
use Rattle.volume_model.proofs.laws.a_history_ends_with_no_rebuild_open.Goals as goal

pub returns-clause-rebuilds : goal.returns-clause-rebuilds
returns-clause-rebuilds c = λ opening counted calls journal history r s. none_open journal r s history.within

pub returns-clause-modes : goal.returns-clause-modes
returns-clause-modes c = λ opening counted calls journal history begins r.
    none_alone opening journal r begins history.legal history.within
