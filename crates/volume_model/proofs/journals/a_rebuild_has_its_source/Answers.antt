use Rattle.std.proofs.Common.{refl}
use Rattle.volume_model.proofs.JournalLemmas.{rw≢err, err≢rw, unasked≢open}
use Rattle.volume_model.proofs.journals.a_rebuild_has_its_source.Goals as goal

pub returns-clause-source : goal.returns-clause-source
returns-clause-source c = λ legal. err≢rw legal.1.1.0.source.read

pub returns-clause-not_failed : goal.returns-clause-not_failed
returns-clause-not_failed c = λ legal. rw≢err legal.0.failed

pub returns-clause-one_at_a_time : goal.returns-clause-one_at_a_time
returns-clause-one_at_a_time c = λ legal. legal.1.1.1.0.alone 1 0 refl

pub returns-clause-no_rebuild : goal.returns-clause-no_rebuild
returns-clause-no_rebuild c = λ legal. unasked≢open legal.0.source legal.0.begun
