use Rattle.std.proofs.lemmas.Bool.{false≢true}
use Rattle.volume_model.proofs.JournalLemmas.{three≢four}
use Rattle.volume_model.proofs.journals.an_add_ends_with_its_rebuild.Goals as goal

pub returns-clause-unasked : goal.returns-clause-unasked
returns-clause-unasked c = λ legal. false≢true legal.1.1.0.1

pub returns-clause-unpromoted : goal.returns-clause-unpromoted
returns-clause-unpromoted c = λ legal. legal.1.1.1.0

pub returns-clause-another_place : goal.returns-clause-another_place
returns-clause-another_place c = λ legal. three≢four legal.1.1.1.1.1.0
