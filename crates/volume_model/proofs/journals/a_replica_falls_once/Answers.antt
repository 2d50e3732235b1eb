use Rattle.std.proofs.Common.{refl, inr, arith}
use Rattle.volume_model.proofs.journals.a_replica_falls_once.Goals as goal

pub returns-clause-again : goal.returns-clause-again
returns-clause-again c = λ legal. legal.1.1.0.up refl

pub returns-clause-same_count : goal.returns-clause-same_count
returns-clause-same_count c = λ shown. let rises = shown 0 1 in omega (arith, rises.2.0)

pub returns-clause-another_call : goal.returns-clause-another_call
returns-clause-another_call c = λ legal. let is = legal.0.1 in cc

pub returns-clause-source_falls : goal.returns-clause-source_falls
returns-clause-source_falls c = λ legal. let is = legal.1.1.1.0.ends 1 0 refl (inr refl) in cc
