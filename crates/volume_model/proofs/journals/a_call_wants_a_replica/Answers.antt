use Rattle.std.proofs.Common.{◌∷◌, [], refl}
use Rattle.volume_model.specs.declared.mode.Mode.TheVariants.{Err}
use Rattle.volume_model.proofs.StepLemmas.{has_no_source}
use Rattle.volume_model.proofs.SpotLemmas.{no_source}
use Rattle.volume_model.proofs.journals.a_call_wants_a_replica.Goals as goal

pub returns-clause-one_left : goal.returns-clause-one_left
returns-clause-one_left c = λ legal. (legal.0.none refl).none 1 refl

pub returns-clause-none_left : goal.returns-clause-none_left
returns-clause-none_left c = λ legal. has_no_source (Err ∷ Err ∷ []) (legal.0.source refl refl) (no_source (Err ∷ Err ∷ []) refl)
