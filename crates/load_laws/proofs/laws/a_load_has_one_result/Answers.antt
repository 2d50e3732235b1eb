use Rattle.load_laws.proofs.Outcome.{has_result, one_result}
use Rattle.load_laws.proofs.laws.a_load_has_one_result.Goals as goal

pub returns-clause-result : goal.returns-clause-result
returns-clause-result c = has_result

pub returns-clause-one : goal.returns-clause-one
returns-clause-one c = λ slices counted counted_too calls journal other run too. one_result slices calls journal other
    (has_result slices counted calls journal run) (has_result slices counted_too calls other too)
