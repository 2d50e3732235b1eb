use Rattle.std.proofs.Common.{refl}
use Rattle.std.specs.Fmt.{digits}
use Rattle.image_runs.proofs.laws.the_text_reads.Goals as goal

pub returns-clause-runs : goal.returns-clause-runs
unfolding digits
returns-clause-runs c = refl

pub returns-clause-digits : goal.returns-clause-digits
unfolding digits
returns-clause-digits c = refl

pub returns-clause-again : goal.returns-clause-again
unfolding digits
returns-clause-again c = refl
