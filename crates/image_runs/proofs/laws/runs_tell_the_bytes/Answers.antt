use Rattle.image_runs.proofs.TextTells.{runs_text_injective}
use Rattle.image_runs.proofs.laws.runs_tell_the_bytes.Goals as goal

pub returns : goal.returns
returns c = runs_text_injective
