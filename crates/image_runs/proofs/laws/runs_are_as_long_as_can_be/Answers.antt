use Rattle.image_runs.proofs.LongestRuns.{run_bytes-runs, All_runs_filled, runs_apart}
use Rattle.image_runs.proofs.laws.runs_are_as_long_as_can_be.Goals as goal

pub returns-clause-spelled : goal.returns-clause-spelled
returns-clause-spelled c = run_bytes-runs

pub returns-clause-filled : goal.returns-clause-filled
returns-clause-filled c = All_runs_filled

pub returns-clause-apart : goal.returns-clause-apart
returns-clause-apart c = runs_apart
