use Rattle.std.proofs.Common.{◌++◌, ap, ◌∙◌}
use Rattle.image_runs.specs.Runs.{run_bytes}
use Rattle.image_runs.proofs.LongestRuns.{run_bytes-runs}
use Rattle.run_report.proofs.list.digest_runs.Goals as goal

pub loop-byte-init : goal.loop-byte-init
loop-byte-init c = ap (λ l. c.args.digest.now ++ l) (ap run_bytes c.runs-left.ensures ∙ run_bytes-runs c.args.list.now)
