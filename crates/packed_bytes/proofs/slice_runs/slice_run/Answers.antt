use Rattle.std.proofs.Common.{refl}
use Rattle.packed_bytes.proofs.RunLemmas.{first_run}
use Rattle.packed_bytes.proofs.slice_runs.slice_run.Goals as goal

pub returns-clause-run : goal.returns-clause-run
returns-clause-run c = (first_run c.args.bytes.now _ c.run_length.result c.requires refl c.run_length.ensures.value).1
