use Rattle.volume_model.specs.OneWorker.{served, stream_of}
use Rattle.load_laws.specs.Load.{blank_disk, fresh}
use Rattle.load_laws.proofs.OneWorker.{served_is_run}
use Rattle.load_laws.proofs.Outcome.{has_result, one_result}
use Rattle.load_laws.proofs.laws.one_worker_runs_a_load.Goals as goal

pub returns-clause-run : goal.returns-clause-run
returns-clause-run c = served_is_run

pub returns-clause-one : goal.returns-clause-one
returns-clause-one c = λ store slices counted streams journal run most.
    let calls = stream_of streams in
    let worker = served store (fresh (blank_disk slices)) streams in
    one_result slices calls journal worker (has_result slices counted calls journal run)
    (has_result slices (λ stream replica. 0) calls worker (served_is_run store slices streams run.load most))
