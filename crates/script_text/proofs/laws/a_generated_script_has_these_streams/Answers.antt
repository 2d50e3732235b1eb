use Rattle.script_text.proofs.GeneratedGood.{length-streams_from, stream_at, control_at, no_backups}
use Rattle.script_text.proofs.laws.a_generated_script_has_these_streams.Goals as goal

pub returns-clause-count : goal.returns-clause-count
returns-clause-count c = λ number streams calls. length-streams_from number calls 0 streams

pub returns-clause-frames : goal.returns-clause-frames
returns-clause-frames c = stream_at

pub returns-clause-control : goal.returns-clause-control
returns-clause-control c = λ number streams calls. control_at number calls 0 streams

pub returns-clause-backups : goal.returns-clause-backups
returns-clause-backups c = no_backups
