-- The streams of a good script are such as workers take.
use Rattle.std.proofs.Common.{ℕ, All}
use Rattle.std.proofs.lemmas.List.Elements.{All-weaker}
use Rattle.volume_model.specs.declared.command.Command.{Command}
use Rattle.volume_model.specs.declared.command.Command.TheVariants as command
use Rattle.script_text.specs.declared.script.Script.{Script}
use Rattle.script_text.specs.declared.script.Stream.{Stream}
use Rattle.script_text.specs.declared.script.Stream.TheVariants as stream
use Rattle.frame_stream.specs.Frames.{IsCall}
use Rattle.script_text.specs.Good.{IsGoodCommand, IsGoodStream, IsGood}
use Rattle.client_worker.specs.Asks.{IsAsked}
use Rattle.client_worker.proofs.ServedLaws.{asked_call}
use Rattle.control_worker.specs.Serving.{IsForWorker}
use Rattle.stream_turns.specs.Turn.{IsTaken}

for_commands : (replicas : ℕ) (c : Command) → IsGoodCommand replicas c → IsForWorker replicas c
for_commands replicas (command.Snapshot name) good = good.named.user
for_commands replicas (command.Remove name) good = tt
for_commands replicas (command.Revert name) good = tt
for_commands replicas command.Purge good = tt
for_commands replicas command.Status good = tt
for_commands replicas (command.Fail r) good = good.there
for_commands replicas (command.Add r) good = good.there
for_commands replicas (command.Backup backup snapshot) good = tt

stream_taken : (replicas : ℕ) (s : Stream) → IsGoodStream replicas s → IsTaken replicas s
stream_taken replicas (stream.Frames frames) good = All-weaker IsCall IsAsked asked_call frames good
stream_taken replicas (stream.Control commands) good =
    All-weaker (IsGoodCommand replicas) (IsForWorker replicas) (for_commands replicas) commands good

pub all_taken : (script : Script) → IsGood script → All (IsTaken script.replicas) script.streams
all_taken script good =
    All-weaker (IsGoodStream script.replicas) (IsTaken script.replicas) (stream_taken script.replicas) script.streams good.streams
