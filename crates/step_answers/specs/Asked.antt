-- What a step is asked: which calls are of a range, which are answered at once, of which replica they are, and the command
-- that asks for what is done to the whole volume.
use Rattle.std.specs.Prelude.{ℕ, ◌<◌, ◌≤◌, length}
use Rattle.volume_model.specs.declared.command.Command.{Command}
use Rattle.volume_model.specs.declared.command.Command.TheVariants as command
use Rattle.volume_model.specs.Commands.{NamesReplica}
use Rattle.volume_model.specs.declared.call.Call.{Call}
use Rattle.volume_model.specs.declared.call.Call.TheVariants as call
use Rattle.volume_model.specs.PlainStep.{longest_call}
use Rattle.step_answers.specs.declared.whole_op.WholeOp.{WholeOp}
use Rattle.step_answers.specs.declared.whole_op.WholeOp.TheVariants as whole

-- a read or a write of no more bytes than one call may have
abbrev pub IsOnRange : Call → Type 0
IsOnRange (call.Read offset n) = n ≤ longest_call
IsOnRange (call.Write offset bytes) = length bytes ≤ longest_call
IsOnRange c = ⊥

-- a call that asks nothing of a replica's blocks
abbrev pub IsNow : Call → Type 0
IsNow (call.Read offset n) = longest_call < n
IsNow call.Ping = Unit {0}
IsNow (call.Other kind) = Unit {0}
IsNow (call.Command (command.Fail r)) = Unit {0}
IsNow (call.Command command.Status) = Unit {0}
IsNow c = ⊥

-- a command that it asks names a replica that is there, if it names one
abbrev pub AsksReplica : ℕ → Call → Type 0
AsksReplica replicas (call.Command c) = NamesReplica replicas c
AsksReplica replicas c = Unit {0}

-- the command that asks for what is done to the whole volume
abbrev pub command_of : WholeOp → Command
command_of (whole.Snapshot name) = command.Snapshot name
command_of (whole.Remove name) = command.Remove name
command_of (whole.Revert name) = command.Revert name
command_of (whole.Purge part) = command.Purge
command_of (whole.Barrier r) = command.Add r
