-- What is good in each script that is run: its commands, its streams, and its plans of lines.
use Rattle.std.specs.Prelude.{ℕ, ◌<◌, ◌≤◌, Bool, false, List, length, All, count_by, sum_by}
use Rattle.volume_model.specs.Commands.{HasGoodName, NamesReplica}
use Rattle.volume_model.specs.declared.command.Command.{Command}
use Rattle.script_head.specs.Limits.{most_replicas, most_streams, most_calls, most_failures, largest_carry}
use Rattle.script_head.specs.LinePlans.{RisesAbove, NoPairTwice}
use Rattle.script_head.specs.Members.{has_backup}
use Rattle.script_head.specs.declared.line_plan.LinePlan.{LinePlan}
use Rattle.script_text.specs.declared.script.Script.{Script}
use Rattle.script_text.specs.declared.script.Stream.{Stream}
use Rattle.script_text.specs.declared.script.Stream.TheVariants as stream
use Rattle.frame_stream.specs.Frames.{IsCall}
use Rattle.script_text.specs.Streams.{stream_length}

-- a command that a script of so many replicas may have: it is of one that is there
pub record IsGoodCommand (replicas : ℕ) (c : Command) : Type 0 where
  pub named : HasGoodName c
  pub there : NamesReplica replicas c

-- a stream of frames that are calls, or of such commands
abbrev pub IsGoodStream : ℕ → Stream → Type 0
IsGoodStream replicas (stream.Frames frames) = All IsCall frames
IsGoodStream replicas (stream.Control commands) = All (IsGoodCommand replicas) commands

-- whether it is a stream with backups
abbrev pub backs_up : Stream → Bool
backs_up (stream.Frames frames) = false
backs_up (stream.Control commands) = has_backup commands

-- carries of a line, from 1, that rise
pub record AreCarries (fail : List ℕ) : Type 0 where
  pub few : length fail ≤ most_failures
  pub rising : RisesAbove 0 fail
  pub small : All (λ n. n ≤ largest_carry) fail

-- the plan of a line from one of so many streams to one of so many replicas
pub record IsGoodPlan (streams replicas : ℕ) (plan : LinePlan) : Type 0 where
  pub worker : plan.worker < streams
  pub replica : plan.replica < replicas
  pub carries : AreCarries plan.fail

-- A script that can be run, of few replicas and streams, each of which is good, and of few calls together. One stream at most
-- has backups, and the plans are good, no two of them of one line.
pub record IsGood (script : Script) : Type 0 where
  pub some_replicas : 1 ≤ script.replicas
  pub few_replicas : script.replicas ≤ most_replicas
  pub some_streams : 1 ≤ length script.streams
  pub few_streams : length script.streams ≤ most_streams
  pub streams : All (IsGoodStream script.replicas) script.streams
  pub calls : sum_by stream_length script.streams ≤ most_calls
  pub backups : count_by backs_up script.streams ≤ 1
  pub plans : All (IsGoodPlan (length script.streams) script.replicas) script.lines
  pub once : NoPairTwice script.lines
