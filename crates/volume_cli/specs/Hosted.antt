-- What is left of sessions that came through doors and were served side by side.
use Rattle.std.specs.Prelude.{◌≡◌, ◌⊎◌, ◌≤◌, ◌++◌, ℕ, List, length, map, All, Option, Result, Ok, Err}
use Rattle.std.specs.Io.KnownBytes.{Appends}
use Rattle.outer_traits.specs.Causes.{Rose}
use Rattle.outer_traits.specs.Passing.{WritesPrefix}
use Rattle.door_traits.specs.Sessions.{Come, Told}
use Rattle.replica_node.specs.Volume.{volume_of_node}
use Rattle.report_laws.specs.Fits.{AllFit}
use Rattle.report_writer.specs.Written.{sessions_text}
use Rattle.run_report.specs.Sessions.{sessions_report}
use Rattle.session_workers.specs.Served.{AreCutShort, AreSessionsServed}
use Rattle.session_workers.specs.declared.serving.ServedSessions.{ServedSessions}
use Rattle.stream_turns.specs.Volume.{spot_of_zeros}
use Rattle.volume_cli.specs.declared.serve.HostError.{HostError}
use Rattle.volume_cli.specs.declared.serve.HostError.TheVariants as host_error
use Rattle.volume_cli.specs.declared.status.Status.{Status}
use Rattle.volume_cli.specs.declared.status.Status.TheVariants as status

-- ---- the doors

-- what may be so of sessions that told the first as they came, and the second as they went
abbrev pub PassFact : Type 1
PassFact = (before now : List Told) → Type 0

-- They were the first of those that were to come, and came untouched. They went back behind those that had gone before.
abbrev pub HavePassed : (coming rest : List (List ℕ)) → (back all : List Told) → PassFact
HavePassed coming rest back all before now = Come coming rest before × (all ≡ back ++ now)

-- neither end of the session has failed
abbrev pub HasNotFailed : Told → Type 0
HasNotFailed t = (t.read_faults ≡ 0) × (t.write_faults ≡ 0)

-- ---- the sessions

-- So many sessions passed, and came with ends that had not failed. They were served so, on a blank volume of that size with
-- so many replicas. What the journal's entries hold fits its type, so that no two such journals have one report.
pub record AreHosted (size replicas sessions : ℕ) (Pass : PassFact) (s : ServedSessions) : Type 0 where
  pub before : List Told
  pub now : List Told
  pub passed : Pass before now
  pub came : length before ≡ sessions
  pub went : length now ≡ sessions
  pub unfailed : All HasNotFailed before
  pub served : AreSessionsServed size replicas before now s
  pub fits : AllFit s.world.journal.entries

-- what is printed of them: the report of their journal
abbrev pub hosted_text : ℕ → ℕ → ServedSessions → List ℕ
hosted_text size replicas s = sessions_report s.ended.items (spot_of_zeros size replicas) s.world.journal.entries

-- What is left of so many sessions whose serving ended so. The sink has got the whole report, or a prefix; `same` says that
-- it is as it was. Where the doors failed, those that had come went back as they came; where memory ran out, too, or all had
-- come and went back from sessions that had ended or were cut short.
module _ (size replicas sessions : ℕ) (Pass : PassFact) (same : Type 0) (old new : Option (List ℕ)) where
  abbrev pub HostsSome : Type 0
  HostsSome =
      (s : ServedSessions) × AreHosted size replicas sessions Pass s × WritesPrefix old new (hosted_text size replicas s)

  abbrev pub GoBackUntouched : Type 0
  GoBackUntouched = (those : List Told) × (length those ≤ sessions) × Pass those those

  abbrev pub GoBackCutShort : Type 0
  GoBackCutShort = (before : List Told) × (now : List Told) × (length before ≡ sessions) × (length now ≡ sessions)
      × Pass before now × AreCutShort before now

  abbrev pub LeavesHosted : Result (Unit {0}) HostError → Type 0
  LeavesHosted (Ok done) =
      (s : ServedSessions) × AreHosted size replicas sessions Pass s × Appends old new (hosted_text size replicas s)
  LeavesHosted (Err host_error.DoorFault) = same × GoBackUntouched
  LeavesHosted (Err host_error.WriteFault) = HostsSome
  LeavesHosted (Err host_error.NoMemory) = (same × (GoBackUntouched ⊎ GoBackCutShort)) ⊎ HostsSome

-- ---- what the status tells

-- the status of a serving that ended so
abbrev pub host_status : Result (Unit {0}) HostError → Status
host_status (Ok done) = status.Done
host_status (Err host_error.DoorFault) = status.DoorFault
host_status (Err host_error.WriteFault) = status.WriteFault
host_status (Err host_error.NoMemory) = status.NoMemory

-- it is the status of such an end, and that is left which goes with it
abbrev pub Hosts : (size replicas sessions : ℕ) → PassFact → (same : Type 0) → (old new : Option (List ℕ)) → Status → Type 0
Hosts size replicas sessions Pass same old new answer = (end : Result (Unit {0}) HostError) × (answer ≡ host_status end)
    × LeavesHosted size replicas sessions Pass same old new end

-- what the counts of faults of the sink (k, then l) and of the doors (d, then e) say of it
abbrev pub HostCounts : Result (Unit {0}) HostError → ℕ → ℕ → ℕ → ℕ → Type 0
HostCounts (Ok done) k l d e = (l ≡ k) × (e ≡ d)
HostCounts (Err host_error.DoorFault) k l d e = (l ≡ k) × Rose d e
HostCounts (Err host_error.WriteFault) k l d e = Rose k l × (e ≡ d)
HostCounts (Err host_error.NoMemory) k l d e = (l ≡ k) × (e ≡ d)

-- ---- what is written

-- what is written of sessions that were served, and of the replicas as they are then
abbrev pub served_text : ServedSessions → List ℕ
served_text s = sessions_text s.ended.items s.world.journal (map volume_of_node s.world.nodes.items)
