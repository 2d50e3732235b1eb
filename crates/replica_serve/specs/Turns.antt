-- What the parts of serving a client say to each other.
use Rattle.std.specs.Prelude.{◌≡◌, ℕ, List, ◌++◌, All, Option, Result, Ok, Err}
use Rattle.std.specs.Io.KnownBytes.{Appends}
use Rattle.outer_traits.specs.Causes.{Rose}
use Rattle.outer_traits.specs.Passing.{Passes, WritesPrefix}
use Rattle.frame_stream.specs.Frames.{spellings, IsCall, IsClose}
use Rattle.frame_stream.specs.Reading.{Fed, GivesNext}
use Rattle.frame_stream.specs.declared.frame.Frame.{Frame}
use Rattle.frame_stream.specs.declared.reader.Next.TheVariants as next
use Rattle.client_input.specs.Giving.{GivesCalls, HasGiven}
use Rattle.replica_serve.specs.declared.error.ServeError.{ServeError}
use Rattle.replica_serve.specs.declared.error.ServeError.TheVariants as error
use Rattle.replica_serve.specs.declared.serve.Served.{Served}
use Rattle.replica_serve.specs.declared.serve.Served.TheVariants as served
use Rattle.replica_serve.specs.declared.serve.Turn.{Turn}
use Rattle.replica_serve.specs.declared.serve.Turn.TheVariants as turn
use Rattle.replica_serve.specs.Answers.{disk_with, disk_behind, reply_to, replies_to}

-- ---- one frame

-- a call was answered, or a Close stood there, and nothing was done
abbrev pub TakesTurn : Frame → (disk now had has : List ℕ) → Turn → Type 0
TakesTurn f disk now had has turn.Answered =
    (IsClose f → ⊥) × (has ≡ had ++ reply_to disk f) × (now ≡ disk_with disk f)
TakesTurn f disk now had has turn.Closed = IsClose f × (has ≡ had) × (now ≡ disk)

-- ---- all frames that are there

-- Calls stood first of what was fed, and were given and answered: the disk is behind them, and the replies stand behind
-- those that a buffer had, of which a prefix went to the sink.
pub record AnswersCalls (fed at : Fed) (disk now had has : List ℕ) (sink0 sink1 : Option (List ℕ)) (frames : List Frame)
    : Type 0 where
  pub gives : GivesCalls fed at frames
  pub leaves : now ≡ disk_behind disk frames
  pub replies : Passes sink0 sink1 had has (replies_to disk frames)

-- where that stopped, and why
abbrev pub StopsSo : Fed → Fed → Served → Type 0
StopsSo at new served.All = GivesNext at new next.Short
StopsSo at new (served.Bad place) = GivesNext at new (next.Bad place)
StopsSo at new served.Closed = (f : Frame) × GivesNext at new (next.Frame f) × IsClose f

-- both
abbrev pub ServesAll : (fed new : Fed) (disk now had has : List ℕ) (sink0 sink1 : Option (List ℕ)) → Served → Type 0
ServesAll fed new disk now had has sink0 sink1 served = (frames : List Frame) × (at : Fed)
    × AnswersCalls fed at disk now had has sink0 sink1 frames × StopsSo at new served

-- some calls stood first of what was fed, and a prefix of the replies to them went to the sink, behind what a buffer had
abbrev pub ServesSome : (fed : Fed) (disk had : List ℕ) (sink0 sink1 : Option (List ℕ)) → Type 0
ServesSome fed disk had sink0 sink1 = (frames : List Frame) × (rest : List ℕ) × All IsCall frames
    × (fed.left ≡ spellings frames ++ rest) × WritesPrefix sink0 sink1 (had ++ replies_to disk frames)

-- ---- counts of faults

-- of the sink, where replies are written
abbrev pub WriteCounts : {T : Type 0} → Result T ServeError → ℕ → ℕ → Type 0
WriteCounts (Ok done) k l = l ≡ k
WriteCounts (Err error.ReadFault) k l = ⊥
WriteCounts (Err error.WriteFault) k l = Rose k l
WriteCounts (Err (error.Frame place)) k l = ⊥
WriteCounts (Err error.NoMemory) k l = l ≡ k

-- of the source, where it is read
abbrev pub ReadCounts : {T : Type 0} → Result T ServeError → ℕ → ℕ → Type 0
ReadCounts (Ok done) s t = t ≡ s
ReadCounts (Err error.ReadFault) s t = Rose s t
ReadCounts (Err error.WriteFault) s t = ⊥
ReadCounts (Err (error.Frame place)) s t = ⊥
ReadCounts (Err error.NoMemory) s t = t ≡ s

-- ---- so far

-- The source gave these calls' frames and what the reader has left, and the calls were answered: the sink has all their
-- replies.
pub record HasAnswered (disk now : List ℕ) (left0 left1 sink0 sink1 : Option (List ℕ)) (fed : Fed) (frames : List Frame)
    : Type 0 where
  pub came : HasGiven left0 left1 fed frames
  pub leaves : now ≡ disk_behind disk frames
  pub replies : Appends sink0 sink1 (replies_to disk frames)
