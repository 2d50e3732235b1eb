-- What the journal of a script's run is, and what it is besides where one worker serves all streams.
use Rattle.std.specs.Prelude.{◌≡◌, ℕ, zero, suc, ◌<◌, ◌≤◌, List, [], ◌∷◌, length, All, Option, None, IfSome}
use Rattle.volume_model.specs.declared.entry.Entry.{Entry}
use Rattle.volume_model.specs.declared.entry.Entry.TheVariants as entry
use Rattle.volume_model.specs.Faults.{NamesLine}
use Rattle.volume_model.specs.History.{Spot, IsHistory}
use Rattle.volume_model.specs.OneWorker.{Against, Store, served, stream_of}
use Rattle.client_worker.specs.Exchanges.{ExchangesShown}
use Rattle.frame_wire.specs.Spelling.{IsFrame}
use Rattle.control_worker.specs.Store.{told_by}
use Rattle.script_text.specs.declared.script.Script.{Script}
use Rattle.stream_turns.specs.Volume.{calls_in}

-- The journal is one legal history of the script's calls from that spot on, over lines that counted these faults and told
-- that they carried this, by stream and replica. The faults that it shows are of the run's own lines, what it tells as
-- read and written was carried, and nothing that is no whole frame was.
pub record IsRun (counted : ℕ → ℕ → ℕ) (told : ℕ → ℕ → Option (List (List ℕ))) (script : Script) (spot : Spot)
    (journal : List Entry) : Type 0 where
  pub history : IsHistory spot counted (stream_of (calls_in script)) journal
  pub faults : All (NamesLine (length script.streams) script.replicas) journal
  pub carried : ExchangesShown script.replicas told spot.modes journal
  pub framed : (w r : ℕ) → w < length script.streams → r < script.replicas → IfSome (told w r) (All IsFrame)

-- the answers stand stream by stream, from this one on, in the order of their numbers
abbrev pub StandInTurn : ℕ → List Entry → Type 0
StandInTurn least [] = Unit {0}
StandInTurn least (entry.Answer a ∷ es) = (least ≤ a.stream) × StandInTurn a.stream es
StandInTurn least (entry.Mark m ∷ es) = StandInTurn least es

-- no line of the run has failed
abbrev pub HaveNotFailed : (ℕ → ℕ → ℕ) → Script → Type 0
HaveNotFailed counted script = (w r : ℕ) → w < length script.streams → r < script.replicas → counted w r ≡ 0

-- what an entry tells of the store: an answer tells what the store has against its call
abbrev pub told_at : Entry → Option Against
told_at (entry.Answer a) = told_by a.reply
told_at (entry.Mark m) = None

-- the store of which the journal tells, place by place
abbrev pub store_in : List Entry → Store
store_in [] place = None
store_in (e ∷ es) zero = told_at e
store_in (e ∷ es) (suc place) = store_in es place

-- One worker serves stream after stream. Where no line of the run has failed, its journal is a function of the script, of
-- the spot where it began, and of what the store has against the backups. Of streams that are served side by side nothing
-- of the kind is so.
pub record IsOneWorkersRun (counted : ℕ → ℕ → ℕ) (script : Script) (spot : Spot) (journal : List Entry) : Type 0 where
  pub order : StandInTurn 0 journal
  pub is : HaveNotFailed counted script → journal ≡ served (store_in journal) spot (calls_in script)
