-- What streams that are served one after another make of a journal, and what their lines tell then.
use Rattle.std.specs.Prelude.{◌≡◌, ◌≢◌, ℕ, ◌<◌, ◌≤◌, List, [], ◌++◌, length, All, Option, IfSome}
use Rattle.volume_model.specs.declared.call.Call.{Call}
use Rattle.volume_model.specs.declared.entry.Entry.{Entry}
use Rattle.volume_model.specs.Faults.{last_count}
use Rattle.volume_model.specs.History.{Spot, calls_of}
use Rattle.volume_model.specs.OneWorker.{behind_entries, served_from, served, stream_of}
use Rattle.volume_core.specs.Streams.{MayAppend}
use Rattle.frame_wire.specs.Spelling.{IsFrame}
use Rattle.client_worker.specs.Exchanges.{AreCarried}
use Rattle.world_holder.specs.View.{own_entries}
use Rattle.stream_turns.specs.Run.{StandInTurn, store_in}

-- the stream's lines to the replicas have not failed
abbrev pub AreWell : ℕ → (ℕ → ℕ) → Type 0
AreWell replicas counts = (r : ℕ) → r < replicas → counts r ≡ 0

-- Behind that journal the stream's calls are answered, each once and in order, and nothing of another stream comes
-- between. Its lines tell all faults that are marked, and the exchanges of what was answered, as whole frames. Where none of them
-- failed, its entries are those that one worker makes of its calls.
pub record IsTurn (opening : Spot) (replicas w : ℕ) (asked : List Call) (before after : List Entry)
    (counts : ℕ → ℕ) (told : ℕ → Option (List (List ℕ))) : Type 0 where
  pub added : List Entry
  pub is : after ≡ before ++ added
  pub own : MayAppend w added
  pub calls : calls_of w added ≡ asked
  pub counted : (r : ℕ) → last_count w r after ≤ counts r
  pub carried : AreCarried replicas told (own_entries w opening after)
  pub framed : (r : ℕ) → r < replicas → IfSome (told r) (All IsFrame)
  pub turn : AreWell replicas counts
      → added ≡ served_from (store_in after) (behind_entries opening before) w (length before) 0 asked

-- The journal has the calls of these streams, the first of which has the number 0, in that order, and nothing of other
-- streams. Each stream's lines tell what they tell of its turn.
pub record AreTurns (opening : Spot) (replicas : ℕ) (streams : List (List Call)) (entries : List Entry)
    (counts : ℕ → ℕ → ℕ) (told : ℕ → ℕ → Option (List (List ℕ))) : Type 0 where
  pub none : (w : ℕ) → length streams ≤ w → own_entries w opening entries ≡ []
  pub calls : (w : ℕ) → calls_of w entries ≡ stream_of streams w
  pub counted : (w r : ℕ) → last_count w r entries ≤ counts w r
  pub carried : (w : ℕ) → AreCarried replicas (told w) (own_entries w opening entries)
  pub framed : (w r : ℕ) → w < length streams → r < replicas → IfSome (told w r) (All IsFrame)
  pub order : StandInTurn 0 entries
  pub turns : ((w : ℕ) → w < length streams → AreWell replicas (counts w))
      → entries ≡ served (store_in entries) opening streams

-- of each other stream's lines the same is told as before
abbrev pub TellsOthers : {T : Type 0} → ℕ → (ℕ → ℕ → T) → (ℕ → ℕ → T) → Type 0
TellsOthers worker before now = (w r : ℕ) → w ≢ worker → now w r ≡ before w r
