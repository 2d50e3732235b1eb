-- What is left of a stream once its worker has served it, and of all of them.
use Rattle.std.specs.Prelude.{◌≡◌, ℕ, ◌<◌, ◌≤◌, false, List, [], length, All, Option, IfSome}
use Rattle.volume_model.specs.declared.call.Call.{Call}
use Rattle.volume_model.specs.Faults.{last_count}
use Rattle.volume_model.specs.History.{calls_of}
use Rattle.volume_model.specs.OneWorker.{stream_of}
use Rattle.volume_core.specs.State.{State, opening_of, gave_up_at}
use Rattle.volume_core.specs.Streams.{running, turning}
use Rattle.frame_wire.specs.Spelling.{IsFrame}
use Rattle.client_worker.specs.Exchanges.{AreCarried}
use Rattle.world_holder.specs.View.{own_entries}

-- The stream has nothing open, and gave no command up. It has these calls answered, each once and in order, and its lines
-- tell all faults that are marked, and the exchanges of what was answered, as whole frames.
pub record HasEnded (n : ℕ) (cs : List Call) (counts : ℕ → ℕ) (told : ℕ → Option (List (List ℕ))) (s : State)
    : Type 0 where
  pub turns : turning s n ≡ []
  pub calls : running s n ≡ []
  pub gave_up : gave_up_at s.gave_up n ≡ false
  pub asked : calls_of n s.book.entries ≡ cs
  pub counted : (r : ℕ) → last_count n r s.book.entries ≤ counts r
  pub carried : AreCarried (length s.nodes) told (own_entries n (opening_of s) s.book.entries)
  pub framed : (r : ℕ) → r < length s.nodes → IfSome (told r) (All IsFrame)

-- the streams have ended so, in whatever order their calls were answered, and no other stream has anything
pub record HaveEnded (streams : List (List Call)) (counts : ℕ → ℕ → ℕ) (told : ℕ → ℕ → Option (List (List ℕ)))
    (s : State) : Type 0 where
  pub many : length s.indices ≡ length streams
  pub each : (n : ℕ) → n < length streams → HasEnded n (stream_of streams n) (counts n) (told n) s
  pub none : (n : ℕ) → length streams ≤ n → own_entries n (opening_of s) s.book.entries ≡ []
