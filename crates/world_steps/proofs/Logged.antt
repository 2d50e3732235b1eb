-- What a clause asks of the whole journal, which a stream knows where it is alone with the World.
use Rattle.std.proofs.Common.{◌≡◌, ℕ, Bool, true, false, length, IfSome, refl}
use Rattle.volume_core.specs.State.{State}
use Rattle.volume_core.specs.State.{spot_of}
use Rattle.stream_steps.specs.Mine.{Log, log_length}
use Rattle.world_holder.specs.View.{log_of, view}

-- what is so of the journal is so where it is known
pub if_known : (a : Bool) (s : State) (P : Log → Type 0) → P (record { spot = spot_of s; entries = s.book.entries }) → IfSome (log_of a s) P
if_known true s P h = h
if_known false s P h = tt

-- what is so where the stream is alone is so where the journal is known
pub if_alone : (a : Bool) (s : State) (A : Type 0) → (a ≡ true → A) → IfSome (log_of a s) (λ log. A)
if_alone true s A h = h refl
if_alone false s A h = tt

-- what saw the whole journal saw it where it is known
pub if_seen : (a : Bool) (n : ℕ) (s : State) (k : ℕ) → k ≡ length s.book.entries → IfSome (log_length (view a n s)) (λ place. k ≡ place)
if_seen true n s k h = h
if_seen false n s k h = tt
