-- A seat of which nothing is open, as a worker's steps see it.
use Rattle.std.proofs.Common.{◌≡◌, ℕ, [], ◌++◌, map}
use Rattle.volume_core.specs.State.{State}
use Rattle.world_holder.specs.Laid.{running_of, gave_up_of, turn_of, call_of}
use Rattle.world_holder.specs.View.{own_turn, own_at, runs, IsFree}
use Rattle.world_holder.proofs.Found.{none_turning, none_running, gave_none_up}
use Rattle.world_holder.proofs.Open.{has_none}

module _ (n : ℕ) (s : State) where
  pub idle_free : running_of s n ≡ [] → IsFree n s
  idle_free idle = record { turns = none_turning n s idle; gave_up = gave_none_up n s idle }

  pub idle_runs : running_of s n ≡ [] → runs n s ≡ []
  idle_runs idle = λ i. map own_turn (none_turning n s idle i) ++ map (own_at s.whole) (none_running n s idle i)

  pub none_open : IsFree n s → runs n s ≡ [] → running_of s n ≡ []
  none_open free idle =
      let none = has_none n s idle in
      λ i. gave_up_of (free.gave_up i) ++ (map turn_of (none.turns i) ++ map (call_of s.whole) (none.calls i))
