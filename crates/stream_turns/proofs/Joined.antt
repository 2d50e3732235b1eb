-- Numbers and states that were joined.
use Rattle.std.proofs.Common.{ℕ, List, [], ◌∷◌, inl, inr}
use Rattle.desk_lock.specs.Known.{HasNumber}
use Rattle.world_holder.specs.declared.kept.WorldOnDesk.{WorldOnDesk}
use Rattle.stream_turns.specs.Joined.{HasPair}

-- a number that was joined with some state was joined
pub has_number : (n : ℕ) (x : WorldOnDesk) (js : List (ℕ × WorldOnDesk)) → HasPair n x js → HasNumber n js
has_number n x [] has = has
has_number n x (p ∷ ps) (inl e) = inl e.0
has_number n x (p ∷ ps) (inr has) = inr (has_number n x ps has)
