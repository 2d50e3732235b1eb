-- Which states stand with which numbers among those that a desk's first seat has joined.
use Rattle.std.specs.Prelude.{◌≡◌, ◌⊎◌, ℕ, List, [], ◌∷◌}
use Rattle.world_holder.specs.declared.kept.WorldOnDesk.{WorldOnDesk}

-- the number was joined with that state
abbrev pub HasPair : ℕ → WorldOnDesk → List (ℕ × WorldOnDesk) → Type 0
HasPair n x [] = ⊥
HasPair n x (p ∷ ps) = ((p.0 ≡ n) × (p.1 ≡ x)) ⊎ HasPair n x ps
