-- What a seat knows, and what its holder finds in a state.
use Rattle.std.specs.Prelude.{◌≡◌, ◌⊎◌, ℕ, ◌+◌, ◌≤◌, List, [], ◌∷◌, length, Option, Some, None}
use Rattle.desk_lock.specs.declared.views.Known.{Known}
use Rattle.desk_lock.specs.declared.views.Stage.{Stage}
use Rattle.desk_lock.specs.Account.{Account, Each, Finds, IsSilent}

module _ {S : Type 0} where
  -- a seat that knows this
  abbrev pub known_with : Option ℕ → S → Stage → ℕ → List (ℕ × S) → Known S
  known_with number last stage made joined =
      record { number = number; last = last; stage = stage; made = made; joined = joined }

  -- at another stage
  abbrev pub staged : Known S → Stage → Known S
  staged v stage = known_with v.number v.last stage v.made v.joined

  -- with this state as the last that it saw
  abbrev pub knowing : Known S → S → Stage → Known S
  knowing v x stage = known_with v.number x stage v.made v.joined

  -- the first seat, with one more split off it
  abbrev pub one_more : Known S → Known S
  one_more v = known_with v.number v.last v.stage (v.made + 1) v.joined

  -- the first seat, with what the seat of that number last saw
  abbrev pub keeping : Known S → ℕ → S → Known S
  keeping v number x = known_with v.number v.last v.stage v.made ((number, x) ∷ v.joined)

-- the number is one of those that were joined
abbrev pub HasNumber : {S : Type 0} → ℕ → List (ℕ × S) → Type 0
HasNumber number [] = ⊥
HasNumber number (p ∷ ps) = (p.0 ≡ number) ⊎ HasNumber number ps

module _ {S Entry OpenCall Origin : Type 0} (account : Account S Entry OpenCall Origin) where
  -- each seat that was joined finds its own
  abbrev pub FindsEach : S → List (ℕ × S) → Type 0
  FindsEach x joined = Each (λ (p : ℕ × S). Finds account (Some p.0) x p.1) joined

  -- What the holder finds in a state: it is sound, the seat finds its own, and so does each that was joined into it. In
  -- the eyes of the first seat no number that was not given has anything.
  pub record Fits (x : S) (v : Known S) : Type 0 where
    pub sound : account.sound x
    pub finds : Finds account v.number x v.last
    pub joined : FindsEach x v.joined
    pub rest : v.number ≡ None → (stream : ℕ) → v.made ≤ stream → IsSilent account stream x

  -- a journal of that length has room for all that the seat has seen, and each that was joined into it
  pub record ReachesSeen (reach : ℕ) (v : Known S) : Type 0 where
    pub seen : length (account.journal v.last) ≤ reach
    pub joined : Each (λ (p : ℕ × S). length (account.journal p.1) ≤ reach) v.joined
