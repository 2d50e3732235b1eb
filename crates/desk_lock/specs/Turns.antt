-- What the steps under a desk's calls say of a seat of the table.
use Rattle.std.specs.Prelude.{◌≡◌, ℕ, ◌%◌, ◌^◌, ◌≤◌, [], ◌∷◌, length, None}
use Rattle.desk_lock.specs.declared.views.Known.{Known}
use Rattle.desk_lock.specs.declared.views.View.TheVariants.{Knows}
use Rattle.desk_lock.specs.declared.views.Stage.TheVariants.{Idle, Waits, Holds}
use Rattle.desk_lock.specs.Account.{Account}
use Rattle.desk_lock.specs.Known.{staged, knowing, Fits}
use Rattle.desk_lock.specs.Rule.{Place, Says}

module _ {S : Type 0} where
  -- no ticket is out with it
  abbrev pub IsIdle : Place S → Type 0
  IsIdle m = (v : Known S) × Says m.0 v × (v.stage ≡ Idle) × (m.1 ≡ [])

  -- from idle to waiting, with the ticket of that number
  abbrev pub Draws : Place S → ℕ → Place S → Type 0
  Draws m number m' = (v : Known S) (told : ℕ) → m.0 ≡ Knows v told
      → (a : ℕ) × (number ≡ a % 2 ^ 64) × (m' ≡ (Knows (staged v (Waits a)) told, m.1))

  -- it took the state x
  abbrev pub HasTurn : Known S → ℕ → S → Place S → Type 0
  HasTurn v told x m = (a : ℕ) × (m ≡ (Knows (knowing v x (Holds a)) told, (0, None) ∷ []))

module _ {S Entry OpenCall Origin : Type 0} (account : Account S Entry OpenCall Origin) where
  -- from idle to its turn, with the state x, whose journal is as long as the seat was told
  abbrev pub Takes : Place S → S → Place S → Type 0
  Takes m x m' = (v : Known S) (told : ℕ) → m.0 ≡ Knows v told
      → Fits account x v × HasTurn v told x m' × (told ≤ length (account.journal x))
