-- For whoever takes a turn: what `leave` asks, and what the seat knows afterwards, from what the one step between says.
use Rattle.std.proofs.Common.{◌≡◌, ℕ, Option, Some, sym, subst}
use Rattle.desk_lock.specs.declared.views.Known.{Known}
use Rattle.desk_lock.specs.declared.seats.Seat.{Seat}
use Rattle.desk_lock.specs.Account.{Account, Finds, MayLeave}
use Rattle.desk_lock.specs.Known.{Fits}
use Rattle.desk_lock.specs.Seats.{known, number_of, last_of, IsInTurn}

module _ {S Entry OpenCall Origin : Type 0} (account : Account S Entry OpenCall Origin) where
  -- the condition of `leave`, where the seat s took the state x and is t in its turn
  pub may_leave_at : (s t : Seat S) (x y : S) → IsInTurn s x t → MayLeave account (number_of s) x y
      → MayLeave account (number_of t) (last_of t) y
  may_leave_at s t x y turn may = subst (λ (k : Known S). MayLeave account k.number k.last y) (sym turn.1.1) may

  -- what a seat with a number finds of its own, by that number
  pub finds_own : (s : Seat S) (x : S) (n : ℕ) → Fits account x (known s) → number_of s ≡ Some n → Finds account (Some n) x (last_of s)
  finds_own s x n fits me = subst (λ (m : Option ℕ). Finds account m x (last_of s)) me fits.finds
