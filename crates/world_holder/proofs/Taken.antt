-- What a holder finds of the World for its stream, and what it leaves.
use Rattle.std.proofs.Common.{◌≡◌, ℕ, ◌<◌, Bool, true, false, [], length, append-nil, subst, sym, refl, ap, ◌∙◌}
use Rattle.std.specs.Global.{Box}
use Rattle.range_turns.specs.declared.ticket.Ticket.{Ticket}
use Rattle.open_calls.specs.declared.maint.MaintCall.{MaintCall}
use Rattle.desk_lock.specs.Account.{MayLeave}
use Rattle.desk_lock.specs.declared.seats.Seat.{Seat}
use Rattle.desk_lock.specs.Known.{Fits}
use Rattle.desk_lock.specs.declared.seats.Desk.{Desk}
use Rattle.desk_lock.specs.declared.views.Known.{Known}
use Rattle.desk_lock.specs.Seats.{known, number_of, last_of, IsInTurn, HasState}
use Rattle.desk_lock.proofs.Lists.{Each-all}
use Rattle.desk_lock.proofs.Workers.{finds_own}
use Rattle.volume_core.specs.declared.world.World.{World}
use Rattle.volume_core.specs.State.{State, state_of}
use Rattle.volume_core.specs.Sound.{IsSound}
use Rattle.volume_core.specs.Streams.{Origin, turning}
use Rattle.world_holder.specs.declared.kept.WorldOnDesk.{WorldOnDesk}
use Rattle.world_holder.specs.Counted.{CountsOn, KeepsCopies, counts_itself, copies_itself}
use Rattle.world_holder.specs.Laid.{laid, world_account, IsLater}
use Rattle.world_holder.proofs.Found.{found_later}
use Rattle.world_holder.proofs.Leaves.{may_leave}
use Rattle.world_holder.specs.View.{IsFound, Owes}
use Rattle.world_holder.specs.Rests.{IsKept, IsOwnSeat, IsSeated, IsOut}

-- ---- in hand

pub later_itself : (n : ℕ) (s : State) → IsLater n s s
later_itself n s = record {
  origin = refl;
  added = ([], sym (append-nil s.book.entries), tt);
  calls = refl;
  turns = refl;
  parts = refl;
  gave_up = refl;
  counted = Each-all (λ (p : Ticket × MaintCall). CountsOn p.0 s s) (λ p. counts_itself p.0 s) (turning s n);
  copies = Each-all (λ (p : Ticket × MaintCall). KeepsCopies p.0 s s) (λ p. copies_itself p.0 s) (turning s n);
}

pub found_in_hand : (n : ℕ) (w v : Box World) → v ≡ w → IsSound (state_of w.value) → IsKept w.value n
    → IsFound true n (state_of w.value) (state_of v.value)
found_in_hand n w v e ok kept = subst (λ (z : Box World). IsFound true n (state_of w.value) (state_of z.value)) (sym e)
    (record { sound = ok; there = kept.there; later = later_itself n (state_of w.value); same = λ h. (refl, kept.alone) })

-- ---- at a seat

pub found_at_seat : (n : ℕ) (s : Seat WorldOnDesk) (x : WorldOnDesk) → IsOwnSeat s n → Fits world_account x (known s)
    → IsFound false n (laid (last_of s)) (laid x)
found_at_seat n s x own fits =
    let later = found_later n x (last_of s) (finds_own world_account s x n fits own.number) in
    record {
      sound = fits.sound;
      there = subst (λ k. n < k) (sym (ap (λ (o : Origin). o.streams) later.origin)) own.there;
      later = later;
      same = λ h. absurd cc;
    }

pub seat_may_leave : (n : ℕ) (s : Seat WorldOnDesk) (y : WorldOnDesk) → IsOwnSeat s n → IsSound (laid (last_of s))
    → Owes n (laid (last_of s)) (laid y) → MayLeave world_account (number_of s) (last_of s) y
seat_may_leave n s y own ok owes = subst (λ m. MayLeave world_account m (last_of s) y) (sym own.number)
    (may_leave n (last_of s) y ok owes.may owes.parts owes.counted)

-- the seat s took the World x and is t, which is u still
module _ (d e : Desk WorldOnDesk) (n : ℕ) (s t u : Seat WorldOnDesk) (x : WorldOnDesk) (same : u ≡ t)
    (turn : IsInTurn s x t × HasState e t) where
  last_is : last_of t ≡ x
  last_is = ap (λ (k : Known WorldOnDesk). k.last) turn.0.1.1

  pub out_at_seat : IsSeated d s n → Fits world_account x (known s) → IsOut d u n
  out_at_seat seated fits = subst (λ (z : Seat WorldOnDesk). IsOut d z n) (sym same) (record {
    turn = (turn.0.0 ∙ seated.seat.0, turn.1.1, turn.1.2);
    own = record {
      number = ap (λ (k : Known WorldOnDesk). k.number) turn.0.1.1 ∙ seated.own.number;
      there = subst (λ (w : WorldOnDesk). n < length (laid w).indices) (sym last_is) (found_at_seat n s x seated.own fits).there;
    };
    sound = subst (λ (w : WorldOnDesk). IsSound (laid w)) (sym last_is) fits.sound;
  })

  pub seen_at_seat : (b : Box World) → b ≡ x.world → laid (last_of u) ≡ state_of b.value
  seen_at_seat b is = ap (λ (z : Seat WorldOnDesk). laid (last_of z)) same ∙ ap laid last_is
      ∙ ap (λ (z : Box World). state_of z.value) (sym is)

-- ---- in a step: the World w is what was in the box

pub found_as : {a : Bool} {n : ℕ} {s : State} {v w : World} → w ≡ v → IsFound a n s (state_of v) → IsFound a n s (state_of w)
found_as {a} {n} {s} e found = subst (λ (z : World). IsFound a n s (state_of z)) (sym e) found

-- what it owes of that it owes of the World that was seen
pub owes_as : {n : ℕ} {v w : World} {z y : State} → w ≡ v → z ≡ state_of v → Owes n (state_of w) y → Owes n z y
owes_as {n} {v} {w} {z} {y} e seen owes = subst (λ (x : State). Owes n x y) (ap state_of e ∙ sym seen) owes

pub seen_as : {v w : World} {z : State} → w ≡ v → z ≡ state_of v → z ≡ state_of w
seen_as e seen = seen ∙ ap state_of (sym e)
