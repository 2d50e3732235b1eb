-- A World between streams: none has anything open, and none gave a command up. A stream begins with it, and ends.
use Rattle.std.proofs.Common.{◌≡◌, ℕ, ◌<◌, false, List, [], ◌∷◌, ◌++◌, length, map, Some, subst, sym}
use Rattle.std.proofs.Common.{refl, ap, ◌∙◌}
use Rattle.range_turns.specs.declared.ticket.Ticket.{Ticket}
use Rattle.volume_core.specs.State.{State, opening_of, gave_up_at}
use Rattle.volume_core.specs.Sound.{IsSound, NoneGaveUp}
use Rattle.volume_core.specs.Streams.{running, turning, calls_in, commands_in}
use Rattle.desk_lock.specs.Account.{IsSilent}
use Rattle.desk_lock.specs.declared.seats.Desk.{Desk}
use Rattle.desk_lock.specs.declared.seats.Seat.{Seat}
use Rattle.desk_lock.specs.Seats.{number_of, last_of, IsSeatOf}
use Rattle.world_holder.specs.declared.kept.WorldOnDesk.{WorldOnDesk}
use Rattle.world_holder.specs.Laid.{laid, world_account}
use Rattle.world_holder.proofs.Found.{none_own, none_turning, none_running, gave_none_up}
use Rattle.world_holder.specs.View.{own_turn, own_at, runs, view, IsAlone, IsFree}
use Rattle.world_holder.proofs.Open.{HasNone, has_none, of_all, no_tickets, no_commands}
use Rattle.world_holder.proofs.Entries.{none_shown}
use Rattle.world_holder.specs.Rests.{IsSeated}

-- ---- it begins

no_turns : (n : ℕ) (ts : List Ticket) → commands_in n ts [] ≡ []
no_turns n [] = refl
no_turns n (t ∷ ts) = refl

-- where there is no ticket and no command, no stream has anything open
module _ (s : State) (tickets : s.tickets ≡ []) (commands : s.commands ≡ []) where
  rest_calls : (n : ℕ) → running s n ≡ []
  rest_calls n = ap (λ ts. calls_in n ts s.calls) tickets

  rest_turns : (n : ℕ) → turning s n ≡ []
  rest_turns n = ap (commands_in n s.maint) commands ∙ no_turns n s.maint

  pub rest_idle : (n : ℕ) → runs n s ≡ []
  rest_idle n = λ i. map own_turn (rest_turns n i) ++ map (own_at s.whole) (rest_calls n i)

  pub rest_alone : (n : ℕ) → NoneGaveUp s.gave_up → IsAlone n s
  rest_alone n none = record {
    calls = λ other h. rest_calls other;
    turns = λ other h. rest_turns other;
    gave_up = λ other h. none other;
  }

  pub rest_free : (n : ℕ) → NoneGaveUp s.gave_up → IsFree n s
  rest_free n none = record { turns = rest_turns n; gave_up = none n }

-- ---- it ends

-- where the stream has nothing open, and is alone
module _ (n : ℕ) (s : State) (ok : IsSound s) (alone : IsAlone n s) (idle : runs n s ≡ []) where
  none : HasNone n s
  none = has_none n s idle

  -- there is no ticket
  pub ends_rest : s.tickets ≡ []
  ends_rest = no_tickets s ok (of_all n (running s) [] none.calls alone.calls)

  -- nor a command
  pub ends_turns : s.commands ≡ []
  ends_turns = no_commands s ok (of_all n (turning s) [] none.turns alone.turns)

  pub ends_kept : gave_up_at s.gave_up n ≡ false → NoneGaveUp s.gave_up
  ends_kept kept = of_all n (gave_up_at s.gave_up) false kept alone.gave_up

-- ---- a seat that was split off

pub seat_idle : (n : ℕ) (x : WorldOnDesk) → IsSilent world_account n x → (view false n (laid x)).running ≡ []
seat_idle n x silent =
    λ i. map own_turn (none_turning n (laid x) silent.running i) ++ map (own_at (laid x).whole) (none_running n (laid x) silent.running i)

pub seat_none : (n : ℕ) (x : WorldOnDesk) → IsSilent world_account n x → (view false n (laid x)).entries ≡ []
seat_none n x silent = none_shown n (opening_of (laid x)) (laid x).book.entries (none_own n (laid x).book.entries silent.entries)

pub seat_free : (n : ℕ) (s : Seat WorldOnDesk) (x : WorldOnDesk) → last_of s ≡ x → IsSilent world_account n x
    → IsFree n (laid (last_of s))
seat_free n s x last silent = subst (λ (w : WorldOnDesk). IsFree n (laid w)) (sym last) (record {
  turns = none_turning n (laid x) silent.running;
  gave_up = gave_none_up n (laid x) silent.running;
})

pub seat_rests : (d : Desk WorldOnDesk) (s : Seat WorldOnDesk) (n : ℕ) (x : WorldOnDesk) → IsSeatOf d s
    → number_of s ≡ Some n → last_of s ≡ x → n < length (laid x).indices → IsSeated d s n
seat_rests d s n x seat number last there = record {
  seat = seat;
  own = record {
    number = number;
    there = subst (λ (w : WorldOnDesk). n < length (laid w).indices) (sym last) there;
  };
}
