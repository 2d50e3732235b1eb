-- A desk for two, and the sessions that sit down there.
use Rattle.std.proofs.Common.{◌≡◌, ℕ, zero, suc, false, [], ◌∷◌, List, length, replicate, Option, None, refl, sym, ap, subst}
use Rattle.std.specs.Prelude.{IfSome}
use Rattle.std.specs.List.{All}
use Rattle.std.proofs.lemmas.List.Elements.{All-nil, All-cons}
use Rattle.desk_lock.specs.declared.seats.Desk.{Desk}
use Rattle.desk_lock.specs.declared.seats.Seat.{Seat}
use Rattle.desk_lock.specs.Seats.{last_of}
use Rattle.volume_core.specs.Sound.{NoneGaveUp}
use Rattle.client_worker.specs.declared.channel.Channel.{Channel}
use Rattle.outer_memory.specs.declared.no_fault_line.NoFaultLine.{NoFaultLine}
use Rattle.world_holder.specs.declared.kept.WorldOnDesk.{WorldOnDesk}
use Rattle.world_holder.specs.Laid.{laid}
use Rattle.world_holder.specs.Rests.{IsSeated}
use Rattle.world_holder.specs.View.{view, IsFree}
use Rattle.session_serve.specs.Sessions.{Caller, MayCall, own_of}
use Rattle.session_serve.proofs.Joined.{new_may_call}
use Rattle.session_tables.specs.Tables.{IsSitting}

-- neither of two streams gave a command up
pub two_kept : NoneGaveUp (replicate 2 false)
two_kept zero = refl
two_kept (suc zero) = refl
two_kept (suc (suc n)) = refl

-- nothing was carried on a line that does not tell
abbrev HasCarriedNone : Option (List (List ℕ)) → Type 0
HasCarriedNone t = IfSome t (λ frames. frames ≡ [])

none_told : All HasCarriedNone (None ∷ [])
none_told = All-cons HasCarriedNone None [] tt (All-nil HasCarriedNone)

-- a session with one line, at a seat that was just split off the first
pub sits : (d : Desk WorldOnDesk) (s first : Seat WorldOnDesk) (n : ℕ) (x : Channel NoFaultLine) (c : Caller NoFaultLine)
    → c ≡ record { number = n; channels = x ∷ [] } → IsSeated d s n → IsFree n (laid (last_of s)) → last_of s ≡ last_of first
    → (view false n (laid (last_of first))).running ≡ [] → (view false n (laid (last_of first))).entries ≡ []
    → length (laid (last_of first)).nodes ≡ 1 → IsSitting d n (record { seat = s; session = c })
sits d s first n x c is seated free same idle none one = record {
  may = subst (λ (y : Caller NoFaultLine). MayCall {L = NoFaultLine} (λ l. 0) (λ l. None) d s y) (sym is)
      (new_may_call {L = NoFaultLine} (λ l. 0) (λ l. None) d s (record { number = n; channels = x ∷ [] }) seated free
      (subst (λ (w : WorldOnDesk). (view false n (laid w)).running ≡ []) (sym same) idle)
      (subst (λ (w : WorldOnDesk). own_of n (laid w) ≡ []) (sym same) none)
      (sym (subst (λ (w : WorldOnDesk). length (laid w).nodes ≡ 1) (sym same) one)) none_told);
  number = ap (λ (y : Caller NoFaultLine). y.number) is;
}
