-- What a worker needs of its seat, and what it leaves.
use Rattle.std.proofs.Common.{◌≡◌, ℕ, zero, suc, ◌≤◌, List, [], ◌∷◌, length, map, Option, Some, None, All, IfOk, zero-le, slice_index_or}
use Rattle.std.proofs.Common.{refl, sym, ap, subst, ◌∙◌}
use Rattle.std.specs.Prelude.{IfSome}
use Rattle.std.proofs.KnownBytes.{Appends-nil}
use Rattle.std.proofs.lemmas.List.{get_or_past}
use Rattle.std.proofs.lemmas.List.Elements.{All-nil, All-cons}
use Rattle.desk_lock.specs.declared.seats.Desk.{Desk}
use Rattle.desk_lock.specs.declared.seats.Seat.{Seat}
use Rattle.desk_lock.specs.Seats.{last_of, told_of}
use Rattle.door_traits.specs.Sessions.{Told}
use Rattle.outer_memory.specs.declared.no_fault_line.NoFaultLine.{NoFaultLine}
use Rattle.client_worker.specs.declared.channel.Channel.{Channel}
use Rattle.frame_stream.specs.Frames.{IsCall}
use Rattle.volume_model.specs.declared.entry.Answer.{Answer}
use Rattle.volume_model.specs.declared.entry.Entry.{Entry}
use Rattle.volume_model.specs.Faults.{last_count}
use Rattle.volume_model.specs.History.{answers_of}
use Rattle.volume_core.specs.State.{State, opening_of}
use Rattle.stream_steps.specs.Mine.{entries_in}
use Rattle.world_holder.specs.declared.kept.WorldOnDesk.{WorldOnDesk}
use Rattle.world_holder.specs.Laid.{laid, running_of}
use Rattle.world_holder.specs.Rests.{IsSeated}
use Rattle.world_holder.specs.View.{runs, IsFree}
use Rattle.world_holder.proofs.Entries.{own_last}
use Rattle.session_serve.specs.Sessions.{Caller, MayCall, own_of}
use Rattle.session_serve.proofs.Joined.{new_may_call}
use Rattle.session_serve.proofs.Seats.{none_open}
use Rattle.session_workers.specs.Clients.{HasStopped}
use Rattle.session_workers.specs.declared.task.Task.{Task}
use Rattle.session_workers.specs.Tasks.{IsTask, IsBack}

-- nothing was carried on lines that do not tell
abbrev HasCarriedNone : Option (List (List ℕ)) → Type 0
HasCarriedNone t = IfSome t (λ frames. frames ≡ [])

none_told : (cs : List (Channel NoFaultLine)) → All HasCarriedNone (map (λ (x : Channel NoFaultLine). None) cs)
none_told [] = All-nil HasCarriedNone
none_told (c ∷ cs) = All-cons HasCarriedNone None (map (λ (x : Channel NoFaultLine). None) cs) tt (none_told cs)

-- none of them has failed
abbrev no_fault : Channel NoFaultLine → ℕ
no_fault c = 0

none_failed : (cs : List (Channel NoFaultLine)) (r : ℕ) → slice_index_or (map no_fault cs) r 0 ≡ 0
none_failed [] r = get_or_past [] r 0 zero-le
none_failed (c ∷ cs) zero = refl
none_failed (c ∷ cs) (suc r) = none_failed cs r

-- of a session without entries no fault is marked
none_marked : (n : ℕ) (s : State) → own_of n s ≡ [] → (r : ℕ) → last_count n r s.book.entries ≤ 0
none_marked n s none r =
    subst (λ k. k ≤ 0) (sym (ap (λ ps. last_count n r (entries_in ps)) none) ∙ own_last n r (opening_of s) s.book.entries) zero-le

-- ---- memory ran out before the first call

abbrev begins_with : Option (List ℕ) → List ℕ
begins_with None = []
begins_with (Some told) = told

pub stopped_at_once : (n : ℕ) (t : Told) (es : List Entry) → answers_of n es ≡ [] → HasStopped n t t es
stopped_at_once n t es none = record {
  frames = [];
  rest = begins_with t.left;
  called = record {
    input = input t.left;
    calls = All-nil IsCall;
    asked = ap (map (λ (p : ℕ × Answer). p.1.call)) none;
    few = zero-le;
  };
  read = refl;
  written = refl;
  replies = ([], [], refl, Appends-nil t.holds);
}
  where
    input : (left : Option (List ℕ)) → IfSome left (λ told. told ≡ begins_with left)
    input None = tt
    input (Some told) = refl

module _ {I O : Type 0} where
  -- ---- it may call

  pub may_call : (k : ℕ) (d : Desk WorldOnDesk) (j : Task I O) (task : IsTask k d j) (seat : Seat WorldOnDesk)
      (c : Caller NoFaultLine) → seat ≡ task.seat → c.number ≡ j.number → length c.channels ≡ k
      → MayCall {L = NoFaultLine} (λ l. 0) (λ l. None) d seat c
  may_call k d j task seat c same number many =
      subst (λ (s : Seat WorldOnDesk). MayCall {L = NoFaultLine} (λ l. 0) (λ l. None) d s c) (sym same)
      (new_may_call {L = NoFaultLine} (λ l. 0) (λ l. None) d task.seat c (to (IsSeated d task.seat) task.rests)
      (to (λ n. IsFree n s) task.free) (to (λ n. runs n s ≡ []) task.idle) (to (λ n. own_of n s ≡ []) task.none)
      (many ∙ sym task.many) (none_told c.channels))
    where
      s : State
      s = laid (last_of task.seat)

      to : (P : ℕ → Type 0) → P j.number → P c.number
      to P = subst P (sym number)

  -- ---- it has called

  pub is_back : (d : Desk WorldOnDesk) (j : Task I O) (seat : Seat WorldOnDesk) (c : Caller NoFaultLine) → j.seat ≡ Some seat
      → MayCall {L = NoFaultLine} (λ l. 0) (λ l. None) d seat c → c.number ≡ j.number
      → IfOk j.ended (λ e. (length (laid (last_of seat)).book.entries ≤ e.seen) × (told_of seat ≡ e.seen)) → IsBack d j
  is_back d j seat c has may number seen =
      let s = laid (last_of seat) in
      record {
        seat = seat;
        has = has;
        of_desk = may.seated.seat;
        number = may.seated.own.number ∙ ap Some number;
        idle = subst (λ n. running_of s n ≡ []) number may.idle;
        counted = λ r. subst (λ n. last_count n r s.book.entries ≤ 0) number
            (subst (λ k. last_count c.number r s.book.entries ≤ k) (none_failed c.channels r)
            (subst (λ k. k ≤ slice_index_or (map no_fault c.channels) r 0)
            (own_last c.number r (opening_of s) s.book.entries) (may.shown.counted r)));
        seen = seen;
      }

  -- ---- it has not

  pub is_back_unserved : (k : ℕ) (d : Desk WorldOnDesk) (before j : Task I O) (task : IsTask k d before) → j.seat ≡ before.seat
      → j.number ≡ before.number
      → ((seat : Seat WorldOnDesk) → IfOk j.ended (λ e. (length (laid (last_of seat)).book.entries ≤ e.seen) × (told_of seat ≡ e.seen)))
      → IsBack d j
  is_back_unserved k d before j task same number seen =
      let s = laid (last_of task.seat) in
      record {
        seat = task.seat;
        has = same ∙ task.has;
        of_desk = task.rests.seat;
        number = task.rests.own.number ∙ ap Some (sym number);
        idle = subst (λ n. running_of s n ≡ []) (sym number) (none_open before.number s task.free task.idle);
        counted = λ r. subst (λ n. last_count n r s.book.entries ≤ 0) (sym number) (none_marked before.number s task.none r);
        seen = seen task.seat;
      }
