-- What a worker leaves of its stream at a desk, and that it stays so whatever others do.
use Rattle.std.proofs.Common.{◌≡◌, ℕ, ◌≤◌, ◌<◌, false, List, [], ◌++◌, length, map, Option, None, inl, inr, sym}
use Rattle.std.proofs.Common.{ap, subst, ◌∙◌, arith, slice_index_or}
use Rattle.std.specs.Prelude.{IfSome}
use Rattle.std.specs.List.{All}
use Rattle.std.proofs.lemmas.Bool.{cases_lt}
use Rattle.std.proofs.lemmas.List.{get_or_past}
use Rattle.volume_model.specs.declared.command.Command.{Command}
use Rattle.volume_model.specs.declared.call.Call.{Call}
use Rattle.volume_model.specs.declared.call.Call.TheVariants as call
use Rattle.volume_model.specs.Faults.{last_count}
use Rattle.volume_model.specs.History.{calls_of}
use Rattle.volume_core.specs.State.{State, opening_of, gave_up_at}
use Rattle.volume_core.specs.Sound.{IsSound}
use Rattle.volume_core.specs.Streams.{turning}
use Rattle.stream_steps.specs.Mine.{Mine, Placed, entries_in}
use Rattle.client_worker.specs.Exchanges.{told_in, AreCarried}
use Rattle.client_worker.specs.Serving.{IsShown, Grew}
use Rattle.control_worker.specs.Serving.{Commanded}
use Rattle.control_worker.proofs.OwnAnswers.{own_calls, own_streams}
use Rattle.world_holder.specs.View.{own_entries, view, IsFound}
use Rattle.stream_turns.proofs.Groups.{served_groups, groups_calls}
use Rattle.stream_turns.proofs.OneTurn.{told_carried}
use Rattle.world_holder.proofs.Grow.{found_same}
use Rattle.world_holder.proofs.Open.{has_none}
use Rattle.stream_turns.proofs.Turned.{modes_many}
use Rattle.frame_wire.specs.Spelling.{IsFrame}
use Rattle.stream_workers.specs.Ended.{HasEnded}
use Rattle.world_holder.proofs.Entries.{own_last}
use Rattle.stream_workers.proofs.Own.{answered}
use Rattle.world_holder.proofs.OwnCalls.{own_asked}

-- ---- once it has served its stream

module _ (n : ℕ) (s s2 : State) (counts : List ℕ) (told : List (Option (List (List ℕ)))) (gave_up : gave_up_at s2.gave_up n ≡ false) where
  abbrev own : List Placed
  own = own_entries n (opening_of s2) s2.book.entries

  counted : ((r : ℕ) → last_count n r (entries_in own) ≤ slice_index_or counts r 0) → (r : ℕ)
      → last_count n r s2.book.entries ≤ slice_index_or counts r 0
  counted shown r = subst (λ k. k ≤ slice_index_or counts r 0) (own_last n r (opening_of s2) s2.book.entries) (shown r)

  pub frames_ended : (cs : List Call) → turning s2 n ≡ [] → (view false n s).entries ≡ []
      → IsShown (view false n s2) counts told → Grew cs (view false n s) (view false n s2)
      → HasEnded n cs (λ r. slice_index_or counts r 0) (told_in told) s2
  frames_ended cs turns none shown grew =
      let is : own ≡ grew.added = ap (λ (m : Mine). m.entries) grew.is ∙ ap (λ l. l ++ grew.added) none in
      record {
        turns = turns;
        calls = (has_none n s2 (ap (λ (m : Mine). m.running) grew.is)).calls;
        gave_up = gave_up;
        asked = sym (own_asked n (opening_of s2) s2.book.entries) ∙ ap (λ ps. calls_of n (entries_in ps)) is
            ∙ groups_calls n 0 cs (entries_in grew.added) (served_groups n None cs (entries_in grew.added) grew.served);
        counted = counted shown.counted;
        carried = shown.answered;
        framed = λ r low. shown.framed r;
      }

  pub commands_ended : (cs : List Command) → (view false n s).entries ≡ []
      → IsShown (view false n s2) counts told → Commanded cs (view false n s) (view false n s2)
      → HasEnded n (map call.Command cs) (λ r. slice_index_or counts r 0) (told_in told) s2
  commands_ended cs none shown grew =
      let is : own ≡ grew.own = ap (λ (m : Mine). m.entries) grew.is ∙ ap (λ l. l ++ grew.own) none in
      let idle = has_none n s2 (ap (λ (m : Mine). m.running) grew.is) in
      record {
        turns = idle.turns;
        calls = idle.calls;
        gave_up = gave_up;
        asked = sym (own_asked n (opening_of s2) s2.book.entries) ∙ ap (λ ps. calls_of n (entries_in ps)) is
            ∙ answered n (entries_in grew.own) cs (own_streams cs (view false n s) (view false n s2) grew)
            ∙ own_calls cs (view false n s) (view false n s2) grew;
        counted = counted shown.counted;
        carried = shown.answered;
        framed = λ r low. shown.framed r;
      }

-- ---- it stays so

-- of a World that the stream finds
pub ended_later : (n : ℕ) (cs : List Call) (counts : ℕ → ℕ) (told : ℕ → Option (List (List ℕ))) (s t : State)
    → IsFound false n s t → HasEnded n cs counts told s
    → HasEnded n cs counts told t
ended_later n cs counts told s t found ended = record {
  turns = found.later.turns ∙ ended.turns;
  calls = found.later.calls ∙ ended.calls;
  gave_up = found.later.gave_up ∙ ended.gave_up;
  asked = sym (own_asked n (opening_of t) t.book.entries) ∙ ap (λ ps. calls_of n (entries_in ps)) own
      ∙ own_asked n (opening_of s) s.book.entries ∙ ended.asked;
  counted = λ r. subst (λ k. k ≤ counts r)
      (sym (sym (own_last n r (opening_of t) t.book.entries) ∙ ap (λ ps. last_count n r (entries_in ps)) own
      ∙ own_last n r (opening_of s) s.book.entries)) (ended.counted r);
  carried = subst (λ (m : Mine). AreCarried m.replicas told m.entries) (sym same) ended.carried;
  framed = λ r low. ended.framed r (omega (arith, low, ap (λ (m : Mine). m.replicas) same));
}
  where
    same : view false n t ≡ view false n s
    same = found_same false n s t found

    own : own_entries n (opening_of t) t.book.entries ≡ own_entries n (opening_of s) s.book.entries
    own = ap (λ (m : Mine). m.entries) same

-- and by what the lines told when they were taken back
pub ended_noted : (n k : ℕ) (cs : List Call) (ns : List ℕ) (ts : List (Option (List (List ℕ)))) (counts : ℕ → ℕ)
    (told : ℕ → Option (List (List ℕ))) (t : State) → IsSound t → length t.nodes ≡ k → length ns ≡ k
    → ((r : ℕ) → r < k → counts r ≡ slice_index_or ns r 0) → ((r : ℕ) → r < k → told r ≡ told_in ts r)
    → HasEnded n cs (λ r. slice_index_or ns r 0) (told_in ts) t → HasEnded n cs counts told t
ended_noted n k cs ns ts counts told t sound many as_many same_counts same_told ended = record {
  turns = ended.turns;
  calls = ended.calls;
  gave_up = ended.gave_up;
  asked = ended.asked;
  counted = λ r. elim (cases_lt r k) [
    | inl low ↦ omega (arith, ended.counted r, same_counts r low)
    | inr high ↦ omega (arith, ended.counted r, get_or_past ns r 0 (omega (arith, high, as_many)))
  ];
  carried = told_carried (length t.nodes) n (told_in ts) told (λ r low. same_told r (omega (arith, low, many)))
      (opening_of t) t.book.entries (modes_many t sound) ended.carried;
  framed = λ r low. subst (λ x. IfSome x (All IsFrame)) (sym (same_told r (omega (arith, low, many)))) (ended.framed r low);
}
