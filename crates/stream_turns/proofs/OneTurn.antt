-- What serving one stream leaves is its turn.
use Rattle.std.proofs.Common.{◌≡◌, ℕ, suc, ◌+◌, ◌<◌, ◌≤◌, inl, inr, Bool, true, false, cond, eqb, List, [], ◌∷◌, ◌++◌}
use Rattle.std.proofs.Common.{length, map, Option, Some, sym, refl, ap, subst, ◌∙◌, arith, append_assoc, append-nil}
use Rattle.std.specs.Prelude.{IfSome}
use Rattle.std.specs.List.{All}
use Rattle.std.proofs.lemmas.Bool.{cases_lt}
use Rattle.std.proofs.lemmas.List.{get_or_past}
use Rattle.std.proofs.lemmas.List.Elements.{All-nil, All-cons, All-head, All-tail}
use Rattle.volume_model.specs.declared.command.Command.{Command}
use Rattle.volume_model.specs.declared.call.Call.{Call}
use Rattle.volume_model.specs.declared.call.Call.TheVariants as call
use Rattle.volume_model.specs.declared.call.Reply.{Reply}
use Rattle.volume_model.specs.declared.call.Reply.TheVariants as reply
use Rattle.volume_model.specs.declared.entry.Answer.{Answer}
use Rattle.volume_model.specs.declared.entry.Entry.{Entry}
use Rattle.volume_model.specs.declared.entry.Entry.TheVariants as entry
use Rattle.volume_model.specs.declared.mode.Mode.{Mode}
use Rattle.volume_model.specs.declared.mode.Mode.TheVariants.{Rw, Err}
use Rattle.volume_model.specs.Faults.{fault_counts, last_in, last_count, CountsRise}
use Rattle.volume_model.specs.History.{Spot, LegalAfter, IsLegal, SeenInOrder, answers_from, InOrderFrom}
use Rattle.volume_model.specs.Modes.{mode_of}
use Rattle.volume_model.specs.OneWorker.{behind_entries}
use Rattle.volume_model.proofs.FaultLemmas.{fault_counts-append}
use Rattle.volume_model.proofs.LegalLemmas.{answers_from-append}
use Rattle.volume_model.proofs.OneWorkerLemmas.{length-modes_after}
use Rattle.stream_steps.specs.Mine.{Placed, entries_in}
use Rattle.stream_steps.specs.Steps.{IsFrameCall}
use Rattle.frame_wire.specs.Spelling.{IsFrame}
use Rattle.client_worker.specs.Exchanges.{CarriedOf, IsCarried, AreCarried, HasRead, HasWrite}
use Rattle.client_worker.specs.Serving.{AreServed}
use Rattle.control_worker.specs.Serving.{AreCommanded}
use Rattle.world_holder.specs.View.{is_own, own_entries}
use Rattle.stream_turns.specs.Run.{store_in}
use Rattle.stream_turns.specs.Turns.{AreWell, IsTurn}
use Rattle.world_holder.proofs.Entries.{own_counts}
use Rattle.stream_turns.proofs.Counted.{none_counted}
use Rattle.stream_turns.proofs.Own.{not_some, none_behind}
use Rattle.stream_turns.proofs.Groups.{served_groups, commanded_groups, groups_own, groups_calls}
use Rattle.stream_turns.proofs.Turns.{log_at, frames_turn, commands_turn, back_none}

-- ---- before its turn a stream has no entry

no_answer : (b : Bool) (p : Placed) (q : ℕ × Answer) (ps : List Placed) (qs : List (ℕ × Answer)) → cond b (p ∷ ps) ps ≡ []
    → (ps ≡ [] → qs ≡ []) → cond b (q ∷ qs) qs ≡ []
no_answer true p q ps qs e more = absurd (not_some p ps e)
no_answer false p q ps qs e more = more e

pub none_answered : (w place : ℕ) (spot : Spot) (es : List Entry) → own_entries w spot es ≡ [] → answers_from w place es ≡ []
none_answered w place spot [] none = refl
none_answered w place spot (entry.Answer a ∷ es) none =
    let after = behind_entries spot (entry.Answer a ∷ []) in
    no_answer (eqb a.stream w) (record { spot = spot; entry = entry.Answer a }) (place, a) (own_entries w after es)
    (answers_from w (suc place) es) none (none_answered w (suc place) after es)
none_answered w place spot (entry.Mark m ∷ es) none =
    none_answered w (suc place) (behind_entries spot (entry.Mark m ∷ [])) es (none_behind w spot (entry.Mark m) es none)

-- ---- what is behind a part of a legal journal

pub legal_behind : (opening : Spot) (front xs ys : List Entry) → LegalAfter opening front (xs ++ ys) → LegalAfter opening (front ++ xs) ys
legal_behind opening front [] ys legal = subst (λ l. LegalAfter opening l ys) (sym (append-nil front)) legal
legal_behind opening front (x ∷ xs) ys legal =
    subst (λ l. LegalAfter opening l ys) (append_assoc front (x ∷ []) xs)
    (legal_behind opening (front ++ x ∷ []) xs ys legal.1)

-- ---- what the lines told, by the wiring

module _ (replicas w : ℕ) (before told : ℕ → Option (List (List ℕ))) (same : (r : ℕ) → r < replicas → told r ≡ before r) where
  up_there : (modes : List Mode) → length modes ≡ replicas → (r : ℕ) → mode_of modes r ≡ Rw → r < replicas
  up_there modes many r up = elim (cases_lt r replicas) [
    | inl low ↦ low
    | inr high ↦ absurd (err_up (sym (get_or_past modes r Err (omega (arith, many, high))) ∙ up))
  ]
    where
      err_up : Err ≡ Rw → ⊥
      err_up e = cc

  told_of : (modes : List Mode) (c : Call) (r : Reply) → length modes ≡ replicas → CarriedOf replicas before modes c r
      → CarriedOf replicas told modes c r
  told_of modes (call.Read offset n) (reply.Read bytes) many had =
      (had.0, had.1, subst (λ x. IfSome x (HasRead offset bytes)) (sym (same had.0 had.1)) had.2)
  told_of modes (call.Read offset n) reply.Done many had = tt
  told_of modes (call.Read offset n) (reply.Status layers ms) many had = tt
  told_of modes (call.Read offset n) (reply.Aborted place) many had = tt
  told_of modes (call.Read offset n) (reply.Refused why) many had = tt
  told_of modes (call.Write offset bytes) (reply.Read read) many had = tt
  told_of modes (call.Write offset bytes) reply.Done many had =
      λ r up. subst (λ x. IfSome x (HasWrite offset bytes)) (sym (same r (up_there modes many r up))) (had r up)
  told_of modes (call.Write offset bytes) (reply.Status layers ms) many had = tt
  told_of modes (call.Write offset bytes) (reply.Aborted place) many had = tt
  told_of modes (call.Write offset bytes) (reply.Refused why) many had = tt
  told_of modes call.Ping r many had = tt
  told_of modes (call.Other kind) r many had = tt
  told_of modes (call.Command c) r many had = tt

  told_entry : (modes : List Mode) (e : Entry) → length modes ≡ replicas → IsCarried replicas before modes e
      → IsCarried replicas told modes e
  told_entry modes (entry.Answer a) many had = told_of modes a.call a.reply many had
  told_entry modes (entry.Mark m) many had = tt

  told_more : (b : Bool) (p : Placed) (ps : List Placed) → length p.spot.modes ≡ replicas
      → (AreCarried replicas before ps → AreCarried replicas told ps)
      → AreCarried replicas before (cond b (p ∷ ps) ps) → AreCarried replicas told (cond b (p ∷ ps) ps)
  told_more true p ps many more had =
      All-cons (λ (q : Placed). IsCarried replicas told q.spot.modes q.entry) p ps
      (told_entry p.spot.modes p.entry many (All-head (λ (q : Placed). IsCarried replicas before q.spot.modes q.entry) p ps had))
      (more (All-tail (λ (q : Placed). IsCarried replicas before q.spot.modes q.entry) p ps had))
  told_more false p ps many more had = more had

  pub told_carried : (spot : Spot) (es : List Entry) → length spot.modes ≡ replicas
      → AreCarried replicas before (own_entries w spot es) → AreCarried replicas told (own_entries w spot es)
  told_carried spot [] many had = All-nil (λ (p : Placed). IsCarried replicas told p.spot.modes p.entry)
  told_carried spot (e ∷ es) many had =
      let after = behind_entries spot (e ∷ []) in
      told_more (is_own w e) (record { spot = spot; entry = e }) (own_entries w after es) many
      (told_carried after es (length-modes_after spot.modes (e ∷ []) ∙ many)) had

-- ---- the stream's part of the journal

module _ (opening : Spot) (replicas w : ℕ) (before added after : List Entry) (is : after ≡ before ++ added)
    (none : own_entries w opening before ≡ [])
    (legal : IsLegal opening after) (order : SeenInOrder after) (rise : CountsRise after) where
  legal_added : LegalAfter opening before added
  legal_added = legal_behind opening [] before added (subst (IsLegal opening) is legal)

  order_added : InOrderFrom 0 0 (answers_from w (length before) added)
  order_added = subst (InOrderFrom 0 0) all (order w)
    where
      all : answers_from w 0 after ≡ answers_from w (length before) added
      all = ap (answers_from w 0) is ∙ answers_from-append w 0 before added
          ∙ ap (λ l. l ++ answers_from w (0 + length before) added) (none_answered w 0 opening before none)
          ∙ ap (λ n. answers_from w n added) (omega arith)

  module _ (counts : ℕ → ℕ) (told : ℕ → Option (List (List ℕ))) (past : (r : ℕ) → replicas ≤ r → counts r ≡ 0)
      (counted : (r : ℕ) → last_count w r (entries_in (own_entries w opening after)) ≤ counts r)
      (carried : AreCarried replicas told (own_entries w opening after))
      (framed : (r : ℕ) → r < replicas → IfSome (told r) (All IsFrame)) where
    shown : (r : ℕ) → last_count w r after ≤ counts r
    shown r = subst (λ l. last_in 0 l ≤ counts r) (own_counts w r opening after) (counted r)

    no_count : AreWell replicas counts → (r : ℕ) → last_count w r after ≤ 0
    no_count well r = elim (cases_lt r replicas) [
      | inl low ↦ omega (arith, well r low, shown r)
      | inr high ↦ omega (arith, past r high, shown r)
    ]

    -- where no line failed, the stream has no fault
    unfaulted : AreWell replicas counts → (r : ℕ) → fault_counts w r added ≡ []
    unfaulted well r = back_none (fault_counts w r before) (fault_counts w r added)
        (sym (fault_counts-append w r before added) ∙ ap (fault_counts w r) (sym is) ∙ none_counted w r after rise (no_count well r))

    pub frames_are : (cs : List Call) → All IsFrameCall cs → AreServed w (Some (log_at opening before)) cs added
        → IsTurn opening replicas w cs before after counts told
    frames_are cs frames served = record {
      added = added;
      is = is;
      own = groups_own w cs added (served_groups w (Some (log_at opening before)) cs added served);
      calls = groups_calls w 0 cs added (served_groups w (Some (log_at opening before)) cs added served);
      counted = shown;
      carried = carried;
      framed = framed;
      turn = λ well. frames_turn (store_in after) opening w 0 0 cs before added frames served (unfaulted well) legal_added order_added;
    }

    pub commands_are : (cs : List Command) → AreCommanded w (Some (log_at opening before)) cs added
        → IsTurn opening replicas w (map call.Command cs) before after counts told
    commands_are cs done = record {
      added = added;
      is = is;
      own = groups_own w (map call.Command cs) added (commanded_groups w (Some (log_at opening before)) cs added done);
      calls = groups_calls w 0 (map call.Command cs) added (commanded_groups w (Some (log_at opening before)) cs added done);
      counted = shown;
      carried = carried;
      framed = framed;
      turn = λ well. commands_turn after opening w 0 0 cs before added is done (unfaulted well) order_added;
    }

-- ---- the lines are taken back

-- what they told is noted
pub noted : (opening : Spot) (replicas w : ℕ) (cs : List Call) (before after : List Entry) (counts counts' : ℕ → ℕ)
    (told told' : ℕ → Option (List (List ℕ))) → length opening.modes ≡ replicas
    → IsTurn opening replicas w cs before after counts told → ((r : ℕ) → replicas ≤ r → counts r ≡ 0)
    → ((r : ℕ) → r < replicas → counts' r ≡ counts r)
    → ((r : ℕ) → r < replicas → told' r ≡ told r) → IsTurn opening replicas w cs before after counts' told'
noted opening replicas w cs before after counts counts' told told' many turn past same_counts same_told = record {
  added = turn.added;
  is = turn.is;
  own = turn.own;
  calls = turn.calls;
  counted = λ r. elim (cases_lt r replicas) [
    | inl low ↦ omega (arith, same_counts r low, turn.counted r)
    | inr high ↦ omega (arith, past r high, turn.counted r)
  ];
  carried = told_carried replicas w told told' same_told opening after many turn.carried;
  framed = λ r low. subst (λ t. IfSome t (All IsFrame)) (sym (same_told r low)) (turn.framed r low);
  turn = λ well. turn.turn (λ r low. sym (same_counts r low) ∙ well r low);
}
