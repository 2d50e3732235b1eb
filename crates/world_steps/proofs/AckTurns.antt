-- A replica acknowledges a call, which ends thereby or cannot end yet, in one turn: the World that was seen as s is found as x,
-- is mid once the replica has acknowledged, is left as y, and seen so as u.
use Rattle.std.proofs.Common.{◌≡◌, ℕ, ◌<◌, is_ok, Bool, true, false, List, [], ◌∷◌, ◌++◌, Result, Ok, OnOk, OnErr, IfOk, IfErr}
use Rattle.std.proofs.Common.{Err as Failed, refl, subst, sym, ap, ◌∙◌, append_assoc}
use Rattle.std.specs.List.{Any}
use Rattle.range_turns.specs.declared.ticket.Ticket.{Ticket}
use Rattle.volume_model.specs.Copies.{RemovesNone}
use Rattle.volume_model.specs.declared.entry.Entry.{Entry}
use Rattle.volume_model.specs.declared.entry.Entry.TheVariants as entry
use Rattle.step_answers.specs.declared.answers.NotThis.{NotThis}
use Rattle.step_answers.specs.Parts.{part_at, IsTaken}
use Rattle.open_calls.specs.Calls.{open_at}
use Rattle.open_calls.specs.declared.maint.MaintCall.{MaintCall}
use Rattle.volume_core.specs.Places.{IsCallAt}
use Rattle.volume_core.specs.State.{State, modes_in}
use Rattle.volume_core.specs.Steps.{acked}
use Rattle.volume_core.specs.Answers.{Completes}
use Rattle.volume_core.specs.Streams.{Origin, MayAppend, MayGo, ForOwner, IsAnsweredTo}
use Rattle.volume_core.specs.Against as core
use Rattle.world_holder.specs.Counted.{IsRebuildKept, kept_later}
use Rattle.world_holder.specs.View.{view, IsFree, IsFound, Owes}
use Rattle.world_holder.proofs.Leaves.{may_stay}
use Rattle.world_holder.proofs.Taken.{later_itself}
use Rattle.stream_steps.specs.Mine.{Mine, OwnCall, IsOwn, ForOwn, with_running}
use Rattle.stream_steps.specs.Does.{Does}
use Rattle.stream_steps.specs.Against.{RefusesAck}
use Rattle.stream_steps.specs.Steps.{HasStarted, AcksTo, Answers}
use Rattle.stream_steps.specs.Ended.{acked_by, AcksOnly, AcksOrEnds}
use Rattle.world_steps.specs.Acked.{AcksThen}
use Rattle.world_steps.proofs.Against.{started_open}
use Rattle.world_steps.proofs.FrameTurns.{owes_by, found_may, free_on, ack_go, ack_does, end_does}
use Rattle.world_steps.proofs.Rest.{rest_of, turns_acked, turns_completed}
use Rattle.world_steps.proofs.RebuildKept.{kept_itself, kept_acked, kept_completed}

-- ---- two steps, one behind the other

append_may : (n : ℕ) (xs ys : List Entry) → MayAppend n xs → MayAppend n ys → MayAppend n (xs ++ ys)
append_may n [] ys f h = h
append_may n (entry.Answer a ∷ xs) ys f h = (f.0, append_may n xs ys f.1 h)
append_may n (entry.Mark m ∷ xs) ys f h = (f.0, append_may n xs ys f.1 h)

removes_append : (name : List ℕ) (xs ys : List Entry) → RemovesNone name xs → RemovesNone name ys → RemovesNone name (xs ++ ys)
removes_append name [] ys f h = h
removes_append name (entry.Answer a ∷ xs) ys f h = (f.0, removes_append name xs ys f.1 h)
removes_append name (entry.Mark m ∷ xs) ys f h = removes_append name xs ys f h

may_then : (n : ℕ) (x y z : State) → MayGo n x y → MayGo n y z → MayGo n x z
may_then n x y z f h = record {
  sound = h.sound;
  origin = h.origin ∙ f.origin;
  added = (
    f.added.0 ++ h.added.0,
    h.added.1 ∙ ap (λ l. l ++ h.added.0) f.added.1 ∙ append_assoc x.book.entries f.added.0 h.added.0,
    append_may n f.added.0 h.added.0 f.added.2 h.added.2,
  );
  others = λ m other. h.others m other ∙ f.others m other;
  turns = λ m other. h.turns m other ∙ f.turns m other;
  gave_up = λ m other. h.gave_up m other ∙ f.gave_up m other;
  removes = λ m other turn name. removes_append name f.added.0 h.added.0 (f.removes m other turn name)
      (h.removes m other (subst (Any (λ (p : Ticket × MaintCall). p.0.started ≡ true)) (sym (f.turns m other)) turn) name);
}

-- the World that a step left is found by the next in the same turn
found_left : (a : Bool) (n : ℕ) (s x y : State) → IsFound a n s x → MayGo n x y → IsFound a n y y
found_left a n s x y found may = record {
  sound = may.sound;
  there = subst (λ k. n < k) (sym (ap (λ (o : Origin). o.streams) may.origin)) found.there;
  later = later_itself n y;
  same = λ alone. (
    refl,
    record {
      calls = λ m other. may.others m other ∙ (found.same alone).1.calls m other;
      turns = λ m other. may.turns m other ∙ (found.same alone).1.turns m other;
      gave_up = λ m other. may.gave_up m other ∙ (found.same alone).1.gave_up m other;
    },
  );
}

-- what is answered does not hang on what is open
answers_of : (o : OwnCall) (m m2 : Mine) (os : List OwnCall) → Answers o (with_running m os) m2 → Answers o m m2
answers_of o m m2 os s = record {
  spot = s.spot;
  answer = s.answer;
  is = s.is;
  here = s.here;
  call = s.call;
  by = s.by;
  saw = s.saw;
  done = s.done;
  read = s.read;
}

-- what the two calls say, together
pub acks_then : (x m y : State) (t r : ℕ) (res : Result ℕ NotThis)
    → (i : ℕ) × IsCallAt x t i × IsTaken (part_at (open_at x.calls i).parts r) × (m ≡ acked x i r)
    → ForOwner t x (λ n c. MayGo n x m) → OnOk res (Completes m t y) → IfErr res (core.AgainstEnd m t) → OnErr res (y ≡ m)
    → ForOwner t m (λ n c. MayGo n m y) → IfOk res (λ place. ForOwner t m (λ n c. IsAnsweredTo n c m y))
    → AcksThen x t r (is_ok res) y
acks_then x m y t r (Ok place) acks may ok why err go sees =
    record { between = m; acks = acks; may = may; ends = record { completes = ok; may = go; sees = sees } }
acks_then x m y t r (Failed w) acks may ok why err go sees =
    record { between = m; acks = acks; may = may; ends = record { same = err; against = w; why = why } }

-- ---- the replica has acknowledged

module _ (a : Bool) (n t r : ℕ) (s x : State) (found : IsFound a n s x) (op : (o : OwnCall) × IsOwn t o (view a n s) × HasStarted o) where
  module _ (y : State) (e : Bool) (h : AcksThen x t r e y) where
    abbrev mid : State
    mid = h.between

    abbrev got : (i : ℕ) × IsCallAt x t i × IsTaken (part_at (open_at x.calls i).parts r) × (mid ≡ acked x i r)
    got = h.acks

    mid_go : MayGo n x mid
    mid_go = ack_go a n t r s x mid found (Ok tt) op h.may got tt

    mid_found : IsFound a n mid mid
    mid_found = found_left a n s x mid found mid_go

    mid_acks : (u : State) → u ≡ mid → (o : OwnCall) → IsOwn t o (view a n s) → AcksTo o r (view a n s) (view a n u)
    mid_acks u left = (ack_does a n t r s x mid found (Ok tt) op h.may got tt u left tt).ok

    mid_rest : rest_of mid ≡ rest_of x
    mid_rest = turns_acked {E = NotThis} t r x mid (Ok tt) got tt

    mid_kept : IsRebuildKept x.rebuild x mid
    mid_kept = kept_acked {E = NotThis} t r x mid (Ok tt) got tt

    mid_own : (o : OwnCall) → IsOwn t o (view a n s) → IsOwn t (acked_by o r) (view a n mid)
    mid_own o own = record { is = ap (λ (m : Mine). m.running) (mid_acks mid refl o own); number = own.number }

    mid_op : (o : OwnCall) × IsOwn t o (view a n mid) × HasStarted o
    mid_op = (acked_by op.0 r, mid_own op.0 op.1, op.2)

  -- it ends
  module _ (y : State) (h : AcksThen x t r true y) where
    end_go : MayGo n x y
    end_go = may_then n x (mid y true h) y (mid_go y true h)
        (found_may a n (mid y true h) (mid y true h) (mid_found y true h) t
        (started_open t (view a n (mid y true h)) (mid_op y true h)) y h.ends.may)

    end_rest : rest_of y ≡ rest_of x
    end_rest = turns_completed {E = NotThis} t (mid y true h) y (Ok 0) h.ends.completes tt ∙ mid_rest y true h

    end_kept : IsRebuildKept x.rebuild x y
    end_kept = kept_later x.rebuild x (mid y true h) y (mid_kept y true h)
        (kept_completed {E = NotThis} t (mid y true h) y (Ok 0) h.ends.completes tt)

    end_answers : (u : State) → u ≡ y → (o : OwnCall) → IsOwn t o (view a n s) → Answers (acked_by o r) (view a n s) (view a n u)
    end_answers u left o own =
        let ends = (end_does a n t (mid y true h) (mid y true h) y (mid_found y true h) (Ok 0) (mid_op y true h) h.ends.may
        h.ends.completes tt u left h.ends.sees tt).ok (acked_by o r) (mid_own y true h o own) in
        answers_of (acked_by o r) (view a n s) (view a n u) (acked_by o r ∷ [])
        (subst (λ (m : Mine). Answers (acked_by o r) m (view a n u)) (mid_acks y true h (mid y true h) refl o own) ends)

  -- it cannot
  module _ (y : State) (h : AcksThen x t r false y) where
    on_go : MayGo n x y
    on_go = subst (MayGo n x) (sym h.ends.same) (mid_go y false h)

    on_rest : rest_of y ≡ rest_of x
    on_rest = ap rest_of h.ends.same ∙ mid_rest y false h

    on_kept : IsRebuildKept x.rebuild x y
    on_kept = subst (IsRebuildKept x.rebuild x) (sym h.ends.same) (mid_kept y false h)

    on_acks : (u : State) → u ≡ y → (o : OwnCall) → IsOwn t o (view a n s) → AcksOnly o r (modes_in u) (view a n s) (view a n u)
    on_acks u left o own = record {
      acks = mid_acks y false h u (left ∙ h.ends.same) o own;
      against = h.ends.against;
      why = (end_does a n t (mid y false h) (mid y false h) (mid y false h) (mid_found y false h) (Failed h.ends.against)
          (mid_op y false h) (λ m c own. may_stay m (mid y false h) (mid_go y false h).sound) tt refl u (left ∙ h.ends.same) tt
          h.ends.why).why (acked_by o r) (mid_own y false h o own);
    }

  -- ---- and so the step

  module _ (y : State) where
    pub acked_go : (res : Result Bool NotThis) → IfOk res (λ e. AcksThen x t r e y) → OnErr res (y ≡ x) → MayGo n x y
    acked_go (Ok true) ok err = end_go y ok
    acked_go (Ok false) ok err = on_go y ok
    acked_go (Failed why) ok err = subst (MayGo n x) (sym err) (may_stay n x found.sound)

    acked_rest : (res : Result Bool NotThis) → IfOk res (λ e. AcksThen x t r e y) → OnErr res (y ≡ x) → rest_of y ≡ rest_of x
    acked_rest (Ok true) ok err = end_rest y ok
    acked_rest (Ok false) ok err = on_rest y ok
    acked_rest (Failed why) ok err = ap rest_of err

    acked_kept : (res : Result Bool NotThis) → IfOk res (λ e. AcksThen x t r e y) → OnErr res (y ≡ x) → IsRebuildKept x.rebuild x y
    acked_kept (Ok true) ok err = end_kept y ok
    acked_kept (Ok false) ok err = on_kept y ok
    acked_kept (Failed why) ok err = subst (IsRebuildKept x.rebuild x) (sym err) (kept_itself x)

    module _ (res : Result Bool NotThis) (ok : IfOk res (λ e. AcksThen x t r e y)) (err : OnErr res (y ≡ x)) where
      pub acked_owes : Owes n x y
      acked_owes = owes_by n x y (acked_go res ok err) (acked_rest res ok err) (acked_kept res ok err)

      module _ (u : State) (left : u ≡ y) where
        pub acked_free : IsFree n s → IsFree n u
        acked_free free = free_on a n s x found y u left free (acked_rest res ok err)

        pub acked_does : IfErr res (core.AgainstAck x t r) → Does res (view a n s) (view a n u)
            (λ e. ForOwn t (view a n s) (λ o. AcksOrEnds o r (modes_in u) e (view a n s) (view a n u)))
            (λ why. ForOwn t (view a n s) (λ o. RefusesAck (modes_in u) o r why))
        acked_does = by res ok err
          where
            by : (q : Result Bool NotThis) → IfOk q (λ e. AcksThen x t r e y) → OnErr q (y ≡ x) → IfErr q (core.AgainstAck x t r)
                → Does q (view a n s) (view a n u)
                (λ e. ForOwn t (view a n s) (λ o. AcksOrEnds o r (modes_in u) e (view a n s) (view a n u)))
                (λ why. ForOwn t (view a n s) (λ o. RefusesAck (modes_in u) o r why))
            by (Ok true) h same why = record { ok = end_answers y h u left; why = tt; err = tt }
            by (Ok false) h same why = record { ok = on_acks y h u left; why = tt; err = tt }
            by (Failed w) h same why =
                let refused = ack_does a n t r s x y found (Failed w) op (λ m c own. subst (MayGo m x) (sym same) (may_stay m x found.sound))
                tt same u left why in
                record { ok = tt; why = refused.why; err = refused.err }
