-- A barrier is asked to start, in one turn: the World that was seen as s is found as x, left as y, and seen so as u.
use Rattle.std.proofs.Common.{◌≡◌, ◌≢◌, ◌⊎◌, inl, inr, ℕ, zero, suc, ◌<◌, ◌≤◌, Bool, false, List, [], ◌∷◌, ◌++◌, length, Some, None}
use Rattle.std.proofs.Common.{Result, Ok, OnErr, IfOk, IfSome, subst, sym, ap, ◌∙◌, arith}
use Rattle.std.proofs.Common.{Err as Failed}
use Rattle.std.proofs.lemmas.Bool.{false≢true}
use Rattle.volume_model.specs.declared.call.Call.TheVariants as call
use Rattle.volume_model.specs.declared.entry.Entry.{Entry}
use Rattle.volume_model.specs.declared.entry.Entry.TheVariants as entry
use Rattle.volume_model.specs.declared.mark.Mark.TheVariants as mark
use Rattle.volume_model.specs.declared.mode.Mode.{Mode}
use Rattle.volume_model.specs.declared.mode.Mode.TheVariants.{Rw}
use Rattle.volume_model.specs.Modes.{mode_of}
use Rattle.volume_model.specs.OneWorker.{refused_at}
use Rattle.step_answers.specs.declared.answers.AdmitWhole.{AdmitWhole}
use Rattle.step_answers.specs.declared.answers.AdmitWhole.TheVariants as admit
use Rattle.step_answers.specs.declared.whole_op.WholeOp.TheVariants as whole
use Rattle.step_answers.specs.Asked.{command_of}
use Rattle.open_calls.specs.declared.open_call.OpenCall.{OpenCall}
use Rattle.open_calls.specs.Calls.{open_at}
use Rattle.open_calls.proofs.Forms.{length-forms}
use Rattle.volume_core.specs.State.{State, modes_in, spot_of}
use Rattle.volume_core.specs.Sound.{IsSound}
use Rattle.volume_core.specs.Streams.{turning, MayGo}
use Rattle.volume_maint.specs.Answers as world
use Rattle.volume_maint.specs.Places as place
use Rattle.volume_maint.specs.Places.{ForCaller}
use Rattle.volume_maint.specs.Steps.{barrier_name}
use Rattle.stream_steps.specs.declared.add.Added.{Added}
use Rattle.stream_steps.specs.declared.add.AdmitBarrier.{AdmitBarrier}
use Rattle.stream_steps.specs.declared.add.AdmitBarrier.TheVariants as barrier
use Rattle.stream_steps.specs.Mine.{Mine, OwnCall}
use Rattle.stream_steps.specs.Maint as maint
use Rattle.stream_steps.specs.Maint.{HasWhole, ForBarrier}
use Rattle.stream_steps.specs.Does.{StartsOrWaits}
use Rattle.stream_steps.specs.Add.{AdmitsBarrier, BeginsBy, BeginsRebuild, IfBegun, IsFromOther, IsNoWait, IsStillUnbegun, WaitsBarrier}
use Rattle.world_holder.specs.Counted.{IsRebuildKept}
use Rattle.world_holder.specs.View.{view, IsFound, Owes}
use Rattle.world_holder.proofs.CountedLemmas.{kept_in_turn}
use Rattle.world_holder.proofs.Grow.{found_same, over, unchanged}
use Rattle.world_steps.proofs.Does.{starts_or_waits}
use Rattle.world_steps.proofs.Begun.{first_adds}
use Rattle.world_steps.proofs.Pages.{apart}
use Rattle.world_steps.proofs.Shapes.{HasCall, has_call}
use Rattle.world_steps.proofs.Wholes.{Waits, number_here, same_op, whole_owner}
use Rattle.world_steps.proofs.WholeStarts.{barrier_starts}
use Rattle.world_steps.proofs.WholesGaveUp.{admit_gave}
use Rattle.world_steps.proofs.WholeTurns.{waits_there, admit_owes, admit_to, admit_soon}
use Rattle.world_steps.specs.Rebuild.{AddsInTurn, AdmitsBarrierIn, IsBegunIn, IsToldBegun, IsUnbegun}
use Rattle.world_steps.specs.Seen.{seen_of}

-- the barrier of an add waits for its start
abbrev HasBarrier : ℕ → Mine → Type 0
HasBarrier t m = (r : ℕ) × (turn : List OwnCall) × (o : OwnCall) × HasWhole t (whole.Barrier r) turn o m × (o.started ≡ false)

as_waits : (t : ℕ) (m : Mine) → HasBarrier t m → Waits t m
as_waits t m h = (whole.Barrier h.0, h.1, h.2, h.3, h.4)

-- ---- how its rebuild began

same_last : (xs ys : List Entry) (x y : Entry) → xs ++ x ∷ [] ≡ ys ++ y ∷ [] → x ≡ y
same_last [] [] x y e = cc
same_last [] (b ∷ []) x y e = absurd cc
same_last [] (b ∷ c ∷ ys) x y e = absurd cc
same_last (a ∷ []) [] x y e = absurd cc
same_last (a ∷ c ∷ xs) [] x y e = absurd cc
same_last (a ∷ xs) (b ∷ ys) x y e = same_last xs ys x y cc

same_source : (r q p k : ℕ) (n m : List ℕ) → entry.Mark (mark.Added r p n) ≡ entry.Mark (mark.Added q k m) → p ≡ k
same_source r q p k n m e = cc

same_name : (r q p k : ℕ) (n m : List ℕ) → entry.Mark (mark.Added r p n) ≡ entry.Mark (mark.Added q k m) → n ≡ m
same_name r q p k n m e = cc

-- where the mark of the rebuild is the last, it is told so
module _ (x y : State) (i r : ℕ) (added : Added) (g : world.BeginsBarrier x i r y) (told : IsToldBegun added y) where
  same_mark : entry.Mark (mark.Added g.b.target g.b.source (barrier_name x g.b.source))
      ≡ entry.Mark (mark.Added told.target added.source added.name)
  same_mark = same_last x.book.entries told.front
      (entry.Mark (mark.Added g.b.target g.b.source (barrier_name x g.b.source)))
      (entry.Mark (mark.Added told.target added.source added.name))
      (sym (ap (λ (z : State). z.book.entries) g.state) ∙ told.is)

  from_there : g.b.source ≡ added.source
  from_there = same_source g.b.target told.target g.b.source added.source (barrier_name x g.b.source) added.name same_mark

  so_named : barrier_name x g.b.source ≡ added.name
  so_named = same_name g.b.target told.target g.b.source added.source (barrier_name x g.b.source) added.name same_mark

-- a replica that is read is there
read_there : (s : State) (r : ℕ) → IsSound s → mode_of (modes_in s) r ≡ Rw → r < length s.nodes
read_there s r ok read = omega (arith, within (modes_in s) r read, ok.on.clients.agree.as_many, length-forms s.whole s.nodes)
  where
    within : (ms : List Mode) (k : ℕ) → mode_of ms k ≡ Rw → k < length ms
    within [] k e = absurd cc
    within (m ∷ ms) zero e = omega arith
    within (m ∷ ms) (suc k) e = omega (arith, within ms k e)

-- ---- what is found

module _ (a : Bool) (n t : ℕ) (s x : State) (found : IsFound a n s x) (h : HasBarrier t (view a n s)) where
  found_barrier : HasBarrier t (view a n x)
  found_barrier = subst (HasBarrier t) (sym (found_same a n s x found)) h

  here : (r : ℕ) (turn : List OwnCall) (o : OwnCall) → HasWhole t (whole.Barrier r) turn o (view a n x)
      → HasCall a n x t (whole.Barrier r) turn o
  here r turn o w = has_call a n x t (whole.Barrier r) turn o found.sound w

  -- it waits, and is a barrier
  pub barrier_there : (i r : ℕ) × place.AwaitsWhole x t i × ((open_at x.calls i).op ≡ Some (whole.Barrier r))
  barrier_there =
      let k = found_barrier in
      let c = here k.0 k.1 k.2 k.3 in
      let w = waits_there a n t s x found (as_waits t (view a n s) h) in
      let at = number_here a n x t (whole.Barrier k.0) k.1 k.2 c w.0 w.1.stands in (
        w.0,
        k.0,
        w.1,
        ap (λ j. (open_at x.calls j).op) at ∙ ap (λ (z : OpenCall). z.op) c.at.call ∙ c.does,
      )

  -- its add has the turn
  its_add : (r : ℕ) (turn : List OwnCall) (o : OwnCall) → HasWhole t (whole.Barrier r) turn o (view a n x) → AddsInTurn n r x
  its_add r turn o w = first_adds n r x found.sound (here r turn o w).asked

  -- so that no rebuild was begun, if none was
  found_unbegun : IsUnbegun s → IsUnbegun x
  found_unbegun unbegun =
      let k = found_barrier in
      let d = its_add k.0 k.1 k.2 k.3 in
      let kept = kept_in_turn n s x d.p.0 d.p.1 found.later (sym found.later.turns ∙ d.turns) d.started in
      let none = subst (λ o. IsRebuildKept o s x) unbegun.closed kept in
      record { closed = none.none; first = none.ended ∙ unbegun.first }

  -- ---- what is left

  module _ {E : Type 0} (y : State) (res : Result AdmitBarrier E) (may : ForCaller x t (λ m. MayGo m x y))
      (ok : IfOk res (λ b. AdmitsBarrierIn x t b y)) (err : OnErr res (y ≡ x)) where
    -- so an operation on the whole volume is answered
    as_whole : (res : Result AdmitBarrier E) → IfOk res (λ b. AdmitsBarrierIn x t b y) → OnErr res (y ≡ x)
        → (ans : Result AdmitWhole E) × IfOk ans (λ w. world.AdmitsWhole x t w y) × OnErr ans (y ≡ x)
    as_whole (Ok (barrier.Go added)) k e = (Ok admit.Go, k.0, tt)
    as_whole (Ok (barrier.After other)) k e = (Ok (admit.After other), k, tt)
    as_whole (Ok barrier.Never) k e = (Ok admit.Never, k, tt)
    as_whole (Ok barrier.Refused) k e = (Ok (admit.Refused k.0 k.1), k.2, tt)
    as_whole (Failed f) k e = (Failed f, tt, e)

    pub barrier_owes : Owes n x y
    barrier_owes = let k = as_whole res ok err in admit_owes a n t s x found (as_waits t (view a n s) h) y k.0 may k.1 k.2

    pub barrier_gave : y.gave_up ≡ x.gave_up
    barrier_gave = let k = as_whole res ok err in admit_gave x y t k.0 k.1 k.2

    -- ---- it starts

    module _ (added : Added) (k : AdmitsBarrierIn x t (barrier.Go added) y) (r : ℕ) (turn : List OwnCall) (o : OwnCall)
        (w : HasWhole t (whole.Barrier r) turn o (view a n x)) where
      its_op : k.0.1 ≡ whole.Barrier r
      its_op = same_op a n x t (whole.Barrier r) turn o (here r turn o w) k.0.0 k.0.1 k.0.2.awaits.stands k.0.2.asks

      begins : world.BeginsBarrier x k.0.0 r y
      begins = subst (λ p. world.BeginsWhole x k.0.0 p y) its_op k.0.5

      free : refused_at (spot_of x) o.call ≡ None
      free = subst (λ c. refused_at (spot_of x) c ≡ None) (ap (λ p. call.Command (command_of p)) its_op ∙ sym w.call) k.0.4

      own_go : MayGo n x y
      own_go = whole_owner a n t x found.sound (whole.Barrier r, turn, o, w) (λ m. MayGo m x y) may

      begins_by : BeginsBy added r turn o (view a n x) (view a n y)
      begins_by =
          let g = begins in
          subst (λ d. BeginsBy d r turn o (view a n x) (view a n y))
          (λ i. record { source = from_there x y k.0.0 r added g k.1 i; name = so_named x y k.0.0 r added g k.1 i })
          (barrier_starts a n x t (whole.Barrier r) turn o (here r turn o w) y own_go found.sound free k.0.0 r
          (subst (world.IsWaiting x t k.0.0) its_op k.0.2) g)

      begun_from : IsSound y → IsFromOther added.source r (view a n x).replicas (λ source q. IsBegunIn n y false source q)
      begun_from sound =
          let g = begins in
          let d = its_add r turn o w in
          let from = from_there x y k.0.0 r added g k.1 in
          let begun : y.rebuild ≡ Some g.b = ap (λ (z : State). z.rebuild) g.state in
          record {
            is = record {
              turn = record { p = d.p; turns = ap (λ (z : State). turning z n) g.state ∙ d.turns; started = d.started; adds = d.adds };
              is = inl (record { b = g.b; is = begun; from = from; to = g.target; ended = λ e. absurd (false≢true e) });
            };
            from = subst (λ j. j < length x.nodes) from (read_there x g.b.source found.sound g.source.read);
            to = (subst (world.MayBegin x) its_op k.0.3).there;
            apart = λ e. apart y g.b sound begun (from ∙ e ∙ sym g.target);
          }

    -- it may not begin only where a rebuild was begun, if its replica is there
    barrier_never : res ≡ Ok barrier.Never → (r : ℕ) (turn : List OwnCall) (o : OwnCall)
        → HasWhole t (whole.Barrier r) turn o (view a n s) → r < (view a n s).replicas → ¬ IsUnbegun s
    barrier_never e = subst (λ (m : Mine). (r : ℕ) (turn : List OwnCall) (o : OwnCall) → HasWhole t (whole.Barrier r) turn o m
        → r < m.replicas → ¬ IsUnbegun s) (found_same a n s x found) (by res e ok)
      where
        against : (r : ℕ) → (x.rebuild ≢ None) ⊎ ((x.ended ≢ None) ⊎ (length x.nodes ≤ r)) → r < length x.nodes → ¬ IsUnbegun x
        against r (inl some) there unbegun = some unbegun.closed
        against r (inr (inl ended)) there unbegun = ended unbegun.first
        against r (inr (inr none)) there unbegun = absurd (omega (arith, none, there))

        by : (q : Result AdmitBarrier E) → q ≡ Ok barrier.Never → IfOk q (λ b. AdmitsBarrierIn x t b y) → (r : ℕ)
            (turn : List OwnCall) (o : OwnCall) → HasWhole t (whole.Barrier r) turn o (view a n x) → r < length x.nodes → ¬ IsUnbegun s
        by (Ok barrier.Never) e k r turn o w there unbegun =
            let op = same_op a n x t (whole.Barrier r) turn o (here r turn o w) k.0 k.1 k.2.awaits.stands k.2.asks in
            against r (subst (world.MayNotBegin x) op k.3) there (found_unbegun unbegun)
        by (Ok (barrier.Go added)) e k r turn o w there unbegun = absurd cc
        by (Ok (barrier.After other)) e k r turn o w there unbegun = absurd cc
        by (Ok barrier.Refused) e k r turn o w there unbegun = absurd cc
        by (Failed f) e k r turn o w there unbegun = absurd cc

    -- ---- what its stream sees

    module _ (u : State) (left : u ≡ y) where
      pub barrier_same : OnErr res (view a n u ≡ view a n s)
      barrier_same = over a n s x y u found left (λ (m : Mine) (z : State). OnErr res (view a n z ≡ m)) (unchanged a n x y res err)

      -- as any operation on the whole volume
      as_any : (ans : AdmitWhole) → world.AdmitsWhole x t ans y → (r : ℕ) (turn : List OwnCall) (o : OwnCall)
          → HasWhole t (whole.Barrier r) turn o (view a n s) → maint.AdmitsWhole (whole.Barrier r) turn o ans (view a n s) (view a n u)
      as_any ans k r turn o w =
          admit_to a n t s x found (as_waits t (view a n s) h) {E = E} y (Ok ans) may k tt u left (whole.Barrier r) turn o w

      barrier_to : IfOk res (λ b. (r : ℕ) (turn : List OwnCall) (o : OwnCall) → HasWhole t (whole.Barrier r) turn o (view a n s)
          → AdmitsBarrier r turn o b (view a n s) (view a n u))
      barrier_to = by res ok
        where
          by : (q : Result AdmitBarrier E) → IfOk q (λ b. AdmitsBarrierIn x t b y)
              → IfOk q (λ b. (r : ℕ) (turn : List OwnCall) (o : OwnCall) → HasWhole t (whole.Barrier r) turn o (view a n s)
              → AdmitsBarrier r turn o b (view a n s) (view a n u))
          by (Ok (barrier.Go added)) k = over a n s x y u found left (λ (m : Mine) (z : State). (r : ℕ) (turn : List OwnCall)
              (o : OwnCall) → HasWhole t (whole.Barrier r) turn o m → BeginsBy added r turn o m (view a n z)) (begins_by added k)
          by (Ok (barrier.After other)) k = as_any (admit.After other) k
          by (Ok barrier.Never) k = as_any admit.Never k
          by (Ok barrier.Refused) k = λ r turn o w.
              let told = as_any (admit.Refused k.0 k.1) k.2 r turn o w in
              (k.0, told.0, told.1)
          by (Failed f) k = tt

      barrier_begun : IsSound y → IfOk res (λ b. (r : ℕ) (turn : List OwnCall) (o : OwnCall)
          → HasWhole t (whole.Barrier r) turn o (view a n s)
          → IfBegun b r (view a n s).replicas (λ source q. IsBegunIn n u false source q))
      barrier_begun sound = by res ok
        where
          by : (q : Result AdmitBarrier E) → IfOk q (λ b. AdmitsBarrierIn x t b y) → IfOk q (λ b. (r : ℕ) (turn : List OwnCall)
              (o : OwnCall) → HasWhole t (whole.Barrier r) turn o (view a n s)
              → IfBegun b r (view a n s).replicas (λ source q. IsBegunIn n u false source q))
          by (Ok (barrier.Go added)) k = over a n s x y u found left (λ (m : Mine) (z : State). (r : ℕ) (turn : List OwnCall)
              (o : OwnCall) → HasWhole t (whole.Barrier r) turn o m
              → IsFromOther added.source r m.replicas (λ source q. IsBegunIn n z false source q))
              (λ r turn o w. begun_from added k r turn o w sound)
          by (Ok (barrier.After other)) k = λ r turn o w. tt
          by (Ok barrier.Never) k = λ r turn o w. tt
          by (Ok barrier.Refused) k = λ r turn o w. tt
          by (Failed f) k = tt

      -- where nothing changes, no rebuild was begun, if none was
      still_unbegun : y ≡ x → IsUnbegun s → IsUnbegun u
      still_unbegun e unbegun = subst IsUnbegun (sym (left ∙ e)) (found_unbegun unbegun)

      barrier_still : IfOk res (λ b. IsStillUnbegun b (IsUnbegun s) (IsUnbegun u))
      barrier_still = by res ok
        where
          by : (q : Result AdmitBarrier E) → IfOk q (λ b. AdmitsBarrierIn x t b y)
              → IfOk q (λ b. IsStillUnbegun b (IsUnbegun s) (IsUnbegun u))
          by (Ok (barrier.Go added)) k = tt
          by (Ok (barrier.After other)) k = still_unbegun k.3
          by (Ok barrier.Never) k = tt
          by (Ok barrier.Refused) k = tt
          by (Failed f) k = tt

      barrier_kept : OnErr res (IsUnbegun s → IsUnbegun u)
      barrier_kept = by res err
        where
          by : (q : Result AdmitBarrier E) → OnErr q (y ≡ x) → OnErr q (IsUnbegun s → IsUnbegun u)
          by (Ok b) e = tt
          by (Failed f) e = still_unbegun e

      barrier_waits : IfOk res (λ b. WaitsBarrier t b (seen_of u))
      barrier_waits = by res ok
        where
          by : (q : Result AdmitBarrier E) → IfOk q (λ b. AdmitsBarrierIn x t b y) → IfOk q (λ b. WaitsBarrier t b (seen_of u))
          by (Ok (barrier.Go added)) k = tt
          by (Ok (barrier.After other)) k = subst (λ (z : State). WaitsBarrier t (barrier.After other) (seen_of z)) (sym (left ∙ k.3))
              (k.0, k.2.0, k.1.stands, k.2.1, k.2.2)
          by (Ok barrier.Never) k = tt
          by (Ok barrier.Refused) k = tt
          by (Failed f) k = tt

      barrier_free : IfOk res (λ b. IfSome (view a n s).log (λ log. IsNoWait b))
      barrier_free = by res ok
        where
          soon : (ans : AdmitWhole) → world.AdmitsWhole x t ans y → IfSome (view a n s).log (λ log. maint.IsNotLater ans)
          soon ans k = admit_soon a n t s x found (as_waits t (view a n s) h) {E = E} y (Ok ans) may k tt u left

          by : (q : Result AdmitBarrier E) → IfOk q (λ b. AdmitsBarrierIn x t b y)
              → IfOk q (λ b. IfSome (view a n s).log (λ log. IsNoWait b))
          by (Ok (barrier.Go added)) k = soon admit.Go k.0
          by (Ok (barrier.After other)) k = soon (admit.After other) k
          by (Ok barrier.Never) k = soon admit.Never k
          by (Ok barrier.Refused) k = soon (admit.Refused k.0 k.1) k.2
          by (Failed f) k = tt

      pub barrier_ok : IfOk res (λ b. StartsOrWaits (view a n s)
          (ForBarrier t (view a n s) (λ r turn o. AdmitsBarrier r turn o b (view a n s) (view a n u)))
          (IsNoWait b) (WaitsBarrier t b (seen_of u)))
      barrier_ok = starts_or_waits (view a n s) _ _ _ res barrier_to barrier_free barrier_waits

      pub barrier_rebuild : IsSound y
          → BeginsRebuild t res (view a n s) (λ source q. IsBegunIn n u false source q) (IsUnbegun s) (IsUnbegun u)
      barrier_rebuild sound =
          record { begun = barrier_begun sound; unbegun = barrier_still; never = barrier_never; kept = barrier_kept }
