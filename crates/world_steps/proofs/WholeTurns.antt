-- Each step on the whole volume in one turn: the World that was seen as s is found as x, left as y, and seen so.
use Rattle.std.proofs.Common.{◌≡◌, ◌≢◌, ℕ, Bool, true, false, List, [], Option, Some, None, Result, Ok, OnOk, OnErr, IfOk, IfErr, IfSome}
use Rattle.std.proofs.Common.{subst, sym, ap}
use Rattle.std.proofs.Common.{Err as Failed}
use Rattle.volume_model.specs.declared.call.Call.TheVariants as call
use Rattle.step_answers.specs.declared.whole_op.WholeOp.{WholeOp}
use Rattle.step_answers.specs.declared.whole_op.WholeOp.TheVariants as whole
use Rattle.step_answers.specs.Asked.{command_of}
use Rattle.open_calls.specs.Clients.{IsIdle}
use Rattle.step_answers.specs.declared.answers.NotThis.{NotThis}
use Rattle.volume_core.specs.State.{State, modes_in}
use Rattle.volume_core.specs.Steps.{without_call}
use Rattle.volume_core.specs.Streams.{MayGo, turning}
use Rattle.step_answers.specs.declared.answers.AdmitWhole.{AdmitWhole}
use Rattle.step_answers.specs.declared.answers.AdmitWhole.TheVariants as admit
use Rattle.volume_maint.specs.Answers as world
use Rattle.volume_maint.specs.Answers.{MayAsk}
use Rattle.volume_maint.specs.Places as place
use Rattle.volume_maint.specs.Places.{ForCaller}
use Rattle.stream_steps.specs.Mine.{Mine, OwnCall, with_running}
use Rattle.stream_steps.specs.Does.{Does, StartsOrWaits}
use Rattle.stream_steps.specs.Steps.{EnrolsAt}
use Rattle.stream_steps.specs.Maint.{HasTurn, ForTurn, HasWhole, ForWhole, EnrolsWhole, EnrolsSnapshot, EnrolsUnder, EnrolsOr}
use Rattle.stream_steps.specs.Maint.{AdmitsWhole, IsNotLater, PartsTo, AcksWhole, AgainstPart, AgainstAckWhole}
use Rattle.stream_steps.specs.Maint.{AgainstEndWhole, IsNoBarrier, WholeEnds}
use Rattle.stream_steps.specs.Seen.{CannotGo, WaitsWhole}
use Rattle.world_holder.specs.View.{view, IsFound, Owes}
use Rattle.world_holder.proofs.Grow.{found_same, over, unchanged}
use Rattle.world_steps.proofs.Begun.{IsSameTurn, same_turn, begun_found, begun_over, begun_past, begun_same, unbegun_found}
use Rattle.world_steps.proofs.Does.{starts_or_waits}
use Rattle.world_steps.proofs.Own.{idle_from}
use Rattle.world_steps.proofs.Shapes.{HasCall, has_call}
use Rattle.world_steps.proofs.Wholes.{HasSome, Waits, HasBegun, same_op, whole_owner, whole_waits}
use Rattle.world_steps.proofs.WholeEnrols.{IsSnapshot, snap_asks, snaps, snaps_at, snap_parts}
use Rattle.world_steps.proofs.WholeEnrols.{turn_asks, turn_idle, parts_enrolled, under_mine, under_none}
use Rattle.world_steps.proofs.WholeStarts.{admit_mine, admit_free, admit_parts, withdraws, withdraws_parts}
use Rattle.world_steps.proofs.WholeParts.{takes, takes_parts, takes_why, acks, acks_parts, acks_why}
use Rattle.world_steps.proofs.WholeEnds.{completes, completes_parts, ends_why}
use Rattle.world_steps.proofs.Counted.{counted_snapshot, counted_turn_of, counted_admit, counted_withdrawn}
use Rattle.world_steps.proofs.Counted.{counted_part, counted_ack, counted_end}
use Rattle.world_steps.specs.Rebuild.{IsBegunIn, IsUnbegun}
use Rattle.world_steps.specs.Seen.{seen_of, MayGoIn}

-- what was known is so of what is found
found_in : (a : Bool) (n : ℕ) (s x : State) → IsFound a n s x → (P : Mine → Type 0) → P (view a n s) → P (view a n x)
found_in a n s x found P h = subst P (sym (found_same a n s x found)) h

-- of an operation that waits, or has started, it is known that it is open
waits_some : (t : ℕ) (m : Mine) → Waits t m → HasSome t m
waits_some t m w = (w.0, w.1, w.2, w.3)

begun_some : (t : ℕ) (m : Mine) → HasBegun t m → HasSome t m
begun_some t m w = (w.0, w.1, w.2, w.3)

-- ---- a snapshot is enrolled

module _ (a : Bool) (n : ℕ) (op : WholeOp) (s x : State) (found : IsFound a n s x) (idle : (view a n s).running ≡ [])
    (snap : IsSnapshot op) where
  found_idle : (view a n x).running ≡ []
  found_idle = found_in a n s x found (λ (m : Mine). m.running ≡ []) idle

  pub snap_idle : IsIdle n x.calls
  snap_idle = idle_from n x found.sound found_idle

  pub snap_may : MayAsk x n op
  snap_may = snap_asks a n x op found.sound found_idle snap

  module _ {E : Type 0} (y : State) (res : Result ℕ E) (may : MayGo n x y) (ok : IfOk res (λ k. world.EnrolsWhole x n op (Some k) y))
      (err : OnErr res (y ≡ x)) where
    pub snap_owes : Owes n x y
    snap_owes = record { may = may; parts = snap_parts a n op x y res may ok err; counted = counted_snapshot a n op x y res ok err }

    module _ (u : State) (left : u ≡ y) where
      pub snap_same : OnErr res (view a n u ≡ view a n s)
      snap_same = over a n s x y u found left (λ (m : Mine) (z : State). OnErr res (view a n z ≡ m)) (unchanged a n x y res err)

      snap_to : IfOk res (λ k. EnrolsWhole k op [] (view a n s) (view a n u))
      snap_to = over a n s x y u found left (λ (m : Mine) (z : State). IfOk res (λ k. EnrolsWhole k op [] m (view a n z)))
          (snaps a n x y found.sound may op found_idle snap res ok)

      snap_saw : IfOk res (λ k. EnrolsAt k (call.Command (command_of op)) (view a n s) (view a n u))
      snap_saw = over a n s x y u found left
          (λ (m : Mine) (z : State). IfOk res (λ k. EnrolsAt k (call.Command (command_of op)) m (view a n z)))
          (snaps_at a n x y found.sound may op found_idle snap res ok)

      pub snap_ok : IfOk res (λ k. EnrolsSnapshot k op (view a n s) (view a n u))
      snap_ok = by res snap_to snap_saw
        where
          by : (q : Result ℕ E) → IfOk q (λ k. EnrolsWhole k op [] (view a n s) (view a n u))
              → IfOk q (λ k. EnrolsAt k (call.Command (command_of op)) (view a n s) (view a n u))
              → IfOk q (λ k. EnrolsSnapshot k op (view a n s) (view a n u))
          by (Ok k) whole saw = record { whole = whole; saw = saw }
          by (Failed e) whole saw = tt

-- ---- what the command does that has the turn is enrolled

module _ (a : Bool) (n t : ℕ) (op : WholeOp) (s x : State) (found : IsFound a n s x)
    (turn : (o : OwnCall) × HasTurn t (command_of op) o (view a n s)) where
  found_turn : (o : OwnCall) × HasTurn t (command_of op) o (view a n x)
  found_turn = found_in a n s x found (λ (m : Mine). (o : OwnCall) × HasTurn t (command_of op) o m) turn

  pub under_idle : IsIdle n x.calls
  under_idle = turn_idle a n t x found.sound op found_turn

  pub under_may : MayAsk x n op
  under_may = turn_asks a n t x found.sound op found_turn

  module _ {E : Type 0} (y : State) (res : Result (Option ℕ) E) (may : MayGo n x y) (ok : IfOk res (λ w. world.EnrolsWhole x n op w y))
      (err : OnErr res (y ≡ x)) where
    pub under_owes : Owes n x y
    under_owes = record {
      may = may;
      parts = parts_enrolled a n op x y res may ok err;
      counted = counted_turn_of a n t x y found.sound (command_of op) found_turn;
    }

    module _ (u : State) (left : u ≡ y) where
      pub under_same : OnErr res (view a n u ≡ view a n s)
      under_same = over a n s x y u found left (λ (m : Mine) (z : State). OnErr res (view a n z ≡ m)) (unchanged a n x y res err)

      under_to : IfOk res (λ w. IfSome w (λ k. (o : OwnCall) → HasTurn t (command_of op) o (view a n s)
          → EnrolsUnder k op o (view a n s) (view a n u)))
      under_to = over a n s x y u found left (λ (m : Mine) (z : State). IfOk res (λ w. IfSome w (λ k. (o : OwnCall)
          → HasTurn t (command_of op) o m → EnrolsUnder k op o m (view a n z))))
          (under_mine a n t x found.sound op y may res ok)

      under_not : res ≡ Ok None → view a n u ≡ view a n s
      under_not = over a n s x y u found left (λ (m : Mine) (z : State). res ≡ Ok None → view a n z ≡ m)
          (under_none a n t x found.sound op y may res ok)

      -- where the command that has the turn began no rebuild, it has begun none
      pub under_unbegun : IsUnbegun s → IsUnbegun u
      under_unbegun none = subst IsUnbegun (sym left) (by res ok err)
        where
          here : IsUnbegun x
          here = unbegun_found a n t s x found (command_of op) found_turn none

          by_one : (w : Option ℕ) → world.EnrolsWhole x n op w y → IsUnbegun y
          by_one (Some k) e = subst IsUnbegun (sym e.1) (record { closed = here.closed; first = here.first })
          by_one None e = subst IsUnbegun (sym e.1) here

          by : (q : Result (Option ℕ) E) → IfOk q (λ w. world.EnrolsWhole x n op w y) → OnErr q (y ≡ x) → IsUnbegun y
          by (Ok w) e err = by_one w e
          by (Failed f) e err = subst IsUnbegun (sym err) here

      -- why a part of a purge is not enrolled
      under_cannot : res ≡ Ok None → CannotGo op (MayGoIn u) (modes_in u)
      under_cannot none = subst (λ (z : State). CannotGo op (MayGoIn z) (modes_in z)) (sym left)
          (by op (subst (λ q. IfOk q (λ w. world.EnrolsWhole x n op w y)) none ok))
        where
          by : (p : WholeOp) → world.EnrolsWhole x n p None y → CannotGo p (MayGoIn y) (modes_in y)
          by (whole.Purge f) e = subst (λ (z : State). CannotGo (whole.Purge f) (MayGoIn z) (modes_in z)) (sym e.1) e.0
          by (whole.Snapshot name) e = e.0
          by (whole.Remove name) e = e.0
          by (whole.Revert name) e = e.0
          by (whole.Barrier r) e = e.0

      pub under_ok : IfOk res (λ w. EnrolsOr t op w (CannotGo op (MayGoIn u) (modes_in u)) (view a n s) (view a n u))
      under_ok = by res under_to under_cannot under_not
        where
          by : (q : Result (Option ℕ) E)
              → IfOk q (λ w. IfSome w (λ k. ForTurn t (command_of op) (view a n s) (λ o. EnrolsUnder k op o (view a n s) (view a n u))))
              → (q ≡ Ok None → CannotGo op (MayGoIn u) (modes_in u)) → (q ≡ Ok None → view a n u ≡ view a n s)
              → IfOk q (λ w. EnrolsOr t op w (CannotGo op (MayGoIn u) (modes_in u)) (view a n s) (view a n u))
          by (Ok w) some cannot none = record { some = some; cannot = λ e. cannot (ap Ok e); none = λ e. none (ap Ok e) }
          by (Failed e) some cannot none = tt

-- ---- it is asked to start

module _ (a : Bool) (n t : ℕ) (s x : State) (found : IsFound a n s x) (w : Waits t (view a n s)) where
  found_waits : Waits t (view a n x)
  found_waits = found_in a n s x found (Waits t) w

  found_open : HasSome t (view a n x)
  found_open = waits_some t (view a n x) found_waits

  pub waits_there : (i : ℕ) × place.AwaitsWhole x t i
  waits_there = whole_waits a n t x found.sound found_waits

  waits_go : (y : State) → ForCaller x t (λ m. MayGo m x y) → MayGo n x y
  waits_go y may = whole_owner a n t x found.sound found_open (λ m. MayGo m x y) may

  module _ {E : Type 0} (y : State) (res : Result AdmitWhole E) (may : ForCaller x t (λ m. MayGo m x y))
      (ok : IfOk res (λ ans. world.AdmitsWhole x t ans y)) (err : OnErr res (y ≡ x)) where
    pub admit_owes : Owes n x y
    admit_owes = record {
      may = waits_go y may;
      parts = admit_parts a n t x found.sound y (waits_go y may) res ok err found_open;
      counted = counted_admit a n t x y found.sound res ok err found_open;
    }

    module _ (u : State) (left : u ≡ y) where
      pub admit_same : OnErr res (view a n u ≡ view a n s)
      admit_same = over a n s x y u found left (λ (m : Mine) (z : State). OnErr res (view a n z ≡ m)) (unchanged a n x y res err)

      pub admit_to : IfOk res (λ ans. (op : WholeOp) (turn : List OwnCall) (o : OwnCall) → HasWhole t op turn o (view a n s)
          → AdmitsWhole op turn o ans (view a n s) (view a n u))
      admit_to = over a n s x y u found left (λ (m : Mine) (z : State). IfOk res (λ ans. (op : WholeOp) (turn : List OwnCall)
          (o : OwnCall) → HasWhole t op turn o m → AdmitsWhole op turn o ans m (view a n z)))
          (admit_mine a n t x found.sound y (waits_go y may) res ok)

      pub admit_soon : IfOk res (λ ans. IfSome (view a n s).log (λ log. IsNotLater ans))
      admit_soon = over a n s x y u found left (λ (m : Mine) (z : State). IfOk res (λ ans. IfSome m.log (λ log. IsNotLater ans)))
          (admit_free a n t x found.sound y (waits_go y may) res ok found_open (λ alone. (found.same alone).1))

      -- one that waits, waits for the first in its way
      admit_waits : IfOk res (λ ans. WaitsWhole t ans (seen_of u))
      admit_waits = subst (λ (z : State). IfOk res (λ ans. WaitsWhole t ans (seen_of z))) (sym left) (by res ok)
        where
          by_one : (ans : AdmitWhole) → world.AdmitsWhole x t ans y → WaitsWhole t ans (seen_of y)
          by_one (admit.After number) d = subst (λ (z : State). WaitsWhole t (admit.After number) (seen_of z)) (sym d.3)
              (d.0, d.2.0, d.1.stands, d.2.1, d.2.2)
          by_one admit.Go d = tt
          by_one admit.Never d = tt
          by_one (admit.Refused why at) d = tt

          by : (q : Result AdmitWhole E) → IfOk q (λ ans. world.AdmitsWhole x t ans y) → IfOk q (λ ans. WaitsWhole t ans (seen_of y))
          by (Ok ans) d = by_one ans d
          by (Failed e) d = tt

      pub admit_starts : IfOk res (λ ans. StartsOrWaits (view a n s)
          (ForWhole t (view a n s) (λ op turn o. AdmitsWhole op turn o ans (view a n s) (view a n u)))
          (IsNotLater ans) (WaitsWhole t ans (seen_of u)))
      admit_starts = starts_or_waits (view a n s) _ _ _ res admit_to admit_soon admit_waits

    -- none but a barrier may not begin
    pub admit_begins : (op : WholeOp) (turn : List OwnCall) (o : OwnCall) → HasWhole t op turn o (view a n s) → IsNoBarrier op
        → res ≢ Ok admit.Never
    admit_begins op turn o h other never = by op other (subst (world.MayNotBegin x) same d.3)
      where
        d : world.AdmitsWhole x t admit.Never y
        d = subst (λ q. IfOk q (λ ans. world.AdmitsWhole x t ans y)) never ok

        here : HasCall a n x t op turn o
        here = has_call a n x t op turn o found.sound (found_in a n s x found (HasWhole t op turn o) h)

        same : d.1 ≡ op
        same = same_op a n x t op turn o here d.0 d.1 d.2.awaits.stands d.2.asks

        by : (p : WholeOp) → IsNoBarrier p → world.MayNotBegin x p → ⊥
        by (whole.Snapshot name) other not = not
        by (whole.Remove name) other not = not
        by (whole.Revert name) other not = not
        by (whole.Purge f) other not = not
        by (whole.Barrier r) other not = other

  -- ---- it is taken back

  module _ (y : State) (may : ForCaller x t (λ m. MayGo m x y)) (gone : (i : ℕ) × place.AwaitsWhole x t i × (y ≡ without_call x i)) where
    pub withdraw_owes : Owes n x y
    withdraw_owes = record {
      may = waits_go y may;
      parts = withdraws_parts a n t x found.sound y (waits_go y may) gone;
      counted = counted_withdrawn a n t x y gone;
    }

    module _ (u : State) (left : u ≡ y) where
      pub withdraw_to : (op : WholeOp) (turn : List OwnCall) (o : OwnCall) → HasWhole t op turn o (view a n s)
          → view a n u ≡ with_running (view a n s) turn
      withdraw_to = over a n s x y u found left (λ (m : Mine) (z : State). (op : WholeOp) (turn : List OwnCall) (o : OwnCall)
          → HasWhole t op turn o m → view a n z ≡ with_running m turn)
          (withdraws a n t x found.sound y (waits_go y may) gone)

-- ---- it has started

module _ (a : Bool) (n t : ℕ) (s x : State) (found : IsFound a n s x) (w : HasBegun t (view a n s)) where
  found_begun : HasBegun t (view a n x)
  found_begun = found_in a n s x found (HasBegun t) w

  found_some : HasSome t (view a n x)
  found_some = begun_some t (view a n x) found_begun

  begun_go : (y : State) → ForCaller x t (λ m. MayGo m x y) → MayGo n x y
  begun_go y may = whole_owner a n t x found.sound found_some (λ m. MayGo m x y) may

  -- a replica takes its part
  module _ (r : ℕ) (y : State) (res : Result (Unit {0}) NotThis) (may : ForCaller x t (λ m. MayGo m x y))
      (ok : OnOk res (world.TakesPart x t r y)) (err : OnErr res (y ≡ x)) where
    pub part_owes : Owes n x y
    part_owes = record {
      may = begun_go y may;
      parts = takes_parts a n t x found.sound y (begun_go y may) r res ok err found_some;
      counted = counted_part a n t x y found.sound r res ok err found_some;
    }

    module _ (u : State) (left : u ≡ y) where
      part_same : OnErr res (view a n u ≡ view a n s)
      part_same = over a n s x y u found left (λ (m : Mine) (z : State). OnErr res (view a n z ≡ m)) (unchanged a n x y res err)

      part_to : OnOk res ((op : WholeOp) (turn : List OwnCall) (o : OwnCall) → HasWhole t op turn o (view a n s)
          → PartsTo turn o r (view a n s) (view a n u))
      part_to = over a n s x y u found left (λ (m : Mine) (z : State). OnOk res ((op : WholeOp) (turn : List OwnCall)
          (o : OwnCall) → HasWhole t op turn o m → PartsTo turn o r m (view a n z)))
          (takes a n t x found.sound y (begun_go y may) r res ok)

      part_why : IfErr res (world.AgainstPart x t r) → IfErr res (λ why. (op : WholeOp) (turn : List OwnCall) (o : OwnCall)
          → HasWhole t op turn o (view a n s) → AgainstPart (modes_in u) o r why)
      part_why why = over a n s x y u found left (λ (m : Mine) (z : State). IfErr res (λ why. (op : WholeOp)
          (turn : List OwnCall) (o : OwnCall) → HasWhole t op turn o m → AgainstPart (modes_in z) o r why))
          (takes_why a n t x found.sound y (begun_go y may) r res why err found_begun)

      pub part_does : IfErr res (world.AgainstPart x t r) → Does res (view a n s) (view a n u)
          (λ v. ForWhole t (view a n s) (λ op turn o. PartsTo turn o r (view a n s) (view a n u)))
          (λ why. ForWhole t (view a n s) (λ op turn o. AgainstPart (modes_in u) o r why))
      part_does why = record { ok = part_to; why = part_why why; err = part_same }

      pub part_begun : (past : Bool) (source q : ℕ) → IsBegunIn n s past source q → IsBegunIn n u past source q
      part_begun past source q = begun_over a n s x y u found left past source q (begun_same n x y past source q (by res ok err))
        where
          by : (z : Result (Unit {0}) NotThis) → OnOk z (world.TakesPart x t r y) → OnErr z (y ≡ x) → IsSameTurn n x y
          by (Ok v) d same = record {
            turns = ap (λ (z : State). turning z n) d.state;
            rebuild = ap (λ (z : State). z.rebuild) d.state;
            ended = ap (λ (z : State). z.ended) d.state;
          }
          by (Failed e) d same = same_turn n x y same

  -- and acknowledges it
  module _ (r : ℕ) (y : State) (res : Result (Unit {0}) NotThis) (may : ForCaller x t (λ m. MayGo m x y))
      (ok : OnOk res (world.AcksPart x t r y)) (err : OnErr res (y ≡ x)) where
    pub acks_owes : Owes n x y
    acks_owes = record {
      may = begun_go y may;
      parts = acks_parts a n t x found.sound y (begun_go y may) r res ok err found_some;
      counted = counted_ack a n t x y found.sound r res ok err;
    }

    module _ (u : State) (left : u ≡ y) where
      acks_same : OnErr res (view a n u ≡ view a n s)
      acks_same = over a n s x y u found left (λ (m : Mine) (z : State). OnErr res (view a n z ≡ m)) (unchanged a n x y res err)

      acks_to : OnOk res ((op : WholeOp) (turn : List OwnCall) (o : OwnCall) → HasWhole t op turn o (view a n s)
          → AcksWhole turn o r (view a n s) (view a n u))
      acks_to = over a n s x y u found left (λ (m : Mine) (z : State). OnOk res ((op : WholeOp) (turn : List OwnCall)
          (o : OwnCall) → HasWhole t op turn o m → AcksWhole turn o r m (view a n z)))
          (acks a n t x found.sound y (begun_go y may) r res ok)

      acks_against : IfErr res (world.AgainstAckPart x t r) → IfErr res (λ why. (op : WholeOp) (turn : List OwnCall)
          (o : OwnCall) → HasWhole t op turn o (view a n s) → AgainstAckWhole o r why)
      acks_against why = over a n s x y u found left (λ (m : Mine) (z : State). IfErr res (λ why. (op : WholeOp)
          (turn : List OwnCall) (o : OwnCall) → HasWhole t op turn o m → AgainstAckWhole o r why))
          (acks_why a n t x found.sound y (begun_go y may) r res why found_begun)

      pub acks_does : IfErr res (world.AgainstAckPart x t r) → Does res (view a n s) (view a n u)
          (λ v. ForWhole t (view a n s) (λ op turn o. AcksWhole turn o r (view a n s) (view a n u)))
          (λ why. ForWhole t (view a n s) (λ op turn o. AgainstAckWhole o r why))
      acks_does why = record { ok = acks_to; why = acks_against why; err = acks_same }

      pub acks_begun : (past : Bool) (source q : ℕ) → IsBegunIn n s past source q → IsBegunIn n u past source q
      acks_begun past source q = begun_over a n s x y u found left past source q (begun_same n x y past source q (by res ok err))
        where
          by : (z : Result (Unit {0}) NotThis) → OnOk z (world.AcksPart x t r y) → OnErr z (y ≡ x) → IsSameTurn n x y
          by (Ok v) d same = record {
            turns = ap (λ (z : State). turning z n) d.state;
            rebuild = ap (λ (z : State). z.rebuild) d.state;
            ended = ap (λ (z : State). z.ended) d.state;
          }
          by (Failed e) d same = same_turn n x y same

  -- and it ends
  module _ (y : State) (res : Result ℕ NotThis) (may : ForCaller x t (λ m. MayGo m x y))
      (ok : OnOk res (world.EndsWhole x t y)) (err : OnErr res (y ≡ x)) where
    pub ends_owes : Owes n x y
    ends_owes = record {
      may = begun_go y may;
      parts = completes_parts a n t x found.sound y (begun_go y may) res ok err found_some;
      counted = counted_end a n t x y found.sound res ok err found_some;
    }

    module _ (u : State) (left : u ≡ y) where
      ends_same : OnErr res (view a n u ≡ view a n s)
      ends_same = over a n s x y u found left (λ (m : Mine) (z : State). OnErr res (view a n z ≡ m)) (unchanged a n x y res err)

      ends_to : OnOk res ((op : WholeOp) (turn : List OwnCall) (o : OwnCall) → HasWhole t op turn o (view a n s)
          → WholeEnds op turn o (view a n s) (view a n u))
      ends_to = over a n s x y u found left (λ (m : Mine) (z : State). OnOk res ((op : WholeOp) (turn : List OwnCall)
          (o : OwnCall) → HasWhole t op turn o m → WholeEnds op turn o m (view a n z)))
          (completes a n t x found.sound y (begun_go y may) res ok)

      ends_against : IfErr res (world.AgainstEndWhole x t) → IfErr res (λ why. (op : WholeOp) (turn : List OwnCall) (o : OwnCall)
          → HasWhole t op turn o (view a n s) → AgainstEndWhole (modes_in u) o why)
      ends_against why = over a n s x y u found left (λ (m : Mine) (z : State). IfErr res (λ why. (op : WholeOp)
          (turn : List OwnCall) (o : OwnCall) → HasWhole t op turn o m → AgainstEndWhole (modes_in z) o why))
          (ends_why a n t x found.sound y res why err found_begun)

      pub ends_does : IfErr res (world.AgainstEndWhole x t) → Does res (view a n s) (view a n u)
          (λ at. ForWhole t (view a n s) (λ op turn o. WholeEnds op turn o (view a n s) (view a n u)))
          (λ why. ForWhole t (view a n s) (λ op turn o. AgainstEndWhole (modes_in u) o why))
      ends_does why = record { ok = ends_to; why = ends_against why; err = ends_same }

      -- its rebuild stays, and once a barrier has ended it is past that
      pub ends_past : OnOk res ((r source : ℕ) (turn : List OwnCall) (o : OwnCall) → HasWhole t (whole.Barrier r) turn o (view a n s)
          → IsBegunIn n s false source r → IsBegunIn n u true source r)
      ends_past = by res ok
        where
          by : (q : Result ℕ NotThis) → OnOk q (world.EndsWhole x t y) → OnOk q ((r source : ℕ) (turn : List OwnCall) (o : OwnCall)
              → HasWhole t (whole.Barrier r) turn o (view a n s) → IsBegunIn n s false source r → IsBegunIn n u true source r)
          by (Ok at) d = λ r source turn o h begun. subst (λ (z : State). IsBegunIn n z true source r) (sym left)
              (begun_past n x y source r a t found.sound found_some d false true (begun_found n s x false source r found.later begun))
          by (Failed e) d = tt

      pub ends_begun : (past : Bool) (source r : ℕ) → IsBegunIn n s past source r → IsBegunIn n u past source r
      ends_begun past source r = begun_over a n s x y u found left past source r (by res ok err)
        where
          by : (q : Result ℕ NotThis) → OnOk q (world.EndsWhole x t y) → OnErr q (y ≡ x) → IsBegunIn n x past source r
              → IsBegunIn n y past source r
          by (Ok at) d same = begun_past n x y source r a t found.sound found_some d past past
          by (Failed e) d same = begun_same n x y past source r (same_turn n x y same)
