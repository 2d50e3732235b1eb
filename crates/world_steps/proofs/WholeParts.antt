-- A replica takes its part of an operation on the whole volume, and acknowledges it, as its stream's worker sees it.
use Rattle.std.proofs.Common.{◌≡◌, ◌≢◌, ℕ, Bool, true, List, [], ◌∷◌, ◌++◌, set, Some}
use Rattle.std.proofs.Common.{Result, Ok, OnOk, OnErr, IfErr, subst, sym, ap, ◌∙◌}
use Rattle.std.proofs.Common.{Err as Failed}
use Rattle.step_answers.specs.declared.parts.Part.{Part}
use Rattle.step_answers.specs.declared.parts.Part.TheVariants.{Taken, Acked}
use Rattle.step_answers.specs.declared.whole_op.WholeOp.{WholeOp}
use Rattle.step_answers.specs.Parts.{part_at, IsTaken}
use Rattle.open_calls.specs.declared.whole.Whole.{Whole}
use Rattle.open_calls.specs.Whole.{parted, part_acked}
use Rattle.step_answers.specs.declared.answers.NotThis.{NotThis}
use Rattle.step_answers.specs.declared.answers.NotThis.TheVariants as against
use Rattle.volume_core.specs.State.{State, modes_in}
use Rattle.volume_core.specs.Sound.{IsSound}
use Rattle.volume_core.specs.Streams.{running, turning, MayGo}
use Rattle.volume_maint.specs.Answers as world
use Rattle.world_holder.specs.Laid.{parts_of}
use Rattle.world_holder.proofs.Leaves.{parts_stay}
use Rattle.stream_steps.specs.Mine.{OwnCall, with_running}
use Rattle.stream_steps.specs.Maint.{HasWhole, PartsTo, AcksWhole, AgainstPart, AgainstAckWhole}
use Rattle.world_holder.specs.View.{view}
use Rattle.world_holder.proofs.Grow.{only_open}
use Rattle.world_steps.proofs.Shapes.{HasCall, has_call}
use Rattle.world_steps.proofs.Turns.{runs_as}
use Rattle.world_steps.proofs.Wholes.{one_of, started_as, own_as, parts_are, whole_on, kept_whole, parts_else, HasSome, HasBegun, begun_all}

module _ (a : Bool) where
  module _ (n : ℕ) (s : State) (t : ℕ) (op : WholeOp) (turn : List OwnCall) (o : OwnCall) (x : HasCall a n s t op turn o)
      (s2 : State) (may : MayGo n s s2) where
    part_mine : (w v : Whole) (ps : List Part) → w.number ≡ t → v.number ≡ t → v.parts ≡ ps → s2.whole ≡ Some v
        → turning s2 n ≡ turning s n → running s2 n ≡ running s n → s2.book.entries ≡ s.book.entries
        → view a n s2 ≡ with_running (view a n s) (turn ++ record o { parts = ps } ∷ [])
    part_mine w v ps number still of kept turns calls e =
        only_open n s s2 may a (turn ++ record o { parts = ps } ∷ []) e
        (runs_as n s2 x.ms (x.q ∷ []) (Some v) (turns ∙ x.turns) (calls ∙ x.calls) kept
        ∙ (λ k. x.before k ++ (own_as a n s t op turn o x v x.q.0.started still
        ∙ (λ j. record o { started = started_as a n s t op turn o x j; parts = of j })) k ∷ []))

  -- ---- by what each step answers

  module _ (n t : ℕ) (s : State) (ok : IsSound s) (s2 : State) (may : MayGo n s s2) where
    module _ (q : ℕ) (op : WholeOp) (turn : List OwnCall) (o : OwnCall) (h : HasWhole t op turn o (view a n s)) where
      here : HasCall a n s t op turn o
      here = has_call a n s t op turn o ok h

      takes_one : world.TakesPart s t q s2 → PartsTo turn o q (view a n s) (view a n s2)
      takes_one y = part_mine n s t op turn o here s2 may y.w (parted y.w q) (set o.parts q Taken) y.at.number y.at.number
          (ap (λ ps. set ps q Taken) (sym (parts_are a n s t op turn o here y.w y.at.is y.at.number)))
          (ap (λ (z : State). z.whole) y.state) (ap (λ (z : State). turning z n) y.state)
          (ap (λ (z : State). running z n) y.state) (ap (λ (z : State). z.book.entries) y.state)

      acks_one : world.AcksPart s t q s2 → AcksWhole turn o q (view a n s) (view a n s2)
      acks_one y = part_mine n s t op turn o here s2 may y.w (part_acked y.w q) (set o.parts q Acked) y.at.number
          y.at.number (ap (λ ps. set ps q Acked) (sym (parts_are a n s t op turn o here y.w y.at.is y.at.number)))
          (ap (λ (z : State). z.whole) y.state) (ap (λ (z : State). turning z n) y.state)
          (ap (λ (z : State). running z n) y.state) (ap (λ (z : State). z.book.entries) y.state)

      takes_else : world.TakesPart s t q s2 → (m : ℕ) → m ≢ n → parts_of s2 m ≡ parts_of s m
      takes_else y = parts_else a n s t op turn o here s2 may (one_of a t s.whole y.w y.at.is y.at.number)
          (one_of a t s2.whole (parted y.w q) (ap (λ (z : State). z.whole) y.state) y.at.number)

      acks_else : world.AcksPart s t q s2 → (m : ℕ) → m ≢ n → parts_of s2 m ≡ parts_of s m
      acks_else y = parts_else a n s t op turn o here s2 may (one_of a t s.whole y.w y.at.is y.at.number)
          (one_of a t s2.whole (part_acked y.w q) (ap (λ (z : State). z.whole) y.state) y.at.number)

      against_one : o.started ≡ true → (why : NotThis) → world.AgainstPart s t q why → AgainstPart (modes_in s) o q why
      against_one begun against.Ticket z =
          let w = kept_whole a n s t op turn o here ok begun in
          let on = whole_on a n s t op turn o here ok begun w.0 w.1 in
          λ owed. z w.0 here.at.place on (ap (λ ps. part_at ps q) (sym (parts_are a n s t op turn o here w.0 w.1 on.number)) ∙ owed)
      against_one begun (against.Mode m) z = z
      against_one begun against.Page z = absurd z
      against_one begun (against.Pending p) z = absurd z
      against_one begun (against.Count c) z = absurd z

      unacked_one : o.started ≡ true → (why : NotThis) → world.AgainstAckPart s t q why → AgainstAckWhole o q why
      unacked_one begun against.Ticket z = let w = kept_whole a n s t op turn o here ok begun in
          z w.0 here.at.place (whole_on a n s t op turn o here ok begun w.0 w.1)
      unacked_one begun (against.Mode m) z = absurd z
      unacked_one begun against.Page z = absurd z
      unacked_one begun (against.Pending p) z =
          let w = kept_whole a n s t op turn o here ok begun in
          let on = whole_on a n s t op turn o here ok begun w.0 w.1 in (
            z.0,
            λ taken. z.1 w.0 here.at.place on
                (subst (λ ps. IsTaken (part_at ps q)) (parts_are a n s t op turn o here w.0 w.1 on.number) taken),
          )
      unacked_one begun (against.Count c) z = absurd z

    pub takes : {E : Type 0} (q : ℕ) (res : Result (Unit {0}) E) → OnOk res (world.TakesPart s t q s2)
        → OnOk res ((op : WholeOp) (turn : List OwnCall) (o : OwnCall) → HasWhole t op turn o (view a n s)
        → PartsTo turn o q (view a n s) (view a n s2))
    takes q (Ok u) y = λ op turn o h. takes_one q op turn o h y
    takes q (Failed e) y = tt

    pub takes_parts : {E : Type 0} (q : ℕ) (res : Result (Unit {0}) E) → OnOk res (world.TakesPart s t q s2)
        → OnErr res (s2 ≡ s) → HasSome t (view a n s) → (m : ℕ) → m ≢ n → parts_of s2 m ≡ parts_of s m
    takes_parts q (Ok u) y err w = takes_else q w.0 w.1 w.2 w.3 y
    takes_parts q (Failed e) y err w = parts_stay n s s2 may (ap (λ (z : State). z.whole) err)

    pub acks : {E : Type 0} (q : ℕ) (res : Result (Unit {0}) E) → OnOk res (world.AcksPart s t q s2)
        → OnOk res ((op : WholeOp) (turn : List OwnCall) (o : OwnCall) → HasWhole t op turn o (view a n s)
        → AcksWhole turn o q (view a n s) (view a n s2))
    acks q (Ok u) y = λ op turn o h. acks_one q op turn o h y
    acks q (Failed e) y = tt

    pub acks_parts : {E : Type 0} (q : ℕ) (res : Result (Unit {0}) E) → OnOk res (world.AcksPart s t q s2)
        → OnErr res (s2 ≡ s) → HasSome t (view a n s) → (m : ℕ) → m ≢ n → parts_of s2 m ≡ parts_of s m
    acks_parts q (Ok u) y err w = acks_else q w.0 w.1 w.2 w.3 y
    acks_parts q (Failed e) y err w = parts_stay n s s2 may (ap (λ (z : State). z.whole) err)

    pub takes_why : (q : ℕ) (res : Result (Unit {0}) NotThis) → IfErr res (world.AgainstPart s t q) → OnErr res (s2 ≡ s)
        → HasBegun t (view a n s)
        → IfErr res (λ why. (op : WholeOp) (turn : List OwnCall) (o : OwnCall) → HasWhole t op turn o (view a n s)
        → AgainstPart (modes_in s2) o q why)
    takes_why q (Ok u) z err w = tt
    takes_why q (Failed why) z err w = λ op turn o h. subst (λ (y : State). AgainstPart (modes_in y) o q why) (sym err)
        (against_one q op turn o h (begun_all a n t s ok w op turn o h) why z)

    pub acks_why : (q : ℕ) (res : Result (Unit {0}) NotThis) → IfErr res (world.AgainstAckPart s t q)
        → HasBegun t (view a n s)
        → IfErr res (λ why. (op : WholeOp) (turn : List OwnCall) (o : OwnCall) → HasWhole t op turn o (view a n s)
        → AgainstAckWhole o q why)
    acks_why q (Ok u) z w = tt
    acks_why q (Failed why) z w = λ op turn o h. unacked_one q op turn o h (begun_all a n t s ok w op turn o h) why z
