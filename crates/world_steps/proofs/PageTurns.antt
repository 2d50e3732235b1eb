-- A page comes in, or a line fails, in one turn: the World that was seen as s is found as x, left as y, and seen so as u.
use Rattle.std.proofs.Common.{◌≡◌, ℕ, ◌+◌, ◌<◌, ◌≤◌, Bool, true, false, Result, Ok, OnOk, OnErr, ◌⊎◌, inl, inr}
use Rattle.std.proofs.Common.{subst, sym, refl, ap, ◌∙◌, arith, eq-eqb}
use Rattle.std.proofs.Common.{Err as Failed}
use Rattle.std.specs.Prelude.{◌==◌, ◌||◌}
use Rattle.sparse_image.specs.Image.{Table}
use Rattle.vol_units.specs.declared.page_ref.PageRef.{PageRef}
use Rattle.open_calls.specs.Maint.{command_at}
use Rattle.volume_model.specs.Faults.{last_count}
use Rattle.volume_core.specs.State.{State, opening_of, gave_up_at}
use Rattle.volume_core.specs.Steps.{faulted, has_part}
use Rattle.volume_core.specs.Streams.{MayGo}
use Rattle.volume_rebuild.specs.Answers.{CopiesIn}
use Rattle.stream_steps.specs.declared.add.PageIn.{PageIn}
use Rattle.stream_steps.specs.declared.add.PageIn.TheVariants as put
use Rattle.stream_steps.specs.Mine.{Mine, entries_in}
use Rattle.stream_steps.specs.Steps.{FallsTo}
use Rattle.stream_steps.specs.Add.{PutsIn}
use Rattle.world_holder.specs.View.{view, IsFound, Owes}
use Rattle.world_holder.specs.Counted.{IsRebuildKept, WasAborted}
use Rattle.world_holder.proofs.Entries.{own_last}
use Rattle.world_holder.proofs.Grow.{found_same, over}
use Rattle.world_steps.proofs.Rest.{Rest, rest_of, turns_faulted}
use Rattle.world_steps.proofs.RebuildKept.{kept_faulted}
use Rattle.world_steps.proofs.Begun.{begun_found, begun_fall}
use Rattle.world_steps.proofs.GaveUp.{flag_kept}
use Rattle.world_steps.specs.Rebuild.{left_now, IsEndedAt, IsOpenFrom, IsBegunIn, IsEndOf, PutsAt}
use Rattle.world_steps.proofs.Pages.{one_fewer}
use Rattle.world_steps.proofs.Later.{IsRebuildKnown, IsStillKnown, same_left, still_known, known_then, rebuild_then}
use Rattle.world_steps.proofs.AtOnce.{falls_row}
use Rattle.world_steps.proofs.Puts.{put_row, puts_whole, puts_gave, puts_ended, puts_pages, puts_begun}
use Rattle.world_steps.proofs.AddTurns.{HasSomeAdd, add_known, add_kept, add_stream, add_owes}

-- ---- a page comes in

module _ (a : Bool) (n t : ℕ) (s x y : State) (page : PageRef) (old new : Table) (p : PageIn) (found : IsFound a n s x)
    (add : HasSomeAdd t (view a n s)) (puts : PutsAt p page old new x y) (may : MayGo (command_at x.commands 0).stream x y) where
  own_may : MayGo n x y
  own_may = subst (λ m. MayGo m x y) (add_stream a n t s x found add) may

  pub put_owes : Owes n x y
  put_owes = add_owes a n t s x found add y own_may (puts_whole x y page old new p puts)

  one_less : CopiesIn x page old new y → left_now y.rebuild + 1 ≡ left_now x.rebuild
  one_less c =
      ap (λ (z : State). left_now z.rebuild + 1) c.state
      ∙ one_fewer x c.b page found.sound c.is.begun c.is.left
      ∙ sym (ap left_now c.is.begun)

  module _ (u : State) (left : u ≡ y) where
    pub put_same : view a n u ≡ view a n s
    put_same = over a n s x y u found left (λ (m : Mine) (z : State). view a n z ≡ m) (put_row x y page old new a n own_may p puts)

    pub put_gave : gave_up_at u.gave_up n ≡ gave_up_at s.gave_up n
    put_gave = flag_kept a n s x y u found left (puts_gave x y page old new p puts)

    pub put_kept : IsRebuildKnown n s u
    put_kept = subst (IsRebuildKnown n s) (sym left) (rebuild_then s x n y (add_known a n t s x found add).rebuild (record {
      ended = puts_ended x y page old new p puts;
      pages = puts_pages x y page old new found.sound p puts;
      begun = λ source r. puts_begun x y page old new n true source r p puts;
      fewer = by p puts;
    }))
      where
        by : (q : PageIn) → PutsAt q page old new x y → left_now y.rebuild ≤ left_now x.rebuild
        by put.Listed c = omega (arith, one_less c)
        by (put.Ended place) c = omega (arith, ap (λ (z : State). left_now z.rebuild) c.1)

    pub put_puts : PutsIn p (IsEndedAt u) (left_now s.rebuild) (left_now u.rebuild)
    put_puts = subst (λ (z : State). PutsIn p (IsEndedAt z) (left_now s.rebuild) (left_now z.rebuild)) (sym left) (by p puts)
      where
        by : (q : PageIn) → PutsAt q page old new x y → PutsIn q (IsEndedAt y) (left_now s.rebuild) (left_now y.rebuild)
        by put.Listed c = one_less c ∙ same_left s x (add_kept a n t s x found add) c.b c.is.begun
        by (put.Ended place) c = c.0

-- ---- a line fails

-- what is left is one of these, as a fault is told
abbrev Told : State → State → State → Type 0
Told x y z = (res : Result (Unit {0}) (Unit {0})) × OnOk res (y ≡ z) × OnErr res (y ≡ x)

told : (x y z : State) → (y ≡ z) ⊎ (y ≡ x) → Told x y z
told x y z (inl e) = (Ok tt, e, tt)
told x y z (inr e) = (Failed tt, tt, e)

module _ (a : Bool) (n t r count : ℕ) (s x y : State) (found : IsFound a n s x) (add : HasSomeAdd t (view a n s)) (may : MayGo n x y)
    (fell : (y ≡ faulted x n r count) ⊎ (y ≡ x)) where
  its_told : Told x y (faulted x n r count)
  its_told = told x y (faulted x n r count) fell

  -- what others have open stays, and the rebuild, or it is aborted
  its_rest : rest_of y ≡ rest_of x
  its_rest = let k = its_told in turns_faulted n r count x y k.0 k.1 k.2

  its_kept : IsRebuildKept x.rebuild x y
  its_kept = let k = its_told in kept_faulted n r count x y k.0 k.1 k.2

  pub fall_owes : Owes n x y
  fall_owes = add_owes a n t s x found add y may (ap (λ (z : Rest). z.whole) its_rest)

  module _ (u : State) (left : u ≡ y) where
    pub fall_fell : FallsTo r count (view a n s) (view a n u) ⊎ (view a n u ≡ view a n s)
    fall_fell = over a n s x y u found left (λ (m : Mine) (z : State). FallsTo r count m (view a n z) ⊎ (view a n z ≡ m)) (by fell)
      where
        by : (y ≡ faulted x n r count) ⊎ (y ≡ x) → FallsTo r count (view a n x) (view a n y) ⊎ (view a n y ≡ view a n x)
        by (inl e) = inl (falls_row a n r count x y may e)
        by (inr same) = inr (ap (view a n) same)

    pub fall_gave : gave_up_at u.gave_up n ≡ gave_up_at s.gave_up n
    fall_gave = flag_kept a n s x y u found left (ap (λ (z : Rest). z.gave_up) its_rest)

    pub fall_still : IsStillKnown n s u
    fall_still =
        let k = its_told in
        subst (IsStillKnown n s) (sym left) (known_then s x n y (add_known a n t s x found add) (still_known x y n its_kept
        (λ source q. begun_fall n r count x y k.0 k.1 k.2 true source q)))

-- the replica is an end of the rebuild that is found
module _ (a : Bool) (n r count : ℕ) (s x : State) (found : IsFound a n s x) where
  pub fall_part : (source q : ℕ) × IsBegunIn n s true source q × ((r ≡ source) ⊎ (r ≡ q)) → IsEndOf x r
  fall_part begun = by (begun_found n s x true begun.0 begun.1 found.later begun.2).is begun.3
    where
      source_part : (b : Bool) (k : ℕ) → r ≡ k → (b || (r == k)) ≡ true
      source_part true k e = refl
      source_part false k e = eq-eqb r k e

      target_part : (b : Bool) (k : ℕ) → r ≡ k → ((r == k) || b) ≡ true
      target_part b k e = ap (λ c. c || b) (eq-eqb r k e)

      by : IsOpenFrom x true begun.0 begun.1 ⊎ WasAborted x → (r ≡ begun.0) ⊎ (r ≡ begun.1) → IsEndOf x r
      by (inl o) (inl e) = inl (ap (λ b. has_part b r) o.is ∙ source_part (r == o.b.target) o.b.source (e ∙ sym o.from))
      by (inl o) (inr e) = inl (ap (λ b. has_part b r) o.is ∙ target_part (r == o.b.source) o.b.target (e ∙ sym o.to))
      by (inr was) e = inr was

  -- and the count is above the last that the journal tells
  pub fall_above : last_count (view a n s).stream r (entries_in (view a n s).entries) < count → last_count n r x.book.entries < count
  fall_above above = subst (λ k. k < count) (own_last n r (opening_of x) x.book.entries)
      (subst (λ (m : Mine). last_count m.stream r (entries_in m.entries) < count) (sym (found_same a n s x found)) above)
