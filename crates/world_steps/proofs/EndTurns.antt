-- The end of an add, in one turn: the World that was seen as s is found as x, left as y, and seen so as u.
use Rattle.std.proofs.Common.{◌≡◌, ◌⊎◌, inl, inr, ℕ, zero, suc, ◌<◌, Bool, true, false, List, [], ◌∷◌, length}
use Rattle.std.proofs.Common.{Option, None, Some, IsSome, IfSome, subst, sym, refl, ap, ◌∙◌, arith}
use Rattle.std.specs.Prelude.{not, count_by}
use Rattle.std.proofs.lemmas.Bool.{false≢true}
use Rattle.volume_model.specs.declared.call.Reply.TheVariants as reply
use Rattle.open_calls.specs.Maint.{command_at}
use Rattle.open_rebuild.specs.Listed.{AreListed}
use Rattle.open_rebuild.specs.declared.rebuilding.Rebuilding.{Rebuilding}
use Rattle.volume_core.specs.declared.world.EndedRebuild.{EndedRebuild}
use Rattle.volume_core.specs.Sound.{IsSound, AreAdds}
use Rattle.volume_core.specs.State.{State, gave_up_at}
use Rattle.volume_core.specs.Streams.{MayGo}
use Rattle.volume_maint.specs.Answers as world
use Rattle.volume_core.specs.Turn.{ForAsker}
use Rattle.volume_maint.specs.Steps.{turn_abandoned}
use Rattle.volume_rebuild.specs.Answers as again
use Rattle.stream_steps.specs.Mine.{Mine, OwnCall}
use Rattle.stream_steps.specs.Add.{HasAdd, Promotes, EndsAborted, LeavesAdd}
use Rattle.world_holder.specs.Counted.{WasAborted}
use Rattle.world_holder.specs.View.{view, IsFound, Owes}
use Rattle.world_holder.proofs.Grow.{over}
use Rattle.world_steps.proofs.GaveUp.{flag_kept}
use Rattle.world_steps.proofs.Ends.{promote_row, aborted_row, abandon_row, abandon_whole}
use Rattle.world_steps.proofs.AddTurns.{HasSomeAdd, add_known, add_free, add_go, add_owes}
use Rattle.world_steps.proofs.Begun.{begun_found}
use Rattle.world_steps.proofs.Later.{IsStillKnown}
use Rattle.world_steps.proofs.Pages.{set_left, past_left, same_open}
use Rattle.world_steps.specs.Rebuild.{left_now, IsAbortedAt, IsEndedAt, IsOpenFrom, IsBegunIn, IsUnfinished, AwaitsPromotion}

-- ---- why it does not end

-- a page of the rebuild is left where not all are listed
some_left : (bits : List Bool) → (AreListed bits (length bits) → ⊥) → 0 < count_by not bits
some_left [] not_all = absurd (not_all (λ place within. absurd (omega (arith, within))))
some_left (false ∷ bits) not_all = omega (arith, set_left (false ∷ bits) 0 (omega arith) refl)
some_left (true ∷ bits) not_all = some_left bits (λ all. not_all (all_more all))
  where
    all_more : AreListed bits (length bits) → AreListed (true ∷ bits) (suc (length bits))
    all_more all zero within = refl
    all_more all (suc place) within = all place (omega (arith, within))

ended_there : (s : State) → WasAborted s → (place : ℕ) × IsEndedAt s place
ended_there s was = let at = by s.ended was.ended in (at.0, record { closed = was.none; ended = at.1 })
  where
    by : (g : Option EndedRebuild) → IsSome g → (place : ℕ) × IsAbortedAt g place
    by (Some g) is = (g.place, refl)
    by None is = absurd (false≢true is)

left_or_ended : (s : State) (source r : ℕ) → IsUnfinished s → IsOpenFrom s true source r ⊎ WasAborted s
    → (0 < left_now s.rebuild) ⊎ ((place : ℕ) × IsEndedAt s place)
left_or_ended s source r why (inr was) = inr (ended_there s was)
left_or_ended s source r (inl none) (inl o) = absurd (none_open o.b (sym none ∙ o.is))
  where
    none_open : (b : Rebuilding) → None ≡ Some b → ⊥
    none_open b e = cc
left_or_ended s source r (inr why) (inl o) =
    let b = why.0 in
    let may : b.may_copy ≡ true = ap (λ (c : Rebuilding). c.may_copy) (same_open b o.b (sym why.1 ∙ o.is)) ∙ o.ended refl in
    let some = some_left b.listed (why.2 (record { begun = why.1; ended = may })) in
    inl (subst (λ k. 0 < k) (sym (ap left_now why.1 ∙ past_left b may)) some)

-- its add may be answered so
aborted_there : (s : State) (at : ℕ) → IsSound s → IsEndedAt s at
    → world.MayEnd s (command_at s.commands 0).command (reply.Aborted at)
aborted_there s at ok is = by s.ended refl is.ended
  where
    by : (g : Option EndedRebuild) → s.ended ≡ g → IsAbortedAt g at
        → world.MayEnd s (command_at s.commands 0).command (reply.Aborted at)
    by (Some g) e place =
        let adds = subst (AreAdds s.maint s.commands s.rebuild) e ok.adds in
        (g.target, adds.of_ended.turn.command, e ∙ (λ i. Some (record { target = g.target; place = place i })))
    by None e place = absurd place

-- ---- the replica is promoted

module _ (a : Bool) (n t : ℕ) (s x y : State) (found : IsFound a n s x) (res : Option ℕ) (add : HasSomeAdd t (view a n s))
    (may : ForAsker x t (λ m. MayGo m x y)) (done : IfSome res (λ place. again.Promotes x t y)) (none : res ≡ None → y ≡ x) where
  pub promote_owes : Owes n x y
  promote_owes = add_owes a n t s x found add y (add_go a n t s x found add y may) (by res done none)
    where
      by : (q : Option ℕ) → IfSome q (λ place. again.Promotes x t y) → (q ≡ None → y ≡ x) → y.whole ≡ x.whole
      by (Some place) d same = ap (λ (z : State). z.whole) d.state
      by None d same = ap (λ (z : State). z.whole) (same refl)

  module _ (u : State) (left : u ≡ y) where
    pub promote_gave : gave_up_at u.gave_up n ≡ gave_up_at s.gave_up n
    promote_gave = flag_kept a n s x y u found left (by res done none)
      where
        by : (q : Option ℕ) → IfSome q (λ place. again.Promotes x t y) → (q ≡ None → y ≡ x) → y.gave_up ≡ x.gave_up
        by (Some place) d same = ap (λ (z : State). z.gave_up) d.state
        by None d same = ap (λ (z : State). z.gave_up) (same refl)

    pub promote_done : IfSome res (λ place. (r : ℕ) (o : OwnCall) → HasAdd t r o (view a n s) → Promotes r o (view a n s) (view a n u))
    promote_done = over a n s x y u found left
        (λ (m : Mine) (z : State). IfSome res (λ place. (r : ℕ) (o : OwnCall) → HasAdd t r o m → Promotes r o m (view a n z))) (by res done)
      where
        by : (q : Option ℕ) → IfSome q (λ place. again.Promotes x t y)
            → IfSome q (λ place. (r : ℕ) (o : OwnCall) → HasAdd t r o (view a n x) → Promotes r o (view a n x) (view a n y))
        by (Some place) d = promote_row a n t x y found.sound (add_go a n t s x found add y may) d
        by None d = tt

    pub promote_none : res ≡ None → view a n u ≡ view a n s
    promote_none = over a n s x y u found left (λ (m : Mine) (z : State). res ≡ None → view a n z ≡ m) (λ e. ap (view a n) (none e))

    -- then what was known of the rebuild is known
    pub promote_still : res ≡ None → IsStillKnown n s u
    promote_still e = subst (IsStillKnown n s) (sym (left ∙ none e)) (add_known a n t s x found add)

    -- a page of it is left, or it was aborted
    pub promote_why : (res ≡ None → AwaitsPromotion x t) → res ≡ None → (source r : ℕ) → IsBegunIn n s true source r
        → (0 < left_now u.rebuild) ⊎ ((place : ℕ) × IsEndedAt u place)
    promote_why why e source r begun =
        subst (λ (z : State). (0 < left_now z.rebuild) ⊎ ((place : ℕ) × IsEndedAt z place)) (sym (left ∙ none e))
        (left_or_ended x source r (why e (add_free a n t s x found add)) (begun_found n s x true source r found.later begun).is)

-- ---- it is answered that its rebuild was aborted

module _ (a : Bool) (n t at : ℕ) (s x y : State) (found : IsFound a n s x) (res : Option ℕ) (add : HasSomeAdd t (view a n s))
    (may : ForAsker x t (λ m. MayGo m x y)) (done : IfSome res (λ place. world.EndsTurn x t (reply.Aborted at) y))
    (none : res ≡ None → y ≡ x) where
  pub abort_owes : Owes n x y
  abort_owes = add_owes a n t s x found add y (add_go a n t s x found add y may) (by res done none)
    where
      by : (q : Option ℕ) → IfSome q (λ place. world.EndsTurn x t (reply.Aborted at) y) → (q ≡ None → y ≡ x) → y.whole ≡ x.whole
      by (Some place) d same = ap (λ (z : State). z.whole) d.state
      by None d same = ap (λ (z : State). z.whole) (same refl)

  module _ (u : State) (left : u ≡ y) where
    pub abort_gave : gave_up_at u.gave_up n ≡ gave_up_at s.gave_up n
    abort_gave = flag_kept a n s x y u found left (by res done none)
      where
        by : (q : Option ℕ) → IfSome q (λ place. world.EndsTurn x t (reply.Aborted at) y) → (q ≡ None → y ≡ x) → y.gave_up ≡ x.gave_up
        by (Some place) d same = ap (λ (z : State). z.gave_up) d.state
        by None d same = ap (λ (z : State). z.gave_up) (same refl)

    pub abort_done : IfSome res (λ place. (r : ℕ) (o : OwnCall) → HasAdd t r o (view a n s)
        → EndsAborted r at o (view a n s) (view a n u))
    abort_done = over a n s x y u found left
        (λ (m : Mine) (z : State). IfSome res (λ place. (r : ℕ) (o : OwnCall) → HasAdd t r o m → EndsAborted r at o m (view a n z)))
        (by res done)
      where
        by : (q : Option ℕ) → IfSome q (λ place. world.EndsTurn x t (reply.Aborted at) y)
            → IfSome q (λ place. (r : ℕ) (o : OwnCall) → HasAdd t r o (view a n x) → EndsAborted r at o (view a n x) (view a n y))
        by (Some place) d = aborted_row a n t x y found.sound (add_go a n t s x found add y may) at d
        by None d = tt

    pub abort_none : res ≡ None → view a n u ≡ view a n s
    abort_none = over a n s x y u found left (λ (m : Mine) (z : State). res ≡ None → view a n z ≡ m) (λ e. ap (view a n) (none e))

    -- then what was known of the rebuild is known
    pub abort_still : res ≡ None → IsStillKnown n s u
    abort_still e = subst (IsStillKnown n s) (sym (left ∙ none e)) (add_known a n t s x found add)

    -- it was not aborted there
    pub abort_why : (res ≡ None → world.CannotEnd x t (reply.Aborted at)) → res ≡ None → ¬ IsEndedAt u at
    abort_why why e is = not_done ((why e (add_free a n t s x found add)
        (aborted_there x at found.sound (subst (λ (z : State). IsEndedAt z at) (left ∙ none e) is))).done)
      where
        not_done : reply.Aborted at ≡ reply.Done → ⊥
        not_done e = cc

-- ---- its turn is given back

module _ (a : Bool) (n t : ℕ) (s x y : State) (found : IsFound a n s x) (add : HasSomeAdd t (view a n s))
    (may : ForAsker x t (λ m. MayGo m x y)) (gone : y ≡ turn_abandoned x) where
  pub abandon_owes : Owes n x y
  abandon_owes = add_owes a n t s x found add y (add_go a n t s x found add y may) (abandon_whole x y gone)

  pub abandon_left : (u : State) → u ≡ y → (r : ℕ) (o : OwnCall) → HasAdd t r o (view a n s) → LeavesAdd o (view a n s) (view a n u)
  abandon_left u left = over a n s x y u found left
      (λ (m : Mine) (z : State). (r : ℕ) (o : OwnCall) → HasAdd t r o m → LeavesAdd o m (view a n z))
      (abandon_row a n t x y found.sound (add_go a n t s x found add y may) gone)
