-- A page comes in: what that makes of what the stream knows.
use Rattle.std.proofs.Common.{◌≡◌, ◌⊎◌, inl, inr, Bool, ℕ, None, Some, subst, sym, ap, ◌∙◌}
use Rattle.sparse_image.specs.Image.{Table}
use Rattle.vol_units.specs.declared.page_ref.PageRef.{PageRef}
use Rattle.open_rebuild.specs.declared.rebuilding.Rebuilding.{Rebuilding}
use Rattle.open_rebuild.specs.Claim.{with_page}
use Rattle.volume_core.specs.State.{State}
use Rattle.volume_core.specs.Sound.{IsSound}
use Rattle.volume_core.specs.Streams.{turning, MayGo}
use Rattle.stream_steps.specs.declared.add.PageIn.{PageIn}
use Rattle.stream_steps.specs.declared.add.PageIn.TheVariants as put
use Rattle.world_holder.specs.View.{runs, view}
use Rattle.world_holder.proofs.Grow.{only_open}
use Rattle.world_holder.specs.Counted.{WasAborted}
use Rattle.world_steps.specs.Rebuild.{IsPageIn, IsEndedAt, IsOpenFrom, IsBegunIn, PutsAt}
use Rattle.world_steps.proofs.Pages.{pages_kept}

not_some : (b : Rebuilding) → None ≡ Some b → ⊥
not_some b e = cc

some_same : (a b : Rebuilding) → Some a ≡ Some b → a ≡ b
some_same a b e = cc

-- ---- a page comes in

module _ (s s2 : State) (page : PageRef) (old new : Table) where
  pub put_row : (a : Bool) (n : ℕ) → MayGo n s s2 → (p : PageIn) → PutsAt p page old new s s2 → view a n s2 ≡ view a n s
  put_row a n may put.Listed y = only_open n s s2 may a (runs n s) (ap (λ (z : State). z.book.entries) y.state)
      (ap (λ (z : State). runs n z) y.state)
  put_row a n may (put.Ended place) y = ap (view a n) y.1

  pub puts_whole : (p : PageIn) → PutsAt p page old new s s2 → s2.whole ≡ s.whole
  puts_whole put.Listed y = ap (λ (z : State). z.whole) y.state
  puts_whole (put.Ended place) y = ap (λ (z : State). z.whole) y.1

  pub puts_gave : (p : PageIn) → PutsAt p page old new s s2 → s2.gave_up ≡ s.gave_up
  puts_gave put.Listed y = ap (λ (z : State). z.gave_up) y.state
  puts_gave (put.Ended place) y = ap (λ (z : State). z.gave_up) y.1

  -- where its mark stands, and what its source has of the pages, as they were
  pub puts_ended : (p : PageIn) → PutsAt p page old new s s2 → (place : ℕ) → IsEndedAt s place → IsEndedAt s2 place
  puts_ended put.Listed y place is = absurd (not_some y.b (sym is.closed ∙ y.is.begun))
  puts_ended (put.Ended place) y at is = subst (λ (z : State). IsEndedAt z at) (sym y.1) is

  pub puts_pages : IsSound s → (p : PageIn) → PutsAt p page old new s s2 → (q : PageRef) (table : Table) → IsPageIn s q table
      → IsPageIn s2 q table
  puts_pages ok put.Listed y = pages_kept s s2 page old new ok y
  puts_pages ok (put.Ended place) y = λ q table is. subst (λ (z : State). IsPageIn z q table) (sym y.1) is

  -- its rebuild goes on from the same source
  pub puts_begun : (n : ℕ) (past : Bool) (source r : ℕ) (p : PageIn) → PutsAt p page old new s s2 → IsBegunIn n s past source r
      → IsBegunIn n s2 past source r
  puts_begun n past source r put.Listed y begun = record {
    turn = record {
      p = begun.turn.p;
      turns = ap (λ (z : State). turning z n) y.state ∙ begun.turn.turns;
      started = begun.turn.started;
      adds = begun.turn.adds;
    };
    is = by begun.is;
  }
    where
      by : IsOpenFrom s past source r ⊎ WasAborted s → IsOpenFrom s2 past source r ⊎ WasAborted s2
      by (inl o) =
          let same : y.b ≡ o.b = some_same y.b o.b (sym y.is.begun ∙ o.is) in
          inl (record {
            b = with_page y.b page.layer page.page;
            is = ap (λ (z : State). z.rebuild) y.state;
            from = ap (λ (b : Rebuilding). b.source) same ∙ o.from;
            to = ap (λ (b : Rebuilding). b.target) same ∙ o.to;
            ended = λ e. ap (λ (b : Rebuilding). b.may_copy) same ∙ o.ended e;
          })
      by (inr was) = absurd (not_some y.b (sym was.none ∙ y.is.begun))
  puts_begun n past source r (put.Ended place) y begun = subst (λ (z : State). IsBegunIn n z past source r) (sym y.1) begun
