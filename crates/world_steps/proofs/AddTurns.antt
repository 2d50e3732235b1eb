-- A turn of a stream whose add has the turn: what is found, what it owes, and what a look at its rebuild tells. The World that
-- was seen as s is found as x, left as y, and seen so as u.
use Rattle.std.proofs.Common.{◌≡◌, ℕ, ◌<◌, Bool, true, Option, None, Some, MatchOption}
use Rattle.std.proofs.Common.{subst, sym, refl, ap, ◌∙◌}
use Rattle.sparse_image.specs.Image.{Table}
use Rattle.vol_units.specs.declared.page_ref.PageRef.{PageRef}
use Rattle.volume_model.specs.declared.command.Command.TheVariants as command
use Rattle.open_calls.specs.Calls.{node_at}
use Rattle.open_calls.specs.Maint.{command_at}
use Rattle.open_rebuild.specs.declared.rebuilding.Rebuilding.{Rebuilding}
use Rattle.volume_core.specs.declared.world.EndedRebuild.{EndedRebuild}
use Rattle.volume_core.specs.State.{State, gave_up_at}
use Rattle.volume_core.specs.Streams.{MayGo}
use Rattle.volume_core.specs.Turn.{ForAsker, IsFreeTurn}
use Rattle.world_holder.specs.Counted.{IsRebuildKept}
use Rattle.world_holder.proofs.CountedLemmas.{own_turn}
use Rattle.world_holder.proofs.Leaves.{parts_stay}
use Rattle.stream_steps.specs.declared.add.NextPage.{NextPage}
use Rattle.stream_steps.specs.declared.add.NextPage.TheVariants as next
use Rattle.stream_steps.specs.declared.add.PageOut.{PageOut}
use Rattle.stream_steps.specs.declared.add.PageOut.TheVariants as out
use Rattle.stream_steps.specs.Mine.{Mine, OwnCall}
use Rattle.stream_steps.specs.Add.{HasAdd, TakesNext, TakesOut}
use Rattle.world_holder.specs.View.{view, IsFound, Owes}
use Rattle.world_holder.proofs.Grow.{found_same}
use Rattle.world_steps.proofs.FrameTurns.{look_same}
use Rattle.world_steps.proofs.GaveUp.{flag_kept}
use Rattle.world_steps.specs.Rebuild.{left_now, IsPageIn, IsAbortedAt, AwaitsAt, IsEndedAt, IsNextIn, IsOutIn}
use Rattle.world_steps.proofs.Begun.{begun_found}
use Rattle.world_steps.proofs.Turns.{turn_owner, turn_stream, free_turn}
use Rattle.world_steps.proofs.Pages.{one_more, takes_all, out_page, out_none, out_block}
use Rattle.world_steps.proofs.Later.{IsStillKnown, found_kept, same_left, left_on, still_known}

-- that the add of some replica has the turn
abbrev pub HasSomeAdd : ℕ → Mine → Type 0
HasSomeAdd t m = (r : ℕ) × (o : OwnCall) × HasAdd t r o m

-- ---- what is found

module _ (a : Bool) (n t : ℕ) (s x : State) (found : IsFound a n s x) (add : HasSomeAdd t (view a n s)) where
  add_found : HasSomeAdd t (view a n x)
  add_found = subst (HasSomeAdd t) (sym (found_same a n s x found)) add

  pub add_kept : IsRebuildKept s.rebuild s x
  add_kept = let h = add_found in found_kept a n t h.0 h.1 s x found.later found.sound h.2

  -- what was known is known
  pub add_known : IsStillKnown n s x
  add_known = still_known s x n add_kept (λ source r. begun_found n s x true source r found.later)

  -- its command is the first, and has nothing enrolled
  pub add_stream : (command_at x.commands 0).stream ≡ n
  add_stream = let h = add_found in turn_stream a n t x found.sound (command.Add h.0) h.1 h.2

  pub add_free : IsFreeTurn x t
  add_free = let h = add_found in free_turn a n t x found.sound (command.Add h.0) h.1 h.2

  -- what a step for its asker may leave
  pub add_go : (y : State) → ForAsker x t (λ m. MayGo m x y) → MayGo n x y
  add_go y may = let h = add_found in turn_owner a n t x found.sound (command.Add h.0) h.1 h.2 (λ m. MayGo m x y) may

  pub add_owes : (y : State) → MayGo n x y → y.whole ≡ x.whole → Owes n x y
  add_owes y may same = record { may = may; parts = parts_stay n x y may same; counted = own_turn n x y found.sound add_stream }

-- ---- a look, which leaves the World as it was found

-- the stream knows the same, gave no command up beside those that it had, and knows of its rebuild what it knew
pub record IsStill (a : Bool) (n : ℕ) (s u : State) : Type 0 where
  pub same : view a n u ≡ view a n s
  pub gave_up : gave_up_at u.gave_up n ≡ gave_up_at s.gave_up n
  pub known : IsStillKnown n s u

module _ (a : Bool) (n t : ℕ) (s x : State) (found : IsFound a n s x) (add : HasSomeAdd t (view a n s)) (u : State) (left : u ≡ x) where
  pub look_still : IsStill a n s u
  look_still = record {
    same = look_same a n s x u found left;
    gave_up = flag_kept a n s x x u found left refl;
    known = subst (IsStillKnown n s) (sym left) (add_known a n t s x found add);
  }

  -- the next page, of as many as were left
  pub look_next : (p : NextPage) → IsNextIn p x
      → TakesNext p (λ page. AwaitsAt u.rebuild u.ended page) (λ place. IsEndedAt u place) (left_now s.rebuild) (left_now u.rebuild)
  look_next p y = subst (λ (z : State). TakesNext p (λ page. AwaitsAt z.rebuild z.ended page) (λ place. IsEndedAt z place)
      (left_now s.rebuild) (left_now z.rebuild)) (sym left) (by p y)
    where
      kept : IsRebuildKept s.rebuild s x
      kept = add_kept a n t s x found add

      by : (p : NextPage) → IsNextIn p x
          → TakesNext p (λ page. AwaitsAt x.rebuild x.ended page) (λ place. IsEndedAt x place) (left_now s.rebuild) (left_now x.rebuild)
      by (next.Page page) y = (
        subst (λ (o : Option Rebuilding). AwaitsAt o x.ended page) (sym y.1) y.2.left,
        subst (λ (o : Option Rebuilding). 0 < left_now o) (sym y.1) (one_more x y.0 page found.sound y.1 y.2.left),
        same_left s x kept y.0 y.1,
      )
      by next.All y = (takes_all x y.1, left_on s x kept y.0)
      by (next.Ended place) y = y

  -- what the source has of a page, of as many
  pub look_out : (p : PageOut) (page : PageRef) (old new : Table) → IsOutIn p page old new x
      → TakesOut p page new (λ q table. IsPageIn u q table) (λ place. IsEndedAt u place) (left_now s.rebuild) (left_now u.rebuild)
  look_out p page old new y = subst (λ (z : State). TakesOut p page new (λ q table. IsPageIn z q table) (λ place. IsEndedAt z place)
      (left_now s.rebuild) (left_now z.rebuild)) (sym left) (by p y)
    where
      kept : IsRebuildKept s.rebuild s x
      kept = add_kept a n t s x found add

      by : (p : PageOut) → IsOutIn p page old new x
          → TakesOut p page new (λ q table. IsPageIn x q table) (λ place. IsEndedAt x place) (left_now s.rebuild) (left_now x.rebuild)
      by out.Empty y = (out_none x page old new y, same_left s x kept y.b y.is.begun)
      by out.Blocks y = (
        out_page x page old new y,
        out_block (node_at x.nodes y.b.source) page new y.out.0 y.out.1,
        same_left s x kept y.b y.is.begun,
      )
      by (out.Ended place) y = y

  -- where it was aborted, and else as many are left
  pub look_end : (res : Option ℕ) → MatchOption res (x.ended ≡ None) (λ place. IsEndedAt x place)
      → MatchOption res (left_now u.rebuild ≡ left_now s.rebuild) (λ place. IsEndedAt u place)
  look_end None none = ap (λ (z : State). left_now z.rebuild) left ∙ left_on s x (add_kept a n t s x found add) none
  look_end (Some place) is = subst (λ (z : State). IsEndedAt z place) (sym left) is

  -- and else it was not
  pub look_not : (res : Option ℕ) → MatchOption res (x.ended ≡ None) (λ place. IsEndedAt x place)
      → res ≡ None → (place : ℕ) → ¬ IsEndedAt u place
  look_not None none e place is = subst (λ (o : Option EndedRebuild). IsAbortedAt o place)
      (ap (λ (z : State). z.ended) left ∙ none) is.ended
  look_not (Some at) told e place is = absurd cc
