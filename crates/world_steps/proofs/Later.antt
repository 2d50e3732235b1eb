-- What a stream whose add has the turn knows of its rebuild still in a later World: it goes on, or it was aborted.
use Rattle.std.proofs.Common.{◌≡◌, Bool, true, ◌≤◌, arith, ℕ, ◌+◌, ◌*◌, Option, None, Some, IsSome, inl, inr, subst, sym, refl, ap, ◌∙◌}
use Rattle.std.proofs.lemmas.Bool.{false≢true}
use Rattle.sparse_image.specs.Image.{Table}
use Rattle.vol_units.specs.declared.page_ref.PageRef.{PageRef}
use Rattle.volume_model.specs.declared.command.Command.TheVariants as command
use Rattle.open_rebuild.specs.declared.rebuilding.Rebuilding.{Rebuilding}
use Rattle.volume_core.specs.declared.world.EndedRebuild.{EndedRebuild}
use Rattle.volume_core.specs.State.{State}
use Rattle.volume_core.specs.Sound.{IsSound}
use Rattle.world_holder.specs.Counted.{GoesOn, IsRebuildKept}
use Rattle.world_holder.specs.Laid.{IsLater}
use Rattle.world_holder.proofs.CountedLemmas.{kept_in_turn}
use Rattle.stream_steps.specs.Mine.{OwnCall}
use Rattle.stream_steps.specs.Add.{HasAdd, KeepsPages, KeepsRebuild}
use Rattle.world_holder.specs.View.{view}
use Rattle.world_steps.proofs.Shapes.{has_turn}
use Rattle.world_steps.specs.Rebuild.{left_now, IsPageIn, IsAbortedAt, AwaitsAt, IsBegunIn, IsEndedAt}

not_some : (b : Rebuilding) → None ≡ Some b → ⊥
not_some b e = cc

some_same : (a b : Rebuilding) → Some a ≡ Some b → a ≡ b
some_same a b e = cc

-- What the stream knew of the rebuild in one World it knows in the other: its end, the source's blocks, and that it was begun;
-- and no more pages are left.
abbrev pub IsRebuildKnown : ℕ → State → State → Type 0
IsRebuildKnown n s t = KeepsRebuild IsEndedAt IsPageIn (IsBegunIn n) (λ (z : State). left_now z.rebuild) s t

-- and the pages that waited wait
abbrev pub IsStillKnown : ℕ → State → State → Type 0
IsStillKnown n s t = KeepsPages IsEndedAt IsPageIn (IsBegunIn n) (λ (z : State). left_now z.rebuild)
    (λ (z : State) page. AwaitsAt z.rebuild z.ended page) s t

-- ---- how many pages are left

module _ (s t : State) (kept : IsRebuildKept s.rebuild s t) where
  -- no more than were
  left_found : left_now t.rebuild ≤ left_now s.rebuild
  left_found = by s.rebuild kept
    where
      by : (o : Option Rebuilding) → IsRebuildKept o s t → left_now t.rebuild ≤ left_now o
      by None k = omega (arith, ap left_now k.none)
      by (Some b) (inl on) = omega (arith, ap left_now on.is)
      by (Some b) (inr off) = omega (arith, ap left_now off.none)

  -- as many, where one is open
  pub same_left : (b : Rebuilding) → t.rebuild ≡ Some b → left_now t.rebuild ≡ left_now s.rebuild
  same_left b is = by s.rebuild kept
    where
      by : (o : Option Rebuilding) → IsRebuildKept o s t → left_now t.rebuild ≡ left_now o
      by None k = ap left_now k.none
      by (Some c) (inl on) = ap left_now on.is
      by (Some c) (inr off) = absurd (not_some b (sym off.none ∙ is))

  -- and where none was aborted
  pub left_on : t.ended ≡ None → left_now t.rebuild ≡ left_now s.rebuild
  left_on none = by s.rebuild kept
    where
      by : (o : Option Rebuilding) → IsRebuildKept o s t → left_now t.rebuild ≡ left_now o
      by None k = ap left_now k.none
      by (Some c) (inl on) = ap left_now on.is
      by (Some c) (inr off) = absurd (false≢true (subst IsSome none off.ended))

-- ---- from the World s to the World t, where the rebuild of s was kept

module _ (s t : State) where
  awaits_still : (x : Option Rebuilding) → IsRebuildKept x s t → (p : PageRef) → AwaitsAt x s.ended p → AwaitsAt t.rebuild t.ended p
  awaits_still None kept p is = subst (λ (y : Option Rebuilding × Option EndedRebuild). AwaitsAt y.0 y.1 p)
      (λ i. (sym kept.none i, sym kept.ended i)) is
  awaits_still (Some b) (inl on) p is = subst (λ (y : Option Rebuilding). AwaitsAt y t.ended p) (sym on.is) is
  awaits_still (Some b) (inr off) p is = subst (λ (y : Option Rebuilding). AwaitsAt y t.ended p) (sym off.none) (any t.ended off.ended)
    where
      any : (g : Option EndedRebuild) → IsSome g → AwaitsAt None g p
      any (Some e) some = tt
      any None some = absurd (false≢true some)

  pages_still : (x : Option Rebuilding) → s.rebuild ≡ x → IsRebuildKept x s t → (p : PageRef) (table : Table)
      → IsPageIn s p table → IsPageIn t p table
  pages_still None here kept p table is b begun frozen = absurd (not_some b (sym kept.none ∙ begun))
  pages_still (Some a) here (inr off) p table is b begun frozen = absurd (not_some b (sym off.none ∙ begun))
  pages_still (Some a) here (inl on) p table is b begun frozen =
      let same : a ≡ b = some_same a b (sym on.is ∙ begun) in
      let was = is b (here ∙ ap Some same) frozen in
      let pages = subst (λ (c : Rebuilding). GoesOn c s t) same on in
      λ i h. was i h ∙ sym (pages.pages frozen.may p.layer (p.page * 512 + i) frozen.layer)

  ended_still : (x : Option Rebuilding) → s.rebuild ≡ x → IsRebuildKept x s t → (place : ℕ) → IsEndedAt s place → IsEndedAt t place
  ended_still None here kept place is = record {
    closed = kept.none;
    ended = subst (λ (g : Option EndedRebuild). IsAbortedAt g place) (sym kept.ended) is.ended;
  }
  ended_still (Some a) here kept place is = absurd (not_some a (sym is.closed ∙ here))

  pub still_known : (n : ℕ) → IsRebuildKept s.rebuild s t
      → ((source r : ℕ) → IsBegunIn n s true source r → IsBegunIn n t true source r) → IsStillKnown n s t
  still_known n kept begun = record {
    rebuild = record {
      ended = ended_still s.rebuild refl kept;
      pages = pages_still s.rebuild refl kept;
      begun = begun;
      fewer = left_found s t kept;
    };
    awaits = awaits_still s.rebuild kept;
  }

  -- so it is of what goes on from there
  pub rebuild_then : (n : ℕ) (u : State) → IsRebuildKnown n s t → IsRebuildKnown n t u → IsRebuildKnown n s u
  rebuild_then n u first then = record {
    ended = λ place is. then.ended place (first.ended place is);
    pages = λ page table is. then.pages page table (first.pages page table is);
    begun = λ source r is. then.begun source r (first.begun source r is);
    fewer = omega (arith, first.fewer, then.fewer);
  }

  pub known_then : (n : ℕ) (u : State) → IsStillKnown n s t → IsStillKnown n t u → IsStillKnown n s u
  known_then n u first then = record {
    rebuild = rebuild_then n u first.rebuild then.rebuild;
    awaits = λ p is. then.awaits p (first.awaits p is);
  }

-- ---- what is found

pub found_kept : (a : Bool) (n t r : ℕ) (o : OwnCall) (s x : State) → IsLater n s x → IsSound x → HasAdd t r o (view a n x)
    → IsRebuildKept s.rebuild s x
found_kept a n t r o s x later ok h =
    let one = has_turn a n x o (command.Add r) ok h.is h.call h.wants in
    kept_in_turn n s x one.p.0 one.p.1 later (sym later.turns ∙ one.turns) (ap (λ (y : OwnCall). y.started) one.is ∙ h.started)
