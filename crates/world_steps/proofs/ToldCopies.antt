-- The copies that a World tells, from one World to a later one, and at the entries of a stream.
use Rattle.std.proofs.Common.{◌≡◌, ℕ, zero, suc, ◌<◌, Bool, true, false, cond, List, [], ◌∷◌, ◌++◌, length, Option, Some, None}
use Rattle.std.proofs.Common.{inl, inr, arith, refl, sym, ap, subst, ◌∙◌}
use Rattle.std.specs.Prelude.{slice_index_or}
use Rattle.std.specs.List.{Contains}
use Rattle.backup_make.specs.Giving.{HasCopy}
use Rattle.volume_model.specs.declared.entry.Entry.{Entry}
use Rattle.volume_model.specs.declared.entry.Entry.TheVariants as entry
use Rattle.volume_model.specs.declared.mark.Mark.TheVariants as mark
use Rattle.volume_model.specs.Copies.{IsCopyOf, RemovesNone}
use Rattle.volume_model.specs.History.{Spot, IsLegal, LegalAfter}
use Rattle.volume_model.specs.Names.{AreNamed}
use Rattle.volume_model.specs.OneWorker.{behind_entries}
use Rattle.volume_model.specs.PlainState.{copy_of}
use Rattle.volume_model.specs.Replay.{replay}
use Rattle.volume_model.proofs.KeptCopies.{keeps_copy}
use Rattle.volume_model.proofs.NamesLemmas.{stands, next, named_entry}
use Rattle.volume_core.specs.State.{State, opening_of, told_of}
use Rattle.volume_core.specs.Sound.{IsSound}
use Rattle.volume_core.specs.Streams.{MayGo, IsBehindMark}
use Rattle.volume_core.proofs.Copies.{told_copies}
use Rattle.volume_backup.specs.Copies.{IsLive, copy_told, copies_told}
use Rattle.volume_backup.proofs.Covers.{has_live}
use Rattle.volume_backup.proofs.Kept.{HadCopy, has_now, had_behind, had_told}
use Rattle.stream_steps.specs.Mine.{Placed}
use Rattle.stream_steps.specs.Backup.{KeepsCopies, KeepsTold}
use Rattle.world_holder.specs.Counted.{AreCopiesKept}
use Rattle.world_holder.specs.View.{is_own, own_entries, view}
use Rattle.world_holder.proofs.Grow.{same_opening}

-- ---- a copy that is told is the volume's

pub told_is : (s : State) (name disk : List ℕ) → copies_told s name ≡ Some disk → IsCopyOf (told_of s).volume name disk
told_is s name disk has =
    let live = has_live (told_of s).volume name disk has in
    record { live = live.0; copy = sym live.1 }

pub is_told : (s : State) (name disk : List ℕ) → IsCopyOf (told_of s).volume name disk → copies_told s name ≡ Some disk
is_told s name disk is =
    ap (λ (b : Bool). cond b (Some (copy_of (told_of s).volume.copies name)) None) is.live ∙ ap Some is.copy

pub told_kept : (s u : State) → AreCopiesKept s u → KeepsCopies (copies_told s) (copies_told u)
told_kept s u kept name disk has = is_told u name disk (kept name disk (told_is s name disk has))

-- it is as long as the disk
pub told_long : (s : State) (name : List ℕ) → IsSound s → IsLive s name → HasCopy (copies_told s name) s.size
told_long s name ok live =
    subst (λ (o : Option (List ℕ)). HasCopy o s.size)
    (sym (is_told s name (copy_told s name) (record { live = live; copy = refl }))) ((told_copies s ok).copy name live)

-- ---- where a World grows by entries that remove none

pub grown_copies : (n : ℕ) (x y : State) (es : List Entry) → IsSound x → MayGo n x y → y.book.entries ≡ x.book.entries ++ es
    → ((name : List ℕ) → RemovesNone name es) → AreCopiesKept x y
grown_copies n x y es ok may added none name disk is =
    let o = opening_of x in
    let same : opening_of y ≡ o = same_opening x y may.origin in
    let legal : IsLegal o (x.book.entries ++ es) = subst (λ (q : Spot). IsLegal q (x.book.entries ++ es)) same
    (subst (IsLegal (opening_of y)) added may.sound.on.told.legal) in
    let kept = keeps_copy o x.book.entries es name disk ok.on.told.legal legal ok.on.opened.named (none name) is in
    subst (λ (q : Spot). IsCopyOf (replay q.state y.book.entries).volume name disk) (sym same)
    (subst (λ (l : List Entry). IsCopyOf (replay o.state l).volume name disk) (sym added) kept)

-- a fault of a line does, with the end of a rebuild behind it
pub fault_removes : (n r count : ℕ) (ends : List Entry) → IsBehindMark ends → (name : List ℕ)
    → RemovesNone name (entry.Mark (mark.Fault n r count) ∷ ends)
fault_removes n r count ends (inl none) name = subst (RemovesNone name) (sym none) tt
fault_removes n r count ends (inr one) name = subst (RemovesNone name) (sym one.1) tt

-- ---- at the entries of a stream

-- what is so of the first and of the others is so of each
each_of : (P : Placed → Type 0) (q : Placed) (qs : List Placed) → P q → ((p : Placed) → Contains qs p → P p)
    → (p : Placed) → Contains (q ∷ qs) p → P p
each_of P q qs first more p has = by has.0 has.1 has.2
  where
    by : (k : ℕ) → k < length (q ∷ qs) → slice_index_or (q ∷ qs) k p ≡ p → P p
    by zero within is = subst P is first
    by (suc k) within is = more p (k, omega (arith, within), is)

-- a snapshot that could be used at one of them has that copy still, if it can be used behind all
module _ (n : ℕ) (opening : Spot) (name disk : List ℕ) where
  abbrev HadAt : Spot → List Entry → Placed → Type 0
  HadAt spot es p = IsCopyOf p.spot.state.volume name disk → HadCopy (replay spot.state es) name disk

  had_at : (before : List Entry) (spot : Spot) (es : List Entry) → replay opening.state before ≡ spot.state
      → LegalAfter opening before es → AreNamed spot.state → (p : Placed) → Contains (own_entries n spot es) p → HadAt spot es p
  had_at before spot [] at legal named p has = absurd (omega (arith, has.1))
  had_at before spot (e ∷ es) at legal named p has =
      let then : Spot = behind_entries spot (e ∷ []) in
      by (is_own n e) (λ is. had_behind opening before spot.state (e ∷ es) name disk at legal named (has_now spot.state name disk named is))
      (had_at (before ++ e ∷ []) then es (next opening before spot.state e at) legal.1
      (named_entry spot.state e (stands opening before spot.state e es at legal.0) named)) p has
    where
      by : (own : Bool) → HadAt spot (e ∷ es) (record { spot = spot; entry = e })
          → ((p : Placed) → Contains (own_entries n (behind_entries spot (e ∷ [])) es) p → HadAt spot (e ∷ es) p)
          → (p : Placed)
          → Contains (cond own (record { spot = spot; entry = e } ∷ own_entries n (behind_entries spot (e ∷ [])) es)
          (own_entries n (behind_entries spot (e ∷ [])) es)) p → HadAt spot (e ∷ es) p
      by true first more = each_of (HadAt spot (e ∷ es)) (record { spot = spot; entry = e })
          (own_entries n (behind_entries spot (e ∷ [])) es) first more
      by false first more = more

pub told_again : (a : Bool) (n : ℕ) (s : State) → IsSound s → KeepsTold (view a n s) (copies_told s)
told_again a n s ok p has name disk is =
    let o = opening_of s in
    had_told (told_of s) name disk
    (had_at n o name disk [] o s.book.entries refl ok.on.told.legal ok.on.opened.named p has is)
