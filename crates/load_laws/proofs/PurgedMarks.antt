-- A part of a purge: the user's snapshot is folded into the rebuild's, and nothing else goes.
use Rattle.std.proofs.Common.{◌≡◌, ℕ, Bool, true, false, List, [], ◌∷◌}
use Rattle.std.proofs.Common.{refl, sym, ap, subst, arith, ⊎_elim}
use Rattle.std.specs.Prelude.{None, Some}
use Rattle.volume_model.specs.declared.entry.Entry.{Entry}
use Rattle.volume_model.specs.declared.entry.Entry.TheVariants as entry
use Rattle.volume_model.specs.declared.mark.FoldOrDrop.{FoldOrDrop}
use Rattle.volume_model.specs.declared.mark.FoldOrDrop.TheVariants as part
use Rattle.volume_model.specs.declared.mark.Mark.TheVariants as mark
use Rattle.volume_model.specs.Snapshots.{Snapshot}
use Rattle.volume_model.specs.Purge.{IsMarked, CanBeDone, children_of}
use Rattle.volume_model.specs.Marks.{after_mark}
use Rattle.volume_model.proofs.PurgeLemmas.{any_cases, is_marked}
use Rattle.load_laws.specs.Load.{user_name}
use Rattle.load_laws.proofs.Phases.{Phase, Begins, Taken, Falls, Fallen, Opened, Promoted, Rebuilt, Removed, Folded, Ends}
use Rattle.load_laws.proofs.Phases.{own_name, one_marked, snapshots_in, state_in}
use Rattle.load_laws.proofs.Phases.{Stands, GoesOn}
use Rattle.load_laws.proofs.MarkSteps.{goes_by}

-- none of the snapshots is to be removed
abbrev HasNoMarked : List Snapshot → Type 0
HasNoMarked [] = Unit {0}
HasNoMarked (s ∷ ss) = (s.marked ≡ false) × HasNoMarked ss

not_both : (b : Bool) → b ≡ false → b ≡ true → ⊥
not_both b e f = cc

-- so no name is that of one to be removed
none_marked : (tree : List Snapshot) (p : List ℕ) → HasNoMarked tree → IsMarked tree p → ⊥
none_marked [] p none marked = omega (arith, marked.2)
none_marked (s ∷ ss) p none marked = ⊎_elim
    (λ here. not_both s.marked none.0 here.1)
    (λ later. none_marked ss p none.1 later)
    (any_cases (λ (x : Snapshot). (x.name ≡ p) × (x.marked ≡ true)) s ss marked)

-- of two the second alone is
second_marked : (s t : Snapshot) (p : List ℕ) → s.marked ≡ false → IsMarked (s ∷ t ∷ []) p → t.name ≡ p
second_marked s t p unmarked marked = ⊎_elim
    (λ here. absurd (not_both s.marked unmarked here.1))
    (λ later. ⊎_elim (λ here. here.0) (λ none. absurd (none_marked [] p tt none))
    (any_cases (λ (x : Snapshot). (x.name ≡ p) × (x.marked ≡ true)) t [] later))
    (any_cases (λ (x : Snapshot). (x.name ≡ p) × (x.marked ≡ true)) s (t ∷ []) marked)

only_child : (c d : List ℕ) → c ∷ [] ≡ d ∷ [] → c ≡ d
only_child c d e = cc

no_child : (c : List ℕ) → c ∷ [] ≡ [] → ⊥
no_child c e = cc

same_fold : (p q c d : List ℕ) → p ≡ q → c ≡ d → part.Fold p c ≡ part.Fold q d
same_fold p q c d e f = cc

-- the snapshots there are: the rebuild's over the user's, which is to be removed
own_snapshot : Snapshot
own_snapshot = record { name = own_name; parent = Some user_name; marked = false }

user_snapshot : Snapshot
user_snapshot = record { name = user_name; parent = None; marked = true }

-- where the user's snapshot is to be removed it is folded
only_fold : (f : FoldOrDrop) → CanBeDone one_marked.tree one_marked.on f → f ≡ part.Fold user_name own_name
unfolding own_snapshot user_snapshot
only_fold (part.Fold p c) can =
    let is : user_name ≡ p = second_marked own_snapshot user_snapshot p refl can.marked in
    let child : own_name ∷ [] ≡ c ∷ [] = subst (λ n. children_of one_marked.tree n ≡ c ∷ []) (sym is) can.child in
    same_fold p user_name c own_name (sym is) (sym (only_child own_name c child))
only_fold (part.Drop p) can =
    let is : user_name ≡ p = second_marked own_snapshot user_snapshot p refl can.marked in
    absurd (no_child own_name (subst (λ n. children_of one_marked.tree n ≡ []) (sym is) can.leaf))

-- where none is to be removed nothing goes
nothing_goes : (p : Phase) (f : FoldOrDrop) → HasNoMarked (snapshots_in p).tree
    → CanBeDone (snapshots_in p).tree (snapshots_in p).on f → ⊥
nothing_goes p f none can = none_marked (snapshots_in p).tree _ none (is_marked (snapshots_in p).tree (snapshots_in p).on f can)

-- in each case of how far the control stream is
pub goes_by_purged : (slices : ℕ) (blank : List ℕ) (p : Phase) (disk : List ℕ) (before es : List Entry) (f : FoldOrDrop)
    → Stands slices blank p disk before (entry.Mark (mark.Purged f) ∷ es) → CanBeDone (snapshots_in p).tree (snapshots_in p).on f
    → GoesOn slices blank p disk before (entry.Mark (mark.Purged f)) es
goes_by_purged slices blank Begins disk before es f at can = absurd (nothing_goes Begins f tt can)
goes_by_purged slices blank Taken disk before es f at can = absurd (nothing_goes Taken f (refl, tt) can)
goes_by_purged slices blank Falls disk before es f at can = absurd (nothing_goes Falls f (refl, tt) can)
goes_by_purged slices blank Fallen disk before es f at can = absurd (nothing_goes Fallen f (refl, tt) can)
goes_by_purged slices blank Opened disk before es f at can = absurd (nothing_goes Opened f (refl, (refl, tt)) can)
goes_by_purged slices blank Promoted disk before es f at can = absurd (nothing_goes Promoted f (refl, (refl, tt)) can)
goes_by_purged slices blank Rebuilt disk before es f at can = absurd (nothing_goes Rebuilt f (refl, (refl, tt)) can)
goes_by_purged slices blank Removed disk before es f at can = goes_by slices blank Removed Folded disk before es (mark.Purged f)
    at.is.copies at (ap (λ g. after_mark (state_in Removed disk at.is.copies) (mark.Purged g)) (only_fold f can)) refl (λ r. refl)
    (λ r falls. falls) refl tt
goes_by_purged slices blank Folded disk before es f at can = absurd (nothing_goes Folded f (refl, tt) can)
goes_by_purged slices blank Ends disk before es f at can = absurd (nothing_goes Ends f (refl, tt) can)
