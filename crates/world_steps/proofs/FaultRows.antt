-- What a fault of a stream's line makes of what the stream knows.
use Rattle.std.proofs.Common.{◌≡◌, ⊎_elim, ℕ, Bool, [], subst, sym, ap, ◌∙◌, true, ◌++◌, append_assoc, None}
use Rattle.std.proofs.Common.{Some, zero, suc, false, List, ◌∷◌, map, set, inl, inr, refl}
use Rattle.volume_model.specs.declared.mode.Mode.TheVariants.{Err}
use Rattle.volume_model.specs.Modes.{mode_of, modes_after}
use Rattle.volume_model.specs.declared.mode.Mode.{Mode}
use Rattle.volume_model.proofs.StepLemmas.{modes_after-append}
use Rattle.volume_model.specs.declared.entry.Entry.{Entry}
use Rattle.volume_model.specs.declared.mark.Mark.{Mark}
use Rattle.volume_model.specs.declared.entry.Entry.TheVariants as entry
use Rattle.volume_model.specs.declared.mark.Mark.TheVariants as mark
use Rattle.open_calls.specs.Calls.{begun}
use Rattle.open_rebuild.specs.declared.rebuilding.Rebuilding.{Rebuilding}
use Rattle.volume_core.specs.State.{State, spot_of, modes_in}
use Rattle.volume_core.specs.Steps.{faulted, marked, aborted}
use Rattle.volume_core.specs.Streams.{running, turning, MayGo}
use Rattle.volume_core.proofs.FarLemmas.{GoesOn, Aborts, behind}
use Rattle.volume_core.specs.Sound.{IsSound}
use Rattle.stream_steps.specs.Steps.{FaultsTo, AreAborts}
use Rattle.stream_steps.specs.Mine.{with_entries, fault_placed}
use Rattle.world_holder.proofs.Open.{of_all, no_commands}
use Rattle.world_holder.proofs.Entries.{own_fault}
use Rattle.world_holder.proofs.Grow.{grown_by}
use Rattle.world_holder.specs.View.{own_turn, own_at, runs, own_entries, view, IsAlone}
use Rattle.world_steps.proofs.Rest.{no_rebuild}

-- a fault of its line, behind which the rebuild may have ended that was open
pub record ShowsFault (n r count : ℕ) (s s2 : State) : Type 0 where
  pub ends : List Entry
  pub entries : s2.book.entries ≡ s.book.entries ++ entry.Mark (mark.Fault n r count) ∷ ends
  pub alone : s.rebuild ≡ None → ends ≡ []
  pub own : own_entries n (spot_of s) (entry.Mark (mark.Fault n r count) ∷ ends) ≡ fault_placed (spot_of s) n r count ∷ []
  pub running : running s2 n ≡ running s n
  pub turning : turning s2 n ≡ turning s n
  pub whole : s2.whole ≡ s.whole
  pub are : AreAborts ends
  pub modes : mode_of (modes_in s2) r ≡ Err

failed_mode : (modes : List Mode) (r : ℕ) → mode_of (set modes r Err) r ≡ Err
failed_mode [] r = refl
failed_mode (m ∷ ms) zero = refl
failed_mode (m ∷ ms) (suc r) = failed_mode ms r

-- and stays so as another fails
still_failed : (modes : List Mode) (q r : ℕ) → mode_of modes r ≡ Err → mode_of (set modes q Err) r ≡ Err
still_failed [] q r e = refl
still_failed (m ∷ ms) zero zero e = refl
still_failed (m ∷ ms) zero (suc r) e = e
still_failed (m ∷ ms) (suc q) zero e = e
still_failed (m ∷ ms) (suc q) (suc r) e = still_failed ms q r e

module _ (n r count : ℕ) (s : State) where
  abbrev its_mark : Mark
  its_mark = mark.Fault n r count

  goes_on : ShowsFault n r count s (marked s its_mark)
  goes_on = record {
    ends = [];
    entries = refl;
    alone = λ e. refl;
    own = own_fault n r count (spot_of s);
    running = refl;
    turning = refl;
    whole = refl;
    are = inl refl;
    modes = ap (λ (ms : List Mode). mode_of ms r) (modes_after-append s.book.opening.modes s.book.entries (entry.Mark its_mark ∷ []))
        ∙ failed_mode (modes_in s) r;
  }

  aborts : (b : Rebuilding) → s.rebuild ≡ Some b → ShowsFault n r count s (aborted (marked s its_mark) b.target)
  aborts b begun = record {
    ends = entry.Mark (mark.Aborted b.target) ∷ [];
    entries = append_assoc s.book.entries (entry.Mark its_mark ∷ []) (entry.Mark (mark.Aborted b.target) ∷ []);
    alone = λ none. absurd (some_begun (sym begun ∙ none));
    own = own_fault n r count (spot_of s);
    running = refl;
    turning = refl;
    whole = refl;
    are = inr (b.target, refl);
    modes = ap (λ (ms : List Mode). mode_of ms r)
        (modes_after-append s.book.opening.modes (s.book.entries ++ entry.Mark its_mark ∷ [])
        (entry.Mark (mark.Aborted b.target) ∷ []))
        ∙ still_failed (modes_after s.book.opening.modes (s.book.entries ++ entry.Mark its_mark ∷ [])) b.target r goes_on.modes;
  }
    where
      some_begun : Some b ≡ None → ⊥
      some_begun e = cc

  pub shows_fault : (s2 : State) → s2 ≡ faulted s n r count → ShowsFault n r count s s2
  shows_fault s2 e = subst (ShowsFault n r count s) (sym e) (⊎_elim
      (λ (x : GoesOn (marked s its_mark) r (faulted s n r count)). subst (ShowsFault n r count s) (sym x.state) goes_on)
      (λ (x : Aborts (marked s its_mark) r (faulted s n r count)). subst (ShowsFault n r count s) (sym x.state) (aborts x.b x.begun))
      (behind (marked s its_mark) r))

-- ---- its row

-- one that is alone, and has no command of the turn, has no rebuild either
pub alone_calm : (n : ℕ) (s : State) → IsSound s → IsAlone n s → turning s n ≡ [] → s.rebuild ≡ None
alone_calm n s ok alone turns = no_rebuild s ok (no_commands s ok (of_all n (turning s) [] turns alone.turns))

-- how it shows: the whole journal has the end of the rebuild too
pub fault_grown : (a : Bool) (n r count : ℕ) (s s2 : State) → MayGo n s s2 → (f : ShowsFault n r count s s2)
    → view a n s2 ≡ with_entries (view a n s) (fault_placed (spot_of s) n r count ∷ [])
    (entry.Mark (mark.Fault n r count) ∷ f.ends) (runs n s)
fault_grown a n r count s s2 may f = grown_by n s s2 may a (fault_placed (spot_of s) n r count ∷ []) (runs n s)
    (entry.Mark (mark.Fault n r count) ∷ f.ends) f.entries f.own
    (λ i. map own_turn (f.turning i) ++ map (own_at (f.whole i)) (f.running i))

pub fault_row : (a : Bool) (n r count : ℕ) (s s2 : State) → MayGo n s s2 → (a ≡ true → s.rebuild ≡ None)
    → s2 ≡ faulted s n r count → FaultsTo r count (view a n s) (view a n s2)
fault_row true n r count s s2 may calm e =
    let shows = shows_fault n r count s s2 e in
    record {
      spot = spot_of s;
      is = fault_grown true n r count s s2 may shows
          ∙ ap (λ (l : List Entry). with_entries (view true n s) (fault_placed (spot_of s) n r count ∷ [])
          (entry.Mark (mark.Fault n r count) ∷ l) (runs n s)) (shows.alone (calm refl));
    }
fault_row false n r count s s2 may calm e =
    record { spot = spot_of s; is = fault_grown false n r count s s2 may (shows_fault n r count s s2 e) }
