-- What a run says that was served, and then printed and saved.
use Rattle.std.proofs.Common.{◌≡◌, ◌≢◌, ◌⊎◌, ℕ, Bool, true, false, List, Option, Some, None, Result, Ok, Err}
use Rattle.std.proofs.Common.{OnOk, IfSome, refl, subst, inl, inr, arith}
use Rattle.std.specs.Io.KnownBytes.{Appends}
use Rattle.outer_traits.specs.Causes.{Rose, HasOuterCause, one_more}
use Rattle.outer_traits.specs.Passing.{WritesPrefix}
use Rattle.outer_traits.specs.declared.error.OuterError.{OuterError}
use Rattle.outer_traits.specs.declared.error.OuterError.TheVariants as outer_error
use Rattle.shelf_traits.specs.Files.{Files, Both}
use Rattle.control_worker.specs.Store.{TellsFault}
use Rattle.script_text.specs.declared.script.Script.{Script}
use Rattle.volume_model.specs.declared.entry.Entry.{Entry}
use Rattle.volume_folders.specs.Saved.{OnlyFoldersChange}
use Rattle.volume_cli.specs.declared.status.Status.{Status}
use Rattle.volume_cli.specs.declared.status.Status.TheVariants as status
use Rattle.volume_cli.specs.Begun.{Begin, HasBegun, HadScript}
use Rattle.volume_cli.specs.Left.{RunFact, Purpose, Prints, PrintsPrefix}
use Rattle.volume_cli.specs.Ends.{Counts, Found, Leaves}
use Rattle.volume_cli.specs.Steps.{end_status, HasPrinted, FinishCounts}

-- ---- how the two parts end

-- the count of a part says how it ended
abbrev PartEnded : {A : Type 0} → Result A OuterError → ℕ → ℕ → Type 0
PartEnded result before now = HasOuterCause before now result

pub rose_exactly : (h i : ℕ) → i ≡ one_more h → Rose h i
rose_exactly h i is = omega (arith, is)

pub finish_counts : {A B : Type 0} (lost : Bool) (written : Result A OuterError) (saved : Result B OuterError) (k l h i : ℕ)
    → HasOuterCause k l written → HasOuterCause h i saved → (written ≢ Err outer_error.NoMemory)
    → FinishCounts (end_status lost written saved) lost k l h i
finish_counts lost (Err outer_error.NoMemory) saved k l h i w s not = absurd (not refl)
finish_counts lost (Ok x) (Err outer_error.NoMemory) k l h i w s not = (inr w.cause, s.cause)
finish_counts lost (Err outer_error.Failed) (Err outer_error.NoMemory) k l h i w s not = (inl (rose_exactly k l w.cause), s.cause)
finish_counts true (Err outer_error.Failed) (Err outer_error.Failed) k l h i w s not =
    (refl, inl (rose_exactly k l w.cause), inl (rose_exactly h i s.cause))
finish_counts true (Err outer_error.Failed) (Ok y) k l h i w s not = (refl, inl (rose_exactly k l w.cause), inr s.cause)
finish_counts true (Ok x) (Err outer_error.Failed) k l h i w s not = (refl, inr w.cause, inl (rose_exactly h i s.cause))
finish_counts true (Ok x) (Ok y) k l h i w s not = (refl, inr w.cause, inr s.cause)
finish_counts false (Err outer_error.Failed) (Err outer_error.Failed) k l h i w s not =
    (refl, rose_exactly k l w.cause, inl (rose_exactly h i s.cause))
finish_counts false (Err outer_error.Failed) (Ok y) k l h i w s not = (refl, rose_exactly k l w.cause, inr s.cause)
finish_counts false (Ok x) (Err outer_error.Failed) k l h i w s not = (refl, w.cause, rose_exactly h i s.cause)
finish_counts false (Ok x) (Ok y) k l h i w s not = (refl, w.cause, s.cause)

-- what was printed whole
pub finish_printed : {A B : Type 0} (lost : Bool) (written : Result A OuterError) (saved : Result B OuterError) (k l : ℕ) (P : Type 0)
    → HasOuterCause k l written → OnOk written P → HasPrinted (end_status lost written saved) k l P
finish_printed lost (Err outer_error.NoMemory) saved k l P w whole = tt
finish_printed lost (Ok x) (Err outer_error.NoMemory) k l P w whole = tt
finish_printed lost (Err outer_error.Failed) (Err outer_error.NoMemory) k l P w whole = tt
finish_printed true (Err outer_error.Failed) (Err outer_error.Failed) k l P w whole = inl (rose_exactly k l w.cause)
finish_printed true (Err outer_error.Failed) (Ok y) k l P w whole = inl (rose_exactly k l w.cause)
finish_printed true (Ok x) (Err outer_error.Failed) k l P w whole = inr whole
finish_printed true (Ok x) (Ok y) k l P w whole = inr whole
finish_printed false (Err outer_error.Failed) (Err outer_error.Failed) k l P w whole = tt
finish_printed false (Err outer_error.Failed) (Ok y) k l P w whole = tt
finish_printed false (Ok x) (Err outer_error.Failed) k l P w whole = whole
finish_printed false (Ok x) (Ok y) k l P w whole = whole

-- what was saved, where the shelves did not fail and memory did not run out
pub finish_saved : {A B : Type 0} (lost : Bool) (written : Result A OuterError) (saved : Result B OuterError) (h i : ℕ) (P : Type 0)
    → HasOuterCause h i saved → OnOk saved P → (Rose h i → ⊥) → end_status lost written saved ≢ status.NoMemory → P
finish_saved lost written (Ok y) h i P s is well not = is
finish_saved lost written (Err outer_error.Failed) h i P s is well not = absurd (well (rose_exactly h i s.cause))
finish_saved lost (Ok x) (Err outer_error.NoMemory) h i P s is well not = absurd (not refl)
finish_saved lost (Err outer_error.Failed) (Err outer_error.NoMemory) h i P s is well not = absurd (not refl)
finish_saved lost (Err outer_error.NoMemory) (Err outer_error.NoMemory) h i P s is well not = absurd (not refl)

-- the same of the time of a run that saves, if it does
pub finish_saving : {A B T : Type 0} (lost : Bool) (written : Result A OuterError) (saved : Result B OuterError) (h i : ℕ)
    (saving : Option T) (P : T → Type 0) → HasOuterCause h i saved → OnOk saved (IfSome saving P)
    → IfSome saving (λ time. (Rose h i → ⊥) → end_status lost written saved ≢ status.NoMemory → P time)
finish_saving lost written saved h i None P s is = tt
finish_saving lost written saved h i (Some time) P s is = λ well not. finish_saved lost written saved h i (P time) s is well not

-- nothing changes where nothing is done
pub both_same : (held : Option Files) (count : ℕ) → Both held held (OnlyFoldersChange count)
both_same None count = tt
both_same (Some files) count = λ s f other. refl

-- ---- at the end of a run

rose_or_not : (lost : Bool) (m n : ℕ) → TellsFault lost m n → Rose m n ⊎ (n ≡ m)
rose_or_not true m n tells = inl tells
rose_or_not false m n tells = inr tells

-- what is told by the count of a target that failed, or not
by_count : (lost is : Bool) (m n : ℕ) → lost ≡ is → TellsFault lost m n → TellsFault is m n
by_count lost is m n same tells = subst (λ b. TellsFault b m n) same tells

pub run_counts : (st : Status) (lost : Bool) (s t k l h i m n : ℕ) → t ≡ s → FinishCounts st lost k l h i → TellsFault lost m n
    → Counts st s t k l h i m n
run_counts status.Done lost s t k l h i m n read c tells = (read, c.1, c.2, by_count lost false m n c.0 tells)
run_counts status.Usage lost s t k l h i m n read c tells = absurd c
run_counts (status.Script place what) lost s t k l h i m n read c tells = absurd c
run_counts status.ReadFault lost s t k l h i m n read c tells = absurd c
run_counts status.WriteFault lost s t k l h i m n read c tells = (read, c.1, c.2, by_count lost false m n c.0 tells)
run_counts status.ShelfFault lost s t k l h i m n read c tells = (read, c.1, c.2, by_count lost false m n c.0 tells)
run_counts status.TargetFault lost s t k l h i m n read c tells = (read, c.1, c.2, by_count lost true m n c.0 tells)
run_counts status.NoMemory lost s t k l h i m n read c tells = (read, c.0, c.1, rose_or_not lost m n tells)
run_counts (status.NoCleanShelf reasons) lost s t k l h i m n read c tells = absurd c
run_counts (status.Refused kind name) lost s t k l h i m n read c tells = absurd c
run_counts (status.Frame place) lost s t k l h i m n read c tells = absurd c
run_counts status.DoorFault lost s t k l h i m n read c tells = absurd c

pub run_found : (left : Option (List ℕ)) (held : Option Files) (script : Script) (begin : Begin) (st : Status) (lost : Bool)
    (k l h i : ℕ) → HadScript left script → HasBegun held script begin → FinishCounts st lost k l h i → Found left held st
run_found left held script begin status.Done lost k l h i had begun c = (script, had, (begin, begun))
run_found left held script begin status.Usage lost k l h i had begun c = absurd c
run_found left held script begin (status.Script place what) lost k l h i had begun c = absurd c
run_found left held script begin status.ReadFault lost k l h i had begun c = absurd c
run_found left held script begin status.WriteFault lost k l h i had begun c = (script, had, (begin, begun))
run_found left held script begin status.ShelfFault lost k l h i had begun c = (script, had)
run_found left held script begin status.TargetFault lost k l h i had begun c = (script, had, (begin, begun))
run_found left held script begin status.NoMemory lost k l h i had begun c = tt
run_found left held script begin (status.NoCleanShelf reasons) lost k l h i had begun c = absurd c
run_found left held script begin (status.Refused kind name) lost k l h i had begun c = absurd c
run_found left held script begin (status.Frame place) lost k l h i had begun c = absurd c
run_found left held script begin status.DoorFault lost k l h i had begun c = absurd c

-- what is left of a run that was served
module _ (purpose : Purpose) (Runs : RunFact) (same untouched still spared : Type 0) (old new : Option (List ℕ)) (script : Script)
    (begin : Begin) (journal : List Entry) (had : purpose.Had script) where
  abbrev IsWhole : Type 0
  IsWhole = Appends old new (purpose.text script begin journal)

  abbrev IsPrefix : Type 0
  IsPrefix = WritesPrefix old new (purpose.text script begin journal)

  whole_of : (st : Status) → Runs st script begin journal → IsWhole → Prints purpose Runs st old new
  whole_of st runs whole =
      record { script = script; begin = begin; journal = journal; had = had; runs = runs; whole = whole }

  prefix_of : (st : Status) → Runs st script begin journal → IsPrefix → PrintsPrefix purpose Runs st old new
  prefix_of st runs prefix =
      record { script = script; begin = begin; journal = journal; had = had; runs = runs; prefix = prefix }

  -- where its target failed
  lost_leaves : (fell : Type 0) → Runs status.TargetFault script begin journal → fell ⊎ IsWhole → IsPrefix
      → Leaves purpose Runs same untouched still spared fell old new status.TargetFault
  lost_leaves fell runs (inl falls) prefix = inr (falls, prefix_of status.TargetFault runs prefix)
  lost_leaves fell runs (inr whole) prefix = inl (whole_of status.TargetFault runs whole)

  pub run_leaves : (st : Status) (lost : Bool) (k l h i : ℕ) → Runs st script begin journal → HasPrinted st k l IsWhole → IsPrefix
      → FinishCounts st lost k l h i → Leaves purpose Runs same untouched still spared (Rose k l) old new st
  run_leaves status.Done lost k l h i runs whole prefix c = whole_of status.Done runs whole
  run_leaves status.Usage lost k l h i runs whole prefix c = absurd c
  run_leaves (status.Script place what) lost k l h i runs whole prefix c = absurd c
  run_leaves status.ReadFault lost k l h i runs whole prefix c = absurd c
  run_leaves status.WriteFault lost k l h i runs whole prefix c = prefix_of status.WriteFault runs prefix
  run_leaves status.ShelfFault lost k l h i runs whole prefix c = inr (whole_of status.ShelfFault runs whole)
  run_leaves status.TargetFault lost k l h i runs whole prefix c = lost_leaves (Rose k l) runs whole prefix
  run_leaves status.NoMemory lost k l h i runs whole prefix c = inr (prefix_of status.NoMemory runs prefix)
  run_leaves (status.NoCleanShelf reasons) lost k l h i runs whole prefix c = absurd c
  run_leaves (status.Refused kind name) lost k l h i runs whole prefix c = absurd c
  run_leaves (status.Frame place) lost k l h i runs whole prefix c = absurd c
  run_leaves status.DoorFault lost k l h i runs whole prefix c = absurd c
