-- What the status of a run says at the top, of the counts of faults and of what was found.
use Rattle.std.proofs.Common.{◌≡◌, ◌↔◌, ℕ, ◌<◌, ◌-◌, ◌^◌, Bool, Option, Some, None, IfSome}
use Rattle.std.proofs.Common.{List, [], String, refl, ap, subst, ◌∙◌, inl, inr, arith}
use Rattle.outer_traits.specs.Causes.{Rose}
use Rattle.shelf_traits.specs.Files.{Files}
use Rattle.target_traits.specs.Objects.{Objects}
use Rattle.script_text.specs.declared.script.Script.{Script}
use Rattle.script_text.specs.declared.what.What.{What}
use Rattle.script_text.specs.Script.{IsScript, IsNoScript}
use Rattle.script_text.proofs.OneAnswer.{one_refusal, not_both}
use Rattle.volume_cli.specs.declared.status.Status.{Status}
use Rattle.volume_cli.specs.declared.status.Status.TheVariants as status
use Rattle.volume_cli.specs.Begun.{CanBegin, CannotBegin}
use Rattle.volume_cli.specs.Ends.{Counts, Found}
use Rattle.volume_cli.specs.Headline.{AskRun, IsStatus, ExactlyWhere, TellsNoCleanShelf, RefusedOnly}
use Rattle.volume_cli.proofs.Beginnings.{had_no_refusal, had_begun, had_not_begun}

-- a count below its type's end that rose is greater
pub rose_more : (h i : ℕ) → h < 2 ^ 64 - 1 → Rose h i → h < i
rose_more h i low rose = omega (arith, low, rose)

more_rose : (h i : ℕ) → h < i → Rose h i
more_rose h i more = omega (arith, more)

pub rose_not_same : (h i : ℕ) → h < 2 ^ 64 - 1 → Rose h i → i ≡ h → ⊥
rose_not_same h i low rose same = omega (arith, low, rose, same)

pub same_not_more : (h i : ℕ) → i ≡ h → h < i → ⊥
same_not_more h i same more = omega (arith, same, more)

-- what the counts are of: source (s, then t), sink (k, then l), shelves (h, then i), target (m, then n)
module _ (s t k l h i m n : ℕ) (low_s : s < 2 ^ 64 - 1) (low_k : k < 2 ^ 64 - 1) (low_h : h < 2 ^ 64 - 1)
    (low_m : m < 2 ^ 64 - 1) where
  abbrev HasCounts : Status → Type 0
  HasCounts st = Counts st s t k l h i m n

  -- ---- what each status comes with

  by_read : (st : Status) → HasCounts st → st ≡ status.ReadFault → s < t
  by_read st counts is = rose_more s t low_s (subst HasCounts is counts).0

  by_write : (st : Status) → HasCounts st → st ≡ status.WriteFault → (k < l) × (n ≡ m)
  by_write st counts is = let c = subst HasCounts is counts in (rose_more k l low_k c.1, c.3)

  by_shelf : (st : Status) → HasCounts st → st ≡ status.ShelfFault → (h < i) × (l ≡ k) × (n ≡ m)
  by_shelf st counts is = let c = subst HasCounts is counts in (rose_more h i low_h c.2, c.1, c.3)

  by_target : (st : Status) → HasCounts st → st ≡ status.TargetFault → m < n
  by_target st counts is = rose_more m n low_m (subst HasCounts is counts).3

  -- ---- and which status what comes with

  read_by : (st : Status) → HasCounts st → s < t → st ≡ status.ReadFault
  read_by status.Done c more = absurd (same_not_more s t c.0 more)
  read_by status.Usage c more = absurd (same_not_more s t c.0 more)
  read_by (status.Script place what) c more = absurd (same_not_more s t c.0 more)
  read_by status.ReadFault c more = refl
  read_by status.WriteFault c more = absurd (same_not_more s t c.0 more)
  read_by status.ShelfFault c more = absurd (same_not_more s t c.0 more)
  read_by status.TargetFault c more = absurd (same_not_more s t c.0 more)
  read_by status.NoMemory c more = absurd (same_not_more s t c.0 more)
  read_by (status.NoCleanShelf reasons) c more = absurd (same_not_more s t c.0 more)
  read_by (status.Refused kind name) c more = absurd (same_not_more s t c.0 more)
  read_by (status.Frame place) c more = absurd (same_not_more s t c.0 more)
  read_by status.DoorFault c more = absurd (same_not_more s t c.0 more)

  write_by : (st : Status) → HasCounts st → (k < l) × (n ≡ m) → IsStatus st status.WriteFault
  write_by status.Done c more = absurd (same_not_more k l c.1 more.0)
  write_by status.Usage c more = absurd (same_not_more k l c.1 more.0)
  write_by (status.Script place what) c more = absurd (same_not_more k l c.1 more.0)
  write_by status.ReadFault c more = absurd (same_not_more k l c.1 more.0)
  write_by status.WriteFault c more = inl refl
  write_by status.ShelfFault c more = absurd (same_not_more k l c.1 more.0)
  write_by status.TargetFault c more = absurd (rose_not_same m n low_m c.3 more.1)
  write_by status.NoMemory c more = inr refl
  write_by (status.NoCleanShelf reasons) c more = absurd (same_not_more k l c.1 more.0)
  write_by (status.Refused kind name) c more = absurd (same_not_more k l c.1 more.0)
  write_by (status.Frame place) c more = absurd (same_not_more k l c.1 more.0)
  write_by status.DoorFault c more = absurd (same_not_more k l c.1 more.0)

  shelf_by : (st : Status) → HasCounts st → (h < i) × (l ≡ k) × (n ≡ m) → st ≡ status.ShelfFault
  shelf_by status.Done c more = absurd (same_not_more h i c.2 more.0)
  shelf_by status.Usage c more = absurd (same_not_more h i c.2 more.0)
  shelf_by (status.Script place what) c more = absurd (same_not_more h i c.2 more.0)
  shelf_by status.ReadFault c more = absurd (same_not_more h i c.2 more.0)
  shelf_by status.WriteFault c more = absurd (rose_not_same k l low_k c.1 more.1)
  shelf_by status.ShelfFault c more = refl
  shelf_by status.TargetFault c more = absurd (rose_not_same m n low_m c.3 more.2)
  shelf_by status.NoMemory c more = absurd (same_not_more h i c.2 more.0)
  shelf_by (status.NoCleanShelf reasons) c more = absurd (same_not_more h i c.2 more.0)
  shelf_by (status.Refused kind name) c more = absurd (same_not_more h i c.2 more.0)
  shelf_by (status.Frame place) c more = absurd (same_not_more h i c.2 more.0)
  shelf_by status.DoorFault c more = absurd (same_not_more h i c.2 more.0)

  target_by : (st : Status) → HasCounts st → m < n → IsStatus st status.TargetFault
  target_by status.Done c more = absurd (same_not_more m n c.3 more)
  target_by status.Usage c more = absurd (same_not_more m n c.3 more)
  target_by (status.Script place what) c more = absurd (same_not_more m n c.3 more)
  target_by status.ReadFault c more = absurd (same_not_more m n c.3 more)
  target_by status.WriteFault c more = absurd (same_not_more m n c.3 more)
  target_by status.ShelfFault c more = absurd (same_not_more m n c.3 more)
  target_by status.TargetFault c more = inl refl
  target_by status.NoMemory c more = inr refl
  target_by (status.NoCleanShelf reasons) c more = absurd (same_not_more m n c.3 more)
  target_by (status.Refused kind name) c more = absurd (same_not_more m n c.3 more)
  target_by (status.Frame place) c more = absurd (same_not_more m n c.3 more)
  target_by status.DoorFault c more = absurd (same_not_more m n c.3 more)

  -- the clauses of the top call

  pub read_fault : (st : Status) → HasCounts st → st ≡ status.ReadFault ↔ s < t
  read_fault st c = (by_read st c, read_by st c)

  pub write_fault : (st : Status) → HasCounts st → ExactlyWhere st status.WriteFault ((k < l) × (n ≡ m))
  write_fault st c = (by_write st c, write_by st c)

  pub shelf_fault : (st : Status) → HasCounts st → st ≡ status.ShelfFault ↔ (h < i) × (l ≡ k) × (n ≡ m)
  shelf_fault st c = (by_shelf st c, shelf_by st c)

  pub target_fault : (st : Status) → HasCounts st → ExactlyWhere st status.TargetFault (m < n)
  target_fault st c = (by_target st c, target_by st c)

  pub done_counts : (st : Status) → HasCounts st → st ≡ status.Done → (t ≡ s) × (l ≡ k) × (i ≡ h) × (n ≡ m)
  done_counts st counts is = subst HasCounts is counts

  -- ---- of what was found

  module _ (told : List ℕ) (held : Option Files) where
    -- a script that is none is refused
    pub refuses : (st : Status) → HasCounts st → Found (Some told) held st → t ≡ s
        → (place : ℕ) (what : What) → IsNoScript told place what → IsStatus st (status.Script place what)
    refuses status.Done c (script, had, (begin, begun)) same place what bad = absurd (had_no_refusal told script place what had bad)
    refuses status.Usage c found same place what bad = absurd found
    refuses (status.Script p w) c found same place what bad =
        let one = one_refusal told p place w what found bad in
        inl (ap (λ q. status.Script q w) one.0 ∙ ap (status.Script place) one.1)
    refuses status.ReadFault c found same place what bad = absurd (rose_not_same s t low_s c.0 same)
    refuses status.WriteFault c (script, had, (begin, begun)) same place what bad = absurd (had_no_refusal told script place what had bad)
    refuses status.ShelfFault c (script, had) same place what bad = absurd (had_no_refusal told script place what had bad)
    refuses status.TargetFault c (script, had, (begin, begun)) same place what bad =
        absurd (had_no_refusal told script place what had bad)
    refuses status.NoMemory c found same place what bad = inr refl
    refuses (status.NoCleanShelf reasons) c (script, had, none) same place what bad =
        absurd (had_no_refusal told script place what had bad)
    refuses (status.Refused kind name) c found same place what bad = absurd found
    refuses (status.Frame place) c found same at what bad = absurd found
    refuses status.DoorFault c found same at what bad = absurd found

    -- of folders of which none is clean, that is told
    pub tells_none : (st : Status) → HasCounts st → Found (Some told) held st → t ≡ s → i ≡ h
        → (script : Script) → IsScript told script → CannotBegin held script → TellsNoCleanShelf st
    tells_none status.Done c (other, had, (begin, begun)) same still script is cannot =
        absurd (had_begun told held other script begin had begun is cannot)
    tells_none status.Usage c found same still script is cannot = absurd found
    tells_none (status.Script p w) c found same still script is cannot = absurd (not_both told script p w is found)
    tells_none status.ReadFault c found same still script is cannot = absurd (rose_not_same s t low_s c.0 same)
    tells_none status.WriteFault c (other, had, (begin, begun)) same still script is cannot =
        absurd (had_begun told held other script begin had begun is cannot)
    tells_none status.ShelfFault c found same still script is cannot = absurd (rose_not_same h i low_h c.2 still)
    tells_none status.TargetFault c (other, had, (begin, begun)) same still script is cannot =
        absurd (had_begun told held other script begin had begun is cannot)
    tells_none status.NoMemory c found same still script is cannot = ([], inr refl)
    tells_none (status.NoCleanShelf reasons) c found same still script is cannot = (reasons, inl refl)
    tells_none (status.Refused kind name) c found same still script is cannot = absurd found
    tells_none (status.Frame place) c found same still script is cannot = absurd found
    tells_none status.DoorFault c found same still script is cannot = absurd found

    -- and what can be run is done, where nothing fails
    pub completes : (st : Status) → HasCounts st → Found (Some told) held st → t ≡ s → l ≡ k → i ≡ h → n ≡ m
        → (script : Script) → IsScript told script → CanBegin held script → IsStatus st status.Done
    completes status.Done c found same dry still well script is can = inl refl
    completes status.Usage c found same dry still well script is can = absurd found
    completes (status.Script p w) c found same dry still well script is can = absurd (not_both told script p w is found)
    completes status.ReadFault c found same dry still well script is can = absurd (rose_not_same s t low_s c.0 same)
    completes status.WriteFault c found same dry still well script is can = absurd (rose_not_same k l low_k c.1 dry)
    completes status.ShelfFault c found same dry still well script is can = absurd (rose_not_same h i low_h c.2 still)
    completes status.TargetFault c found same dry still well script is can = absurd (rose_not_same m n low_m c.3 well)
    completes status.NoMemory c found same dry still well script is can = inr refl
    completes (status.NoCleanShelf reasons) c (other, had, none) same dry still well script is can =
        absurd (had_not_begun told held other script reasons had none is can)
    completes (status.Refused kind name) c found same dry still well script is can = absurd found
    completes (status.Frame place) c found same dry still well script is can = absurd found
    completes status.DoorFault c found same dry still well script is can = absurd found

  -- the same where the source may tell nothing
  module _ (left : Option (List ℕ)) (held : Option Files) (st : Status) (c : HasCounts st)
      (found : Found left held st) where
    pub script_clause : t ≡ s → IfSome left (λ input. (place : ℕ) (what : What)
        → IsNoScript input place what → IsStatus st (status.Script place what))
    script_clause same = by left found
      where
        by : (left : Option (List ℕ)) → Found left held st → IfSome left (λ input. (place : ℕ) (what : What)
            → IsNoScript input place what → IsStatus st (status.Script place what))
        by None found = tt
        by (Some told) found = refuses told held st c found same

    pub no_clean_clause : t ≡ s → i ≡ h → IfSome left (λ input. (script : Script)
        → IsScript input script → CannotBegin held script → TellsNoCleanShelf st)
    no_clean_clause same still = by left found
      where
        by : (left : Option (List ℕ)) → Found left held st → IfSome left (λ input. (script : Script)
            → IsScript input script → CannotBegin held script → TellsNoCleanShelf st)
        by None found = tt
        by (Some told) found = tells_none told held st c found same still

    pub complete_clause : t ≡ s → l ≡ k → i ≡ h → n ≡ m → IfSome left (λ input. (script : Script)
        → IsScript input script → CanBegin held script → IsStatus st status.Done)
    complete_clause same dry still well = by left found
      where
        by : (left : Option (List ℕ)) → Found left held st → IfSome left (λ input. (script : Script)
            → IsScript input script → CanBegin held script → IsStatus st status.Done)
        by None found = tt
        by (Some told) found = completes told held st c found same dry still well

-- a refusal is told only of what it is a refusal of
pub refused_only : {A : Type 0} (words : List (String A)) (left : Option (List ℕ)) (held : Option Files) (tells : Bool)
    (objects : Objects) (st : Status) → AskRun words → Found left held st → RefusedOnly words left held tells objects st
refused_only words left held tells objects status.Done asks found = tt
refused_only words left held tells objects status.Usage asks found = tt
refused_only words left held tells objects (status.Script place what) asks found = (asks, found)
refused_only words left held tells objects status.ReadFault asks found = tt
refused_only words left held tells objects status.WriteFault asks found = tt
refused_only words left held tells objects status.ShelfFault asks found = tt
refused_only words left held tells objects status.TargetFault asks found = inl (asks, found)
refused_only words left held tells objects status.NoMemory asks found = tt
refused_only words left held tells objects (status.NoCleanShelf reasons) asks found = (asks, found)
refused_only words left held tells objects (status.Refused kind name) asks found = absurd found
refused_only words left held tells objects (status.Frame place) asks found = absurd found
refused_only words left held tells objects status.DoorFault asks found = absurd found

-- a run is no usage error
pub no_usage : (left : Option (List ℕ)) (held : Option Files) (st : Status) → Found left held st → st ≡ status.Usage → ⊥
no_usage left held st found is = subst (Found left held) is found
