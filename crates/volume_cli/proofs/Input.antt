-- What a run says that ended before its streams were served.
use Rattle.std.proofs.Common.{◌≡◌, ◌⊎◌, ℕ, ◌<◌, ◌≤◌, List, [], length, Option, Some, None, IfSome, Result, Ok}
use Rattle.std.proofs.Common.{Err, IsErrAnd, refl, sym, ap, subst, inl, inr, arith, length-append}
use Rattle.std.proofs.lemmas.Bool.{cases_lt}
use Rattle.std.specs.Io.KnownBytes.{Consumes, IsAtEnd}
use Rattle.std.proofs.KnownBytes.{Consumes-whole}
use Rattle.outer_traits.specs.Causes.{Rose}
use Rattle.outer_traits.specs.Passing.{GivesAtMost}
use Rattle.shelf_traits.specs.Files.{Files}
use Rattle.script_text.specs.declared.error.ScriptError.{ScriptError}
use Rattle.script_text.specs.declared.error.ScriptError.TheVariants as script_error
use Rattle.script_text.specs.declared.script.Script.{Script}
use Rattle.script_text.specs.declared.what.What.{What}
use Rattle.script_text.specs.declared.what.What.TheVariants as what
use Rattle.script_text.specs.Script.{IsScript, IsNoScript, RefusesInput}
use Rattle.volume_cli.specs.declared.status.Status.{Status}
use Rattle.volume_cli.specs.declared.status.Status.TheVariants as status
use Rattle.volume_cli.specs.Begun.{HadScript, HadNoScript}
use Rattle.volume_cli.specs.Left.{RunFact, Purpose}
use Rattle.volume_cli.specs.Ends.{status_of, ended, Counts, Found, Leaves}
use Rattle.volume_cli.specs.Steps.{ReadEnd, BeginEnd}
use Rattle.volume_cli.proofs.Beginnings.{one_had}

-- an input that was read is all that the source had, or too long
abbrev IsWhole : Option (List ℕ) → List ℕ → Type 0
IsWhole rest input = length input ≤ 268435456 → IsAtEnd rest

too_long : (left rest : Option (List ℕ)) (input : List ℕ) (place : ℕ) → Consumes left rest input → IsNoScript input place what.Input
    → HadNoScript left place what.Input
too_long None rest input place given is = tt
too_long (Some told) None input place given is = absurd given
too_long (Some told) (Some more) input place given is =
    (omega (arith, is.0, ap length given, length-append input more), is.1)

-- nothing came of what was left
pub gives_nothing : (left : Option (List ℕ)) (n : ℕ) → GivesAtMost left left n
gives_nothing None n = ([], tt, omega arith)
gives_nothing (Some told) n = ([], refl, omega arith)

-- What of the input is no script is so of all that the source had.
pub had_no_script : (left rest : Option (List ℕ)) (input : List ℕ) (place : ℕ) (why : What) → Consumes left rest input → IsWhole rest input
    → IsNoScript input place why → HadNoScript left place why
had_no_script left rest input place what.Input given end is = too_long left rest input place given is
had_no_script left rest input place what.Line given end is =
    Consumes-whole left rest input (λ told. IsNoScript told place what.Line) given (end is.0) is
had_no_script left rest input place what.Json given end is =
    Consumes-whole left rest input (λ told. IsNoScript told place what.Json) given (end is.2.most) is
had_no_script left rest input place (what.Member m) given end is =
    Consumes-whole left rest input (λ told. IsNoScript told place (what.Member m)) given (end is.2.most) is
had_no_script left rest input place what.Rest given end is =
    Consumes-whole left rest input (λ told. IsNoScript told place what.Rest) given (end is.3.cut.most) is
had_no_script left rest input place what.Calls given end (inl many) =
    Consumes-whole left rest input (λ told. IsNoScript told place what.Calls) given (end many.0.3.cut.most) (inl many)
had_no_script left rest input place what.Calls given end (inr is) =
    Consumes-whole left rest input (λ told. IsNoScript told place what.Calls) given (end is.3.cut.most) (inr is)
had_no_script left rest input place what.Frame given end is =
    Consumes-whole left rest input (λ told. IsNoScript told place what.Frame) given (end is.3.cut.most) is

-- a script that was read
pub had_script : (left rest : Option (List ℕ)) (input : List ℕ) (script : Script) → Consumes left rest input → IsWhole rest input
    → IsScript input script → HadScript left script
had_script left rest input script given end is =
    (input, is, Consumes-whole left rest input (λ told. told ≡ input) given (end is.headed.cut.most) refl)

-- the status of a run that ended with that error
pub ended_err : {T : Type 0} (result : Result T Status) (st : Status) → IsErrAnd result (λ e. e ≡ st) → ended result ≡ st
ended_err (Ok x) st is = absurd is
ended_err (Err e) st is = is

-- ---- reading stopped so

pub read_counts : (st : Status) (s t k h m : ℕ) → ReadEnd s t st → Counts st s t k k h h m m
read_counts status.Done s t k h m end = absurd end
read_counts status.Usage s t k h m end = absurd end
read_counts (status.Script place what) s t k h m end = absurd end
read_counts status.ReadFault s t k h m end = (end, refl, refl, refl)
read_counts status.WriteFault s t k h m end = absurd end
read_counts status.ShelfFault s t k h m end = absurd end
read_counts status.TargetFault s t k h m end = absurd end
read_counts status.NoMemory s t k h m end = (end, inr refl, refl, inr refl)
read_counts (status.NoCleanShelf reasons) s t k h m end = absurd end
read_counts (status.Refused kind name) s t k h m end = absurd end
read_counts (status.Frame place) s t k h m end = absurd end
read_counts status.DoorFault s t k h m end = absurd end

pub read_found : (left : Option (List ℕ)) (held : Option Files) (st : Status) (s t : ℕ) → ReadEnd s t st → Found left held st
read_found left held status.Done s t end = absurd end
read_found left held status.Usage s t end = absurd end
read_found left held (status.Script place what) s t end = absurd end
read_found left held status.ReadFault s t end = tt
read_found left held status.WriteFault s t end = absurd end
read_found left held status.ShelfFault s t end = absurd end
read_found left held status.TargetFault s t end = absurd end
read_found left held status.NoMemory s t end = tt
read_found left held (status.NoCleanShelf reasons) s t end = absurd end
read_found left held (status.Refused kind name) s t end = absurd end
read_found left held (status.Frame place) s t end = absurd end
read_found left held status.DoorFault s t end = absurd end

pub read_not_done : (st : Status) (s t : ℕ) → ReadEnd s t st → st ≡ status.Done → ⊥
read_not_done st s t end is = subst (ReadEnd s t) is end

module _ (purpose : Purpose) (Runs : RunFact) (same untouched still spared fell : Type 0) (old new : Option (List ℕ)) where
  abbrev IsLeft : Status → Type 0
  IsLeft = Leaves purpose Runs same untouched still spared fell old new

  pub read_leaves : (st : Status) (s t : ℕ) → same → untouched → still → spared → ReadEnd s t st → IsLeft st
  read_leaves status.Done s t kept whole held spares end = absurd end
  read_leaves status.Usage s t kept whole held spares end = absurd end
  read_leaves (status.Script place what) s t kept whole held spares end = absurd end
  read_leaves status.ReadFault s t kept whole held spares end = (kept, whole, spares)
  read_leaves status.WriteFault s t kept whole held spares end = absurd end
  read_leaves status.ShelfFault s t kept whole held spares end = absurd end
  read_leaves status.TargetFault s t kept whole held spares end = absurd end
  read_leaves status.NoMemory s t kept whole held spares end = inl (kept, held)
  read_leaves (status.NoCleanShelf reasons) s t kept whole held spares end = absurd end
  read_leaves (status.Refused kind name) s t kept whole held spares end = absurd end
  read_leaves (status.Frame place) s t kept whole held spares end = absurd end
  read_leaves status.DoorFault s t kept whole held spares end = absurd end

  -- a script was refused so
  pub refused_leaves : (fault : ScriptError) → same → untouched → still → spared → IsLeft (status_of fault)
  refused_leaves (script_error.Bad place what) kept whole held spares = (kept, whole, spares)
  refused_leaves script_error.NoMemory kept whole held spares = inl (kept, held)

  -- a run did not begin
  pub begin_leaves : (held : Option Files) (script : Script) (st : Status) (h i : ℕ) → same → still → spared
      → BeginEnd held script h i st → IsLeft st
  begin_leaves held script status.Done h i kept stays spares end = absurd end
  begin_leaves held script status.Usage h i kept stays spares end = absurd end
  begin_leaves held script (status.Script place what) h i kept stays spares end = absurd end
  begin_leaves held script status.ReadFault h i kept stays spares end = absurd end
  begin_leaves held script status.WriteFault h i kept stays spares end = absurd end
  begin_leaves held script status.ShelfFault h i kept stays spares end = inl (kept, stays, spares)
  begin_leaves held script status.TargetFault h i kept stays spares end = absurd end
  begin_leaves held script status.NoMemory h i kept stays spares end = inl (kept, stays)
  begin_leaves held script (status.NoCleanShelf reasons) h i kept stays spares end = (kept, stays, spares)
  begin_leaves held script (status.Refused kind name) h i kept stays spares end = absurd end
  begin_leaves held script (status.Frame place) h i kept stays spares end = absurd end
  begin_leaves held script status.DoorFault h i kept stays spares end = absurd end

-- ---- a script was refused so

pub refused_counts : (fault : ScriptError) (s t k h m : ℕ) → t ≡ s → Counts (status_of fault) s t k k h h m m
refused_counts (script_error.Bad place what) s t k h m read = (read, refl, refl, refl)
refused_counts script_error.NoMemory s t k h m read = (read, inr refl, refl, inr refl)

pub refused_found : (left rest : Option (List ℕ)) (held : Option Files) (input : List ℕ) (fault : ScriptError) → Consumes left rest input
    → IsWhole rest input → RefusesInput input fault → Found left held (status_of fault)
refused_found left rest held input (script_error.Bad place what) given whole refused =
    had_no_script left rest input place what given whole refused
refused_found left rest held input script_error.NoMemory given whole refused = tt

pub refused_not_done : (fault : ScriptError) → status_of fault ≡ status.Done → ⊥
refused_not_done (script_error.Bad place what) is = cc
refused_not_done script_error.NoMemory is = cc

-- ---- a run did not begin

pub begin_counts : (held : Option Files) (script : Script) (st : Status) (s t k h i m : ℕ) → t ≡ s → BeginEnd held script h i st
    → Counts st s t k k h i m m
begin_counts held script status.Done s t k h i m read end = absurd end
begin_counts held script status.Usage s t k h i m read end = absurd end
begin_counts held script (status.Script place what) s t k h i m read end = absurd end
begin_counts held script status.ReadFault s t k h i m read end = absurd end
begin_counts held script status.WriteFault s t k h i m read end = absurd end
begin_counts held script status.ShelfFault s t k h i m read end = (read, refl, end, refl)
begin_counts held script status.TargetFault s t k h i m read end = absurd end
begin_counts held script status.NoMemory s t k h i m read end = (read, inr refl, end, inr refl)
begin_counts held script (status.NoCleanShelf reasons) s t k h i m read end = (read, refl, end.0, refl)
begin_counts held script (status.Refused kind name) s t k h i m read end = absurd end
begin_counts held script (status.Frame place) s t k h i m read end = absurd end
begin_counts held script status.DoorFault s t k h i m read end = absurd end

pub begin_found : (left : Option (List ℕ)) (held : Option Files) (script : Script) (st : Status) (h i : ℕ) → HadScript left script
    → BeginEnd held script h i st → Found left held st
begin_found left held script status.Done h i had end = absurd end
begin_found left held script status.Usage h i had end = absurd end
begin_found left held script (status.Script place what) h i had end = absurd end
begin_found left held script status.ReadFault h i had end = absurd end
begin_found left held script status.WriteFault h i had end = absurd end
begin_found left held script status.ShelfFault h i had end = (script, had)
begin_found left held script status.TargetFault h i had end = absurd end
begin_found left held script status.NoMemory h i had end = tt
begin_found left held script (status.NoCleanShelf reasons) h i had end = (script, had, end.1)
begin_found left held script (status.Refused kind name) h i had end = absurd end
begin_found left held script (status.Frame place) h i had end = absurd end
begin_found left held script status.DoorFault h i had end = absurd end

pub begin_not_done : (held : Option Files) (script : Script) (st : Status) (h i : ℕ) → BeginEnd held script h i st → st ≡ status.Done → ⊥
begin_not_done held script st h i end is = subst (BeginEnd held script h i) is end

-- ---- the streams were served, or memory ran out meanwhile

-- a count that is not below what it was rose, or is as it was
pub rose_or_same : (m n : ℕ) → m ≤ n → Rose m n ⊎ (n ≡ m)
rose_or_same m n later = elim (cases_lt m n) [
  | inl more ↦ inl (more_rose more)
  | inr low ↦ inr (omega (arith, low, later))
]
  where
    more_rose : m < n → Rose m n
    more_rose more = omega (arith, more)

-- of a script that was read, what holds of each script that the source had
pub of_each : (left : Option (List ℕ)) (script : Script) (P : Script → Type 0) → HadScript left script → P script
    → IfSome left (λ input. (other : Script) → IsScript input other → P other)
of_each None script P had holds = tt
of_each (Some told) script P had holds = λ other is. subst P (sym (one_had told script other had is)) holds
