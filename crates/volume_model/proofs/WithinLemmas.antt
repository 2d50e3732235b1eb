-- The marks that a command is behind stand between what it saw and its answer: where more entries come, and in the journal
-- of one worker.
use Rattle.std.proofs.Common.{◌≡◌, ℕ, suc, ◌≤◌, List, [], ◌∷◌, ◌++◌, length, refl, sym, ap, subst, ◌∙◌, arith}
use Rattle.std.specs.Prelude.{Option, None, Some, IfSome}
use Rattle.std.specs.List.{Any}
use Rattle.std.proofs.lemmas.List.{length-append, get_or_append_left}
use Rattle.volume_model.specs.declared.command.Command.{Command}
use Rattle.volume_model.specs.declared.command.Command.TheVariants as command
use Rattle.volume_model.specs.declared.call.Call.{Call}
use Rattle.volume_model.specs.declared.call.Call.TheVariants as call
use Rattle.volume_model.specs.declared.call.Refusal.{Refusal}
use Rattle.volume_model.specs.declared.entry.Answer.{Answer}
use Rattle.volume_model.specs.declared.entry.Entry.{Entry}
use Rattle.volume_model.specs.declared.entry.Entry.TheVariants as entry
use Rattle.volume_model.specs.declared.mark.FoldOrDrop.{FoldOrDrop}
use Rattle.volume_model.specs.declared.mode.Mode.{Mode}
use Rattle.volume_model.specs.declared.mode.Mode.TheVariants.{Rw, Wo, Err}
use Rattle.volume_model.specs.Marks.{marks_of}
use Rattle.volume_model.specs.PlainState.{PlainState}
use Rattle.volume_model.specs.Purge.{parts_of}
use Rattle.volume_model.specs.Modes.{mode_of, source_of}
use Rattle.volume_model.specs.Standing.{StandFrom}
use Rattle.volume_model.specs.History.{Spot, command_behind, EndsCommand, StandsInCommand}
use Rattle.volume_model.specs.OneWorker.{Against, Store, fail_marks, add_marks, refused_by, marks_unless, answer_for, entries_by}
use Rattle.volume_model.specs.OneWorker.{after_done, behind, served_from, after_calls, served_streams}
use Rattle.volume_model.proofs.PurgeLemmas.{any_here, any_later}
use Rattle.volume_model.proofs.StandingLemmas.{StandFrom-append}

-- ---- with more entries behind

pub if_some_map : {X : Type 0} (P Q : X → Type 0) (x : Option X) → ((y : X) → P y → Q y) → IfSome x P → IfSome x Q
if_some_map P Q None f h = tt
if_some_map P Q (Some x) f h = f x h

any_longer : {X : Type 0} (P : X → Type 0) (xs ys : List X) → Any P xs → Any P (xs ++ ys)
any_longer P xs ys a = (a.0, a.1, omega (arith, a.2, length-append xs ys), get_or_append_left xs ys a.1 a.0 a.2 ∙ a.3, a.4)

pub within_longer : (before : List Entry) (e : Entry) (xs ys : List Entry) → StandsInCommand before e xs
    → StandsInCommand before e (xs ++ ys)
within_longer before (entry.Answer a) xs ys h = tt
within_longer before (entry.Mark m) xs ys h =
    if_some_map (λ c. Any (EndsCommand c (length before)) xs) (λ c. Any (EndsCommand c (length before)) (xs ++ ys)) (command_behind m)
    (λ c. any_longer (EndsCommand c (length before)) xs ys) h

-- ---- marks before the answer of the command behind them

-- the entry is a mark, and if a command is behind it, it is that one
abbrev ComesBy : Command → Entry → Type 0
ComesBy c (entry.Answer a) = ⊥
ComesBy c (entry.Mark m) = IfSome (command_behind m) (λ d. d ≡ c)

abbrev ComeBy : Command → List Entry → Type 0
ComeBy c [] = Unit {0}
ComeBy c (e ∷ es) = ComesBy c e × ComeBy c es

ends_last : (c : Command) (n : ℕ) (a : Answer) (marks : List Entry) → a.call ≡ call.Command c → a.saw ≤ n
    → Any (EndsCommand c n) (marks ++ entry.Answer a ∷ [])
ends_last c n a [] is saw = any_here (EndsCommand c n) (entry.Answer a) [] (is, saw)
ends_last c n a (e ∷ es) is saw = any_later (EndsCommand c n) e (es ++ entry.Answer a ∷ []) (ends_last c n a es is saw)

-- they stand in it, behind what it saw
stand_by : (c : Command) (a : Answer) (before marks : List Entry) → a.call ≡ call.Command c → a.saw ≤ length before
    → ComeBy c marks → StandFrom StandsInCommand before (marks ++ entry.Answer a ∷ [])
stand_by c a before [] is saw by = (tt, tt)
stand_by c a before (entry.Answer b ∷ es) is saw by = absurd by.0
stand_by c a before (entry.Mark m ∷ es) is saw by = (
  if_some_map (λ d. d ≡ c) (λ d. Any (EndsCommand d (length before)) (es ++ entry.Answer a ∷ [])) (command_behind m)
      (λ d e. ends_last d (length before) a es (is ∙ ap call.Command (sym e)) saw) by.0,
  stand_by c a (before ++ entry.Mark m ∷ []) es is (omega (arith, saw, length-append before (entry.Mark m ∷ []))) by.1,
)

-- ---- the journal of one worker

by_purge : (parts : List FoldOrDrop) → ComeBy command.Purge (marks_of parts)
by_purge [] = tt
by_purge (p ∷ ps) = (refl, by_purge ps)

by_fail : (c : Command) (r : ℕ) (m : Mode) → ComeBy c (fail_marks r m)
by_fail c r Rw = (tt, tt)
by_fail c r Wo = (tt, tt)
by_fail c r Err = tt

by_add : (state : PlainState) (r : ℕ) (source : Option ℕ) → ComeBy (command.Add r) (add_marks state r source)
by_add state r None = tt
by_add state r (Some source) = (refl, (tt, tt))

by_command : (spot : Spot) (why : Option Refusal) (c : Command) → ComeBy c (marks_unless why spot (call.Command c))
by_command spot (Some why) c = tt
by_command spot None (command.Snapshot name) = tt
by_command spot None (command.Remove name) = tt
by_command spot None (command.Revert name) = tt
by_command spot None command.Purge = by_purge (parts_of spot.state.volume.snapshots)
by_command spot None command.Status = tt
by_command spot None (command.Fail r) = by_fail (command.Fail r) r (mode_of spot.modes r)
by_command spot None (command.Add r) = by_add spot.state r (source_of spot.modes)
by_command spot None (command.Backup backup snapshot) = tt

-- a call of another kind has no marks
abbrev IsNoCommand : Call → Type 0
IsNoCommand (call.Command c) = ⊥
IsNoCommand c = Unit {0}

no_marks : (spot : Spot) (why : Option Refusal) (c : Call) → IsNoCommand c → marks_unless why spot c ≡ []
no_marks spot (Some why) c other = refl
no_marks spot None (call.Read offset n) other = refl
no_marks spot None (call.Write offset bytes) other = refl
no_marks spot None call.Ping other = refl
no_marks spot None (call.Other kind) other = refl
no_marks spot None (call.Command d) other = absurd other

answer_alone : (told : Option Against) (spot : Spot) (stream place index : ℕ) (c : Call) (before : List Entry) → IsNoCommand c
    → StandFrom StandsInCommand before (entries_by told spot stream place index c)
answer_alone told spot stream place index c before other =
    let why = refused_by told spot c in
    subst (λ ms. StandFrom StandsInCommand before (ms ++ answer_for why spot stream place index c ∷ []))
    (sym (no_marks spot why c other)) (tt, tt)

within_at : (told : Option Against) (spot : Spot) (stream place index : ℕ) (c : Call) (before : List Entry) → place ≤ length before
    → StandFrom StandsInCommand before (entries_by told spot stream place index c)
within_at told spot stream place index (call.Command c) before saw =
    let why = refused_by told spot (call.Command c) in
    stand_by c _ before (marks_unless why spot (call.Command c)) refl saw (by_command spot why c)
within_at told spot stream place index (call.Read offset n) before saw =
    answer_alone told spot stream place index (call.Read offset n) before tt
within_at told spot stream place index (call.Write offset bytes) before saw =
    answer_alone told spot stream place index (call.Write offset bytes) before tt
within_at told spot stream place index call.Ping before saw = answer_alone told spot stream place index call.Ping before tt
within_at told spot stream place index (call.Other kind) before saw = answer_alone told spot stream place index (call.Other kind) before tt

within_from : (store : Store) (spot : Spot) (stream place index : ℕ) (cs : List Call) (before : List Entry) → place ≡ length before
    → StandFrom StandsInCommand before (served_from store spot stream place index cs)
within_from store spot stream place index [] before at = tt
within_from store spot stream place index (c ∷ cs) before at =
    let first = entries_by (store place) spot stream place index c in
    StandFrom-append StandsInCommand within_longer before first
    (served_from store (after_done spot c) stream (behind place first) (suc index) cs)
    (within_at (store place) spot stream place index c before (omega (arith, at)))
    (within_from store (after_done spot c) stream (behind place first) (suc index) cs (before ++ first)
    (omega (arith, at, length-append before first)))

-- each mark of its journal stands so
pub served_within : (store : Store) (spot : Spot) (stream place : ℕ) (css : List (List Call)) (before : List Entry) → place ≡ length before
    → StandFrom StandsInCommand before (served_streams store spot stream place css)
served_within store spot stream place [] before at = tt
served_within store spot stream place (cs ∷ css) before at =
    let first = served_from store spot stream place 0 cs in
    StandFrom-append StandsInCommand within_longer before first
    (served_streams store (after_calls spot cs) (suc stream) (behind place first) css)
    (within_from store spot stream place 0 cs before at)
    (served_within store (after_calls spot cs) (suc stream) (behind place first) css (before ++ first)
    (omega (arith, at, length-append before first)))
