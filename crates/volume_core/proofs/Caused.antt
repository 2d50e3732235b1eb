-- What caused the marks of a journal: as more entries come, and as the first command keeps the turn, or ends.
use Rattle.std.proofs.Common.{◌≡◌, ◌⊎◌, inl, inr, ℕ, ◌<◌, ◌≤◌, true, false, List, [], ◌∷◌, ◌++◌, length, set, sym}
use Rattle.std.proofs.Common.{ap, subst, ◌∙◌, arith, get_or-set_same, ⊎_elim}
use Rattle.std.specs.Prelude.{Bool, Option, None, Some, IfSome}
use Rattle.std.specs.List.{Any}
use Rattle.std.proofs.Math.Logic.{⊎_map}
use Rattle.std.proofs.lemmas.Bool.{false≢true}
use Rattle.std.proofs.lemmas.List.{append-nil, append_assoc, length-append, get_or_append_left}
use Rattle.volume_model.specs.declared.command.Command.{Command}
use Rattle.volume_model.specs.declared.call.Call.TheVariants as call
use Rattle.volume_model.specs.declared.entry.Answer.{Answer}
use Rattle.volume_model.specs.declared.entry.Entry.{Entry}
use Rattle.volume_model.specs.declared.entry.Entry.TheVariants as entry
use Rattle.volume_model.specs.declared.mark.Mark.{Mark}
use Rattle.volume_model.specs.History.{command_behind, EndsCommand, StandsInCommand, StandInCommands}
use Rattle.volume_model.specs.Rebuilds.{AreBehindFalls}
use Rattle.volume_model.specs.Standing.{Place, StandFrom}
use Rattle.volume_model.proofs.FallLemmas.{behind_falls_answer}
use Rattle.volume_model.proofs.PurgeLemmas.{any_here, any_later}
use Rattle.volume_model.proofs.StandingLemmas.{StandFrom-append}
use Rattle.volume_model.proofs.WithinLemmas.{if_some_map}
use Rattle.range_turns.specs.declared.ticket.Ticket.{Ticket}
use Rattle.open_calls.specs.declared.maint.MaintCall.{MaintCall}
use Rattle.open_calls.specs.Maint.{command_at, AreQueued, HasTurn}
use Rattle.open_calls.proofs.Turns.{FirstStays, turn_still}
use Rattle.volume_core.specs.Sound.{IsAsking, StandsSoFar, AreCaused, NoneGaveUp}

-- ---- what is so of each entry, said otherwise

pub stand_map : (P Q : Place) → ((before : List Entry) (e : Entry) (after : List Entry) → P before e after → Q before e after)
    → (before xs : List Entry) → StandFrom P before xs → StandFrom Q before xs
stand_map P Q over before [] h = tt
stand_map P Q over before (x ∷ xs) h = (over before x xs h.0, stand_map P Q over (before ++ x ∷ []) xs h.1)

-- as more come
stand_as : (P Q : Place) (more : List Entry)
    → ((before : List Entry) (e : Entry) (after : List Entry) → P before e after → Q before e (after ++ more))
    → (before xs : List Entry) → StandFrom P before xs → StandFrom Q (before ++ xs) more → StandFrom Q before (xs ++ more)
stand_as P Q more over before [] h k = subst (λ l. StandFrom Q l more) (append-nil before) k
stand_as P Q more over before (x ∷ xs) h k = (
  over before x xs h.0,
  stand_as P Q more over (before ++ x ∷ []) xs h.1
      (subst (λ l. StandFrom Q l more) (sym (append_assoc before (x ∷ []) xs)) k),
)

-- ---- an entry that stands so far

-- an answer that ends a command does so with more behind it
ends_longer : (c : Command) (place : ℕ) (xs ys : List Entry) → Any (EndsCommand c place) xs → Any (EndsCommand c place) (xs ++ ys)
ends_longer c place xs ys ends =
    (ends.0, ends.1, omega (arith, ends.2, length-append xs ys), get_or_append_left xs ys ends.1 ends.0 ends.2 ∙ ends.3, ends.4)

-- how the command behind a mark stands
abbrev Stands : List Ticket → List MaintCall → Command → ℕ → List Entry → Type 0
Stands maint commands c place after = Any (EndsCommand c place) after ⊎ IsAsking maint commands c place

so_far_as : (maint maint2 : List Ticket) (commands commands2 : List MaintCall) (before : List Entry) (e : Entry)
    (after after2 : List Entry)
    → ((c : Command) → Stands maint commands c (length before) after → Stands maint2 commands2 c (length before) after2)
    → StandsSoFar maint commands before e after → StandsSoFar maint2 commands2 before e after2
so_far_as maint maint2 commands commands2 before (entry.Answer a) after after2 over h = tt
so_far_as maint maint2 commands commands2 before (entry.Mark m) after after2 over h =
    if_some_map (λ c. Stands maint commands c (length before) after)
    (λ c. Stands maint2 commands2 c (length before) after2) (command_behind m) over h

-- ---- more entries

-- no command is behind it
abbrev pub IsOfNone : Entry → Type 0
IsOfNone (entry.Answer a) = Unit {0}
IsOfNone (entry.Mark m) = command_behind m ≡ None

abbrev pub AreOfNone : List Entry → Type 0
AreOfNone [] = Unit {0}
AreOfNone (e ∷ es) = IsOfNone e × AreOfNone es

so_far_none : (maint : List Ticket) (commands : List MaintCall) (before : List Entry) (e : Entry) (after : List Entry)
    → IsOfNone e → StandsSoFar maint commands before e after
so_far_none maint commands before (entry.Answer a) after none = tt
so_far_none maint commands before (entry.Mark m) after none =
    subst (λ (x : Option Command). IfSome x (λ c. Stands maint commands c (length before) after)) (sym none) tt

stand_none : (maint : List Ticket) (commands : List MaintCall) (before es : List Entry) → AreOfNone es
    → StandFrom (StandsSoFar maint commands) before es
stand_none maint commands before [] none = tt
stand_none maint commands before (e ∷ es) none =
    (so_far_none maint commands before e es none.0, stand_none maint commands (before ++ e ∷ []) es none.1)

module _ (maint : List Ticket) (commands : List MaintCall) (es : List Entry) (was : AreCaused maint commands es) where
  -- with what is asked of them
  push : (more : List Entry) → AreBehindFalls (es ++ more) → StandFrom (StandsSoFar maint commands) es more
      → AreCaused maint commands (es ++ more)
  push more fell stand = record {
    fell = fell;
    within = StandFrom-append (StandsSoFar maint commands)
        (λ before x xs ys. so_far_as maint maint commands commands before x xs (xs ++ ys)
        (λ c. ⊎_map (ends_longer c (length before) xs ys) (λ asks. asks)))
        [] es more was.within stand;
  }

  -- behind which no command is
  pub caused_more : (more : List Entry) → AreBehindFalls (es ++ more) → AreOfNone more → AreCaused maint commands (es ++ more)
  caused_more more fell none = push more fell (stand_none maint commands es more none)

  -- an answer
  pub caused_answer : (a : Answer) → AreCaused maint commands (es ++ entry.Answer a ∷ [])
  caused_answer a = caused_more (entry.Answer a ∷ []) (behind_falls_answer es a was.fell) (tt, tt)

  -- a mark of the command that has the turn
  pub caused_mark : (m : Mark) (c : Command) (streams stream : ℕ) → AreBehindFalls (es ++ entry.Mark m ∷ [])
      → command_behind m ≡ Some c → HasTurn maint commands stream c → AreQueued streams es maint commands
      → AreCaused maint commands (es ++ entry.Mark m ∷ [])
  caused_mark m c streams stream fell by turn queued =
      push (entry.Mark m ∷ []) fell (
        subst (λ (x : Option Command). IfSome x (λ d. Stands maint commands d (length es) [])) (sym by)
            (inr (record { stream = stream; turn = turn; saw = queued.saw 0 turn.some })),
        tt,
      )

  -- the answer of that command, with which it goes, whoever has the turn then
  pub caused_ended : (maint2 : List Ticket) (commands2 : List MaintCall) (a : Answer)
      → a.call ≡ call.Command (command_at commands 0).command → a.saw ≡ (command_at commands 0).saw
      → AreCaused maint2 commands2 (es ++ entry.Answer a ∷ [])
  caused_ended maint2 commands2 a is saw = record {
    fell = behind_falls_answer es a was.fell;
    within = stand_as (StandsSoFar maint commands) (StandsSoFar maint2 commands2) (entry.Answer a ∷ [])
        (λ before x after. so_far_as maint maint2 commands commands2 before x after (after ++ entry.Answer a ∷ [])
        (λ c h. inl (⊎_elim (ends_longer c (length before) after (entry.Answer a ∷ []))
        (λ asks. ends_last c (length before) after (is ∙ ap call.Command asks.turn.command) (omega (arith, saw, asks.saw)))
        h)))
        [] es was.within (tt, tt);
  }
    where
      ends_last : (c : Command) (n : ℕ) (xs : List Entry) → a.call ≡ call.Command c → a.saw ≤ n
          → Any (EndsCommand c n) (xs ++ entry.Answer a ∷ [])
      ends_last c n [] call saw = any_here (EndsCommand c n) (entry.Answer a) [] (call, saw)
      ends_last c n (x ∷ xs) call saw = any_later (EndsCommand c n) x (xs ++ entry.Answer a ∷ []) (ends_last c n xs call saw)

  -- ---- as many

  -- the first command keeps the turn, if it has it
  pub caused_still : (maint2 : List Ticket) (commands2 : List MaintCall) → FirstStays maint commands maint2 commands2
      → AreCaused maint2 commands2 es
  caused_still maint2 commands2 stays = record {
    fell = was.fell;
    within = stand_map (StandsSoFar maint commands) (StandsSoFar maint2 commands2)
        (λ before x after. so_far_as maint maint2 commands commands2 before x after after
        (λ c. ⊎_map (λ ends. ends) (still c (length before)))) [] es was.within;
  }
    where
      still : (c : Command) (place : ℕ) → IsAsking maint commands c place → IsAsking maint2 commands2 c place
      still c place asks =
          let first = stays asks.turn.some asks.turn.started in
          record {
            stream = asks.stream;
            turn = turn_still maint maint2 commands commands2 asks.stream c asks.turn first;
            saw = subst (λ (x : MaintCall). x.saw ≤ place) (sym first.2) asks.saw;
          }

  -- no command is left
  pub caused_ends : commands ≡ [] → StandInCommands es
  caused_ends none = stand_map (StandsSoFar maint commands) StandsInCommand stands [] es was.within
    where
      stands : (before : List Entry) (e : Entry) (after : List Entry) → StandsSoFar maint commands before e after
          → StandsInCommand before e after
      stands before (entry.Answer a) after h = tt
      stands before (entry.Mark m) after h =
          if_some_map (λ c. Stands maint commands c (length before) after) (λ c. Any (EndsCommand c (length before)) after)
          (command_behind m)
          (λ c. ⊎_elim (λ ends. ends) (λ asks. absurd (omega (arith, asks.turn.some, ap (λ (x : List MaintCall). length x) none)))) h

-- ---- a command was given up

-- so it is not claimed
pub given_caused : (gave_up : List Bool) (stream : ℕ) (maint : List Ticket) (commands : List MaintCall) (es : List Entry)
    → stream < length gave_up → NoneGaveUp (set gave_up stream true) → AreCaused maint commands es
given_caused gave_up stream maint commands es within none =
    absurd (false≢true (sym (none stream) ∙ get_or-set_same gave_up stream true false within))
