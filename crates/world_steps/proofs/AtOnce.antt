-- A command that is answered at once, and a line that fails: others may have a rebuild open, which may end thereby.
use Rattle.std.proofs.Common.{◌≡◌, ℕ, Bool, true, false, ⊎_elim, List, [], ◌∷◌, ◌++◌, length, map, Option, None, Some}
use Rattle.std.proofs.Common.{IfSome, sym, refl, ap, ◌∙◌, subst, append-nil, append_assoc}
use Rattle.volume_model.specs.declared.command.Command.{Command}
use Rattle.volume_model.specs.declared.command.Command.TheVariants as command
use Rattle.volume_model.specs.declared.call.Call.TheVariants as call
use Rattle.volume_model.specs.declared.entry.Answer.{Answer}
use Rattle.volume_model.specs.declared.entry.Entry.{Entry}
use Rattle.volume_model.specs.declared.entry.Entry.TheVariants as entry
use Rattle.volume_model.specs.declared.mark.Mark.TheVariants as mark
use Rattle.volume_model.specs.declared.mode.Mode.{Mode}
use Rattle.volume_model.specs.declared.mode.Mode.TheVariants.{Rw, Wo, Err}
use Rattle.volume_model.specs.History.{Spot}
use Rattle.volume_model.specs.Modes.{mode_of}
use Rattle.volume_model.specs.OneWorker.{behind_entries, entries_at, fail_marks}
use Rattle.volume_model.specs.PlainStep.{plain_step}
use Rattle.open_rebuild.specs.declared.rebuilding.Rebuilding.{Rebuilding}
use Rattle.volume_core.specs.Answers.{failed_in, after_fail, failed_by}
use Rattle.volume_core.specs.State.{State, modes_in, told_of, index_at}
use Rattle.volume_core.specs.Steps.{answered, failed, faulted, marked, with_place}
use Rattle.volume_core.specs.Streams.{MayGo, running, turning}
use Rattle.volume_core.proofs.FarLemmas.{GoesOn, Aborts, behind}
use Rattle.volume_core.specs.State.{spot_of}
use Rattle.stream_steps.specs.Mine.{Placed, answer_placed, length_of}
use Rattle.stream_steps.specs.Steps.{AreMarks, CommandsTo, FallsTo, IsAtOnce, IsCommandAt}
use Rattle.world_holder.specs.View.{own_turn, own_at, own_entries, view}
use Rattle.world_holder.proofs.Entries.{own-append, own_answer}
use Rattle.world_holder.proofs.Grow.{grown_by}
use Rattle.world_steps.proofs.FaultRows.{shows_fault, fault_grown}

-- ---- marks are not own

own_marks : (n : ℕ) (spot : Spot) (es : List Entry) → AreMarks es → own_entries n spot es ≡ []
own_marks n spot [] are = refl
own_marks n spot (entry.Answer a ∷ es) are = absurd are
own_marks n spot (entry.Mark (mark.Purged part) ∷ es) are = own_marks n (behind_entries spot (entry.Mark (mark.Purged part) ∷ [])) es are.1
own_marks n spot (entry.Mark (mark.Fault stream r count) ∷ es) are = absurd are.0
own_marks n spot (entry.Mark (mark.Failed r) ∷ es) are = own_marks n (behind_entries spot (entry.Mark (mark.Failed r) ∷ [])) es are.1
own_marks n spot (entry.Mark (mark.Added r source name) ∷ es) are =
    own_marks n (behind_entries spot (entry.Mark (mark.Added r source name) ∷ [])) es are.1
own_marks n spot (entry.Mark (mark.Promoted r) ∷ es) are = own_marks n (behind_entries spot (entry.Mark (mark.Promoted r) ∷ [])) es are.1
own_marks n spot (entry.Mark (mark.Aborted r) ∷ es) are = own_marks n (behind_entries spot (entry.Mark (mark.Aborted r) ∷ [])) es are.1

pub own_behind : (n : ℕ) (spot : Spot) (marks : List Entry) (a : Answer) → AreMarks marks → a.stream ≡ n
    → own_entries n spot (marks ++ entry.Answer a ∷ []) ≡ answer_placed (behind_entries spot marks) a ∷ []
own_behind n spot marks a are by =
    own-append n spot marks (entry.Answer a ∷ [])
    ∙ ap (λ (l : List Placed). l ++ own_entries n (behind_entries spot marks) (entry.Answer a ∷ [])) (own_marks n spot marks are)
    ∙ own_answer n (behind_entries spot marks) a by

-- ---- a replica is told to fail

-- the marks that a step leaves behind the entries: those, where no rebuild is open that may end
record HasMarks (calm : List Entry) (s s1 : State) : Type 0 where
  marks : List Entry
  are : AreMarks marks
  entries : s1.book.entries ≡ s.book.entries ++ marks
  alone : s.rebuild ≡ None → marks ≡ calm

none_begun : (b : Rebuilding) (x : Option Rebuilding) → x ≡ Some b → x ≡ None → ⊥
none_begun b x some none = cc

falls_with : (s : State) (r : ℕ) → HasMarks (entry.Mark (mark.Failed r) ∷ []) s (failed s r)
falls_with s r =
    let m : State = marked s (mark.Failed r) in
    let calm : List Entry = entry.Mark (mark.Failed r) ∷ [] in
    ⊎_elim
    (λ (x : GoesOn m r (failed s r)). subst (HasMarks calm s) (sym x.state)
    (record { marks = calm; are = (tt, tt); entries = refl; alone = λ none. refl }))
    (λ (x : Aborts m r (failed s r)). subst (HasMarks calm s) (sym x.state) (record {
      marks = entry.Mark (mark.Failed r) ∷ entry.Mark (mark.Aborted x.b.target) ∷ [];
      are = (tt, (tt, tt));
      entries = append_assoc s.book.entries calm (entry.Mark (mark.Aborted x.b.target) ∷ []);
      alone = λ none. absurd (none_begun x.b s.rebuild x.begun none);
    }))
    (behind m r)

no_marks : (s : State) → HasMarks [] s s
no_marks s = record { marks = []; are = tt; entries = sym (append-nil s.book.entries); alone = λ none. refl }

fails_with : (m : Mode) (s : State) (r : ℕ) → HasMarks (fail_marks r m) s (failed_in m s r)
fails_with Rw s r = falls_with s r
fails_with Wo s r = falls_with s r
fails_with Err s r = no_marks s

-- those of the replica that fails, if one does
abbrev marks_of_fail : Option ℕ → List Mode → List Entry
marks_of_fail None modes = []
marks_of_fail (Some r) modes = fail_marks r (mode_of modes r)

after_with : (s : State) (f : Option ℕ) → HasMarks (marks_of_fail f (modes_in s)) s (after_fail s f)
after_with s None = no_marks s
after_with s (Some r) = fails_with (mode_of (modes_in s) r) s r

-- ---- a command is answered behind its marks

-- as the plain disk answers it
abbrev told_answer : ℕ → Command → State → State → Answer
told_answer n c s s1 = record {
  call = call.Command c;
  reply = (plain_step (modes_in s) (told_of s) (call.Command c)).1;
  index = index_at s1.indices n;
  saw = length s.book.entries;
  stream = n;
}

-- with no mark but its own it is what one worker makes of it there
turn_at : (n : ℕ) (c : Command) (s s1 : State) (marks : List Entry) → IsAtOnce c
    → marks ≡ marks_of_fail (failed_by (call.Command c)) (modes_in s)
    → marks ++ entry.Answer (told_answer n c s s1) ∷ []
    ≡ entries_at (spot_of s) n (length s.book.entries) (told_answer n c s s1).index (call.Command c)
turn_at n (command.Fail r) s s1 marks once e = ap (λ (l : List Entry). l ++ entry.Answer (told_answer n (command.Fail r) s s1) ∷ []) e
turn_at n command.Status s s1 marks once e = ap (λ (l : List Entry). l ++ entry.Answer (told_answer n command.Status s s1) ∷ []) e
turn_at n (command.Snapshot name) s s1 marks once e = absurd once
turn_at n (command.Remove name) s s1 marks once e = absurd once
turn_at n (command.Revert name) s s1 marks once e = absurd once
turn_at n command.Purge s s1 marks once e = absurd once
turn_at n (command.Add r) s s1 marks once e = absurd once
turn_at n (command.Backup backup snapshot) s s1 marks once e = absurd once

module _ (a : Bool) (n : ℕ) (c : Command) (s s1 s2 : State) where
  saw_known : (b : Bool) → IfSome (view b n s).log (λ log. length s.book.entries ≡ length_of log)
  saw_known true = refl
  saw_known false = tt

  turn_known : (b : Bool) (all : List Entry)
      → (b ≡ true → all ≡ entries_at (spot_of s) n (length s.book.entries) (told_answer n c s s1).index (call.Command c))
      → IfSome (view b n s).log (IsCommandAt n c all (told_answer n c s s1))
  turn_known true all h = h refl
  turn_known false all h = tt

  answers_row : HasMarks (marks_of_fail (failed_by (call.Command c)) (modes_in s)) s s1 → IsAtOnce c
      → (a ≡ true → s.rebuild ≡ None) → MayGo n s s2 → turning s2 n ≡ [] → running s2 n ≡ []
      → s2 ≡ answered s1 n (length s.book.entries) (call.Command c) (told_answer n c s s1).reply
      → CommandsTo c (view a n s) (view a n s2)
  answers_row h once calm may turns calls e =
      let answer : Answer = told_answer n c s s1 in
      let all : List Entry = h.marks ++ entry.Answer answer ∷ [] in
      record {
        marks = h.marks;
        spot = behind_entries (spot_of s) h.marks;
        answer = answer;
        is = grown_by n s s2 may a (answer_placed (behind_entries (spot_of s) h.marks) answer ∷ []) [] all
            (ap (λ (x : State). x.book.entries) e ∙ ap (λ (l : List Entry). l ++ entry.Answer answer ∷ []) h.entries
            ∙ append_assoc s.book.entries h.marks (entry.Answer answer ∷ []))
            (own_behind n (spot_of s) h.marks answer h.are refl)
            (λ i. map own_turn (turns i) ++ map (own_at s2.whole) (calls i));
        are = h.are;
        call = refl;
        by = refl;
        saw = saw_known a;
        turn = turn_known a all (λ alone. turn_at n c s s1 h.marks once (h.alone (calm alone)));
      }

-- the World's step that answers at once
pub once_row : (a : Bool) (n : ℕ) (c : Command) (s s2 : State) → IsAtOnce c → (a ≡ true → s.rebuild ≡ None) → MayGo n s s2
    → turning s2 n ≡ [] → running s2 n ≡ []
    → s2 ≡ answered (after_fail (with_place s) (failed_by (call.Command c))) n (length s.book.entries) (call.Command c)
    (plain_step (modes_in s) (told_of s) (call.Command c)).1
    → CommandsTo c (view a n s) (view a n s2)
once_row a n c s s2 once calm may turns calls e =
    let f = failed_by (call.Command c) in
    let h = after_with (with_place s) f in
    answers_row a n c s (after_fail (with_place s) f) s2
    (record { marks = h.marks; are = h.are; entries = h.entries; alone = h.alone }) once calm may turns calls e

-- ---- a line fails

pub falls_row : (a : Bool) (n r count : ℕ) (s s2 : State) → MayGo n s s2 → s2 ≡ faulted s n r count
    → FallsTo r count (view a n s) (view a n s2)
falls_row a n r count s s2 may e =
    let shows = shows_fault n r count s s2 e in
    record { spot = spot_of s; aborted = shows.ends; is = fault_grown a n r count s s2 may shows; are = shows.are }
