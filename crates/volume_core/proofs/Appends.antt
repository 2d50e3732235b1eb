-- What steps that append entries without a call leave to other streams, and what their own sees.
use Rattle.std.proofs.Common.{◌≡◌, ℕ, ◌+◌, ◌≤◌, ⊎_elim, inl, inr, Bool, true, false, cond, List, [], ◌∷◌, ◌++◌, length, length-set, map}
use Rattle.std.proofs.Common.{subst, sym, refl, ap, ◌∙◌, arith, append-nil, append_assoc, length-append}
use Rattle.std.specs.Prelude.{Option, None, Some}
use Rattle.volume_model.specs.declared.command.Command.TheVariants as command
use Rattle.volume_model.specs.declared.call.Call.{Call}
use Rattle.volume_model.specs.declared.call.Call.TheVariants as call
use Rattle.volume_model.specs.declared.call.Reply.{Reply}
use Rattle.volume_model.specs.declared.entry.Answer.{Answer}
use Rattle.volume_model.specs.declared.entry.Entry.{Entry}
use Rattle.volume_model.specs.declared.entry.Entry.TheVariants as entry
use Rattle.volume_model.specs.declared.mark.Mark.{Mark}
use Rattle.volume_model.specs.declared.mark.Mark.TheVariants as mark
use Rattle.volume_model.specs.declared.mode.Mode.{Mode}
use Rattle.volume_model.specs.declared.mode.Mode.TheVariants.{Rw, Wo, Err}
use Rattle.volume_model.specs.Copies.{RemovesNone}
use Rattle.volume_model.specs.Modes.{mode_of}
use Rattle.volume_model.specs.Replay.{is_refusal}
use Rattle.open_calls.specs.Clients.{IsIdle}
use Rattle.step_answers.specs.Asked.{IsNow}
use Rattle.volume_core.specs.State.{State, modes_in, index_at, gave_up_at}
use Rattle.open_rebuild.specs.declared.rebuilding.Rebuilding.{Rebuilding}
use Rattle.volume_core.specs.Steps.{with_place, with_rooms, answered, faulted, answer_entry, marked, aborted}
use Rattle.volume_core.specs.Steps.{has_part, aborted_with, behind_fall}
use Rattle.volume_core.specs.Sound.{IsSound}
use Rattle.volume_core.specs.Answers.{IsAnsweredNow, failed_by, failed_in, after_fail}
use Rattle.volume_core.specs.Streams.{calls_in, running, commands_in, turning, open_of, MayAppendMark, MayAppend}
use Rattle.volume_core.specs.Streams.{MayGo, IsAnsweredTo, HasFault, origin_of}
use Rattle.volume_core.proofs.FarLemmas.{GoesOn, Aborts, behind}
use Rattle.volume_core.proofs.CallLemmas.{calls-idle}

-- a World with more entries, and the same calls
pub record Appends (n : ℕ) (s s1 : State) : Type 0 where
  pub marks : List Entry
  pub entries : s1.book.entries ≡ s.book.entries ++ marks
  pub may : MayAppend n marks
  pub removes : (name : List ℕ) → RemovesNone name marks
  pub origin : origin_of s1 ≡ origin_of s
  pub tickets : s1.tickets ≡ s.tickets
  pub calls : s1.calls ≡ s.calls
  pub maint : s1.maint ≡ s.maint
  pub commands : s1.commands ≡ s.commands
  pub gave_up : s1.gave_up ≡ s.gave_up

same_appends : (n : ℕ) (s : State) → Appends n s s
same_appends n s = record {
  marks = [];
  entries = sym (append-nil s.book.entries);
  may = tt;
  removes = λ name. tt;
  origin = refl;
  tickets =
      refl;
  calls = refl;
  maint = refl;
  commands = refl;
  gave_up = refl;
}

-- a fall, behind whose mark a rebuild may end
module _ (n : ℕ) (s : State) (m : Mark) (r : ℕ) where
  abbrev fell : State
  fell = behind_fall (marked s m) r

  alone_appends : MayAppendMark n m → Appends n s (marked s m)
  alone_appends may = record {
    marks = entry.Mark m ∷ [];
    entries = refl;
    may = (may, tt);
    removes = λ name. tt;
    origin = refl;
    tickets =
        refl;
    calls = refl;
    maint = refl;
    commands = refl;
    gave_up = refl;
  }

  ends_appends : (t : ℕ) → MayAppendMark n m → Appends n s (aborted (marked s m) t)
  ends_appends t may = record {
    marks = entry.Mark m ∷ entry.Mark (mark.Aborted t) ∷ [];
    entries = append_assoc s.book.entries (entry.Mark m ∷ []) (entry.Mark (mark.Aborted t) ∷ []);
    may = (may, (tt, tt));
    removes = λ name. tt;
    origin = refl;
    tickets = refl;
    calls = refl;
    maint = refl;
    commands = refl;
    gave_up = refl;
  }

  pub fall_appends : MayAppendMark n m → Appends n s fell
  fall_appends may = ⊎_elim
      (λ (x : GoesOn (marked s m) r fell). subst (Appends n s) (sym x.state) (alone_appends may))
      (λ (x : Aborts (marked s m) r fell). subst (Appends n s) (sym x.state) (ends_appends x.b.target may))
      (behind (marked s m) r)

failed_appends : (n : ℕ) (m : Mode) (s : State) (r : ℕ) → Appends n s (failed_in m s r)
failed_appends n Err s r = same_appends n s
failed_appends n Rw s r = fall_appends n s (mark.Failed r) r tt
failed_appends n Wo s r = fall_appends n s (mark.Failed r) r tt

fail_appends : (n : ℕ) (s : State) (r : Option ℕ) → Appends n s (after_fail s r)
fail_appends n s None = same_appends n s
fail_appends n s (Some r) = failed_appends n (mode_of (modes_in s) r) s r

-- no more calls were answered then, of more entries
aborted_indices : (b : Option Rebuilding) (s : State) (r : ℕ) → (aborted_with b s r).indices ≡ s.indices
aborted_indices None s r = refl
aborted_indices (Some b) s r = by (has_part (Some b) r)
  where
    by : (has : Bool) → (cond has (aborted s b.target) s).indices ≡ s.indices
    by true = refl
    by false = refl

failed_indices : (m : Mode) (s : State) (r : ℕ) → (failed_in m s r).indices ≡ s.indices
failed_indices Err s r = refl
failed_indices Rw s r = aborted_indices s.rebuild (marked s (mark.Failed r)) r
failed_indices Wo s r = aborted_indices s.rebuild (marked s (mark.Failed r)) r

fail_indices : (s : State) (r : Option ℕ) → (after_fail s r).indices ≡ s.indices
fail_indices s None = refl
fail_indices s (Some r) = failed_indices (mode_of (modes_in s) r) s r

pub fail_few : (s : State) (r : Option ℕ) (stream : ℕ) → index_at s.indices stream ≤ length s.book.entries
    → index_at (after_fail s r).indices stream ≤ length (after_fail s r).book.entries
fail_few s r stream few =
    let more = fail_appends stream s r in
    let longer : length (after_fail s r).book.entries ≡ length (s.book.entries ++ more.marks) =
    ap (λ (l : List Entry). length l) more.entries in
    let same : index_at (after_fail s r).indices stream ≡ index_at s.indices stream = ap (λ l. index_at l stream) (fail_indices s r) in
    omega (arith, few, longer, same, length-append s.book.entries more.marks)

may_append : (n : ℕ) (xs : List Entry) (a : Answer) → MayAppend n xs → a.stream ≡ n → MayAppend n (xs ++ entry.Answer a ∷ [])
may_append n [] a may by = (by, tt)
may_append n (entry.Answer b ∷ xs) a may by = (may.0, may_append n xs a may.1 by)
may_append n (entry.Mark m ∷ xs) a may by = (may.0, may_append n xs a may.1 by)

-- a call of a stream that has none open is answered behind them
none_append : (name : List ℕ) (xs : List Entry) (a : Answer) → RemovesNone name xs
    → (a.call ≡ call.Command (command.Remove name) → is_refusal a.reply ≡ true) → RemovesNone name (xs ++ entry.Answer a ∷ [])
none_append name [] a none stays = (stays, tt)
none_append name (entry.Answer b ∷ xs) a none stays = (none.0, none_append name xs a none.1 stays)
none_append name (entry.Mark m ∷ xs) a none stays = none_append name xs a none stays

module _ (n : ℕ) (s s1 s2 : State) (saw : ℕ) (c : Call) (r : Reply) (more : Appends n s s1) (is : s2 ≡ answered s1 n saw c r) where
  entries_now : s2.book.entries ≡ s.book.entries ++ (more.marks ++ answer_entry s1 n saw c r ∷ [])
  entries_now = ap (λ (x : State). x.book.entries) is ∙ ap (λ l. l ++ answer_entry s1 n saw c r ∷ []) more.entries
      ∙ append_assoc s.book.entries more.marks (answer_entry s1 n saw c r ∷ [])

  runs_now : (m : ℕ) → running s2 m ≡ running s m
  runs_now m = ap (λ (x : State). running x m) is ∙ ap (λ ts. calls_in m ts s1.calls) more.tickets ∙ ap (calls_in m s.tickets) more.calls

  pub answered_may : ((name : List ℕ) → c ≡ call.Command (command.Remove name) → is_refusal r ≡ true) → IsSound s2 → MayGo n s s2
  answered_may stays ok2 = record {
    sound = ok2;
    origin = ap origin_of is
        ∙ ap (λ k. record { first = s1.first; opening = s1.book.opening; size = s1.size; streams = k; replicas = length s1.nodes })
        (length-set s1.indices n (index_at s1.indices n + 1)) ∙ more.origin;
    added = (
      more.marks ++ answer_entry s1 n saw c r ∷ [],
      entries_now,
      may_append n more.marks (record { call = c; reply = r; index = index_at s1.indices n; saw = saw; stream = n })
          more.may refl,
    );
    others = λ m other. runs_now m;
    turns = λ m other. ap (λ (x : State). turning x m) is ∙ ap (λ ts. commands_in m ts s1.commands) more.maint
        ∙ ap (commands_in m s.maint) more.commands;
    gave_up = λ m other. ap (λ (x : State). gave_up_at x.gave_up m) is ∙ ap (λ g. gave_up_at g m) more.gave_up;
    removes = λ m other turn name. none_append name more.marks
        (record { call = c; reply = r; index = index_at s1.indices n; saw = saw; stream = n }) (more.removes name) (stays name);
  }

  pub answered_sees : IsIdle n s.calls → IsAnsweredTo n c s s2
  answered_sees idle = record {
    marks = more.marks;
    answer = record { call = c; reply = r; index = index_at s1.indices n; saw = saw; stream = n };
    call = refl;
    by = refl;
    entries = entries_now;
    idle = ap (map open_of) (runs_now n ∙ calls-idle n s.tickets s.calls idle);
  }

-- what is answered at once is no removal
now_no_removal : (c : Call) (name : List ℕ) → IsNow c → c ≡ call.Command (command.Remove name) → ⊥
now_no_removal c name now is = subst IsNow is now

pub now_may : (n : ℕ) (s s2 : State) (c : Call) (place : ℕ) → IsNow c → IsAnsweredNow s n c place s2 → IsSound s2 → MayGo n s s2
now_may n s s2 c place now a ok2 = answered_may n s (after_fail (with_place s) (failed_by c)) s2 (length s.book.entries) c _
    (placed (fail_appends n (with_place s) (failed_by c))) a.state (λ name e. absurd (now_no_removal c name now e)) ok2
  where
    placed : {s1 : State} → Appends n (with_place s) s1 → Appends n s s1
    placed a = record {
      marks = a.marks;
      entries = a.entries;
      may = a.may;
      removes = a.removes;
      origin = a.origin;
      tickets = a.tickets;
      calls =
          a.calls;
      maint = a.maint;
      commands = a.commands;
      gave_up = a.gave_up;
    }

pub now_sees : (n : ℕ) (s s2 : State) (c : Call) (place : ℕ) → IsAnsweredNow s n c place s2 → IsIdle n s.calls → IsAnsweredTo n c s s2
now_sees n s s2 c place a idle = answered_sees n s (after_fail (with_place s) (failed_by c)) s2 (length s.book.entries) c _
    (placed (fail_appends n (with_place s) (failed_by c))) a.state idle
  where
    placed : {s1 : State} → Appends n (with_place s) s1 → Appends n s s1
    placed a = record {
      marks = a.marks;
      entries = a.entries;
      may = a.may;
      removes = a.removes;
      origin = a.origin;
      tickets = a.tickets;
      calls =
          a.calls;
      maint = a.maint;
      commands = a.commands;
      gave_up = a.gave_up;
    }

-- a line fails
module _ (n : ℕ) (s s2 : State) (r count : ℕ) (is : s2 ≡ faulted s n r count) where
  abbrev its_mark : Mark
  its_mark = mark.Fault n r count

  pub fault_may : IsSound s2 → MayGo n s s2
  fault_may ok2 =
      let more = fall_appends n s its_mark r refl in
      record {
        sound = ok2;
        origin = ap origin_of is ∙ more.origin;
        added = (more.marks, ap (λ (x : State). x.book.entries) is ∙ more.entries, more.may);
        others = λ m other. ap (λ (x : State). running x m) is
            ∙ ap (λ ts. calls_in m ts (faulted s n r count).calls) more.tickets ∙ ap (calls_in m s.tickets) more.calls;
        turns = λ m other. ap (λ (x : State). turning x m) is
            ∙ ap (λ ts. commands_in m ts (faulted s n r count).commands) more.maint
            ∙ ap (commands_in m s.maint) more.commands;
        gave_up = λ m other. ap (λ (x : State). gave_up_at x.gave_up m) is ∙ ap (λ g. gave_up_at g m) more.gave_up;
        removes = λ m other turn name. more.removes name;
      }

  pub fault_sees : HasFault n r count s s2
  fault_sees = subst (HasFault n r count s) (sym is) (⊎_elim
      (λ (x : GoesOn (marked s its_mark) r (faulted s n r count)). subst (HasFault n r count s) (sym x.state)
      (record { ends = []; most = inl refl; entries = refl; same = refl }))
      (λ (x : Aborts (marked s its_mark) r (faulted s n r count)). subst (HasFault n r count s) (sym x.state) (record {
        ends = entry.Mark (mark.Aborted x.b.target) ∷ [];
        most = inr (x.b.target, refl);
        entries = append_assoc s.book.entries (entry.Mark its_mark ∷ []) (entry.Mark (mark.Aborted x.b.target) ∷ []);
        same = refl;
      }))
      (behind (marked s its_mark) r))

-- ---- nothing but places

pub nothing_more : (n : ℕ) (s : State) (spare room : ℕ) → Appends n s (with_rooms s spare room)
nothing_more n s spare room = record {
  marks = [];
  entries = sym (append-nil s.book.entries);
  may = tt;
  removes = λ name. tt;
  origin = refl;
  tickets =
      refl;
  calls = refl;
  maint = refl;
  commands = refl;
  gave_up = refl;
}
