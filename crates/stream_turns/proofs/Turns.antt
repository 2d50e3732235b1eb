-- Where none of its lines failed, a stream's entries are those that one worker makes of its calls there.
use Rattle.std.proofs.Common.{◌≡◌, ℕ, suc, ◌+◌, ◌&&◌, inl, inr, ⊎_elim, eqb, Bool, true, false, cond, List, [], ◌∷◌}
use Rattle.std.proofs.Common.{◌++◌, length, map, sym, refl, ap, subst, ◌∙◌, eq-eqb, append_assoc}
use Rattle.std.specs.Prelude.{Option, None, Some}
use Rattle.std.specs.Option.{option_or}
use Rattle.std.specs.List.{All}
use Rattle.std.proofs.lemmas.Bool.{cases_Bool, true≢false}
use Rattle.std.proofs.lemmas.List.{length-append}
use Rattle.std.proofs.lemmas.List.Elements.{All-head, All-tail}
use Rattle.volume_model.specs.declared.command.Command.{Command}
use Rattle.volume_model.specs.declared.command.Command.TheVariants as command
use Rattle.volume_model.specs.declared.call.Call.{Call}
use Rattle.volume_model.specs.declared.call.Call.TheVariants as call
use Rattle.volume_model.specs.declared.call.Refusal.{Refusal}
use Rattle.volume_model.specs.declared.call.Refusal.TheVariants as refusal
use Rattle.volume_model.specs.declared.call.Reply.{Reply}
use Rattle.volume_model.specs.declared.call.Reply.TheVariants as reply
use Rattle.volume_model.specs.declared.entry.Answer.{Answer}
use Rattle.volume_model.specs.declared.entry.Entry.{Entry}
use Rattle.volume_model.specs.declared.entry.Entry.TheVariants as entry
use Rattle.volume_model.specs.declared.mark.Mark.{Mark}
use Rattle.volume_model.specs.declared.mark.Mark.TheVariants as mark
use Rattle.volume_model.specs.declared.mode.Mode.{Mode}
use Rattle.volume_model.specs.PlainStep.{refusal_of}
use Rattle.volume_model.specs.Replay.{is_refusal}
use Rattle.volume_model.specs.Faults.{fault_counts}
use Rattle.volume_model.specs.Modes.{HasSource, HasNoSource, source_of, asks_replica, asks_store, is_change}
use Rattle.volume_model.specs.Rebuilds.{added_by}
use Rattle.volume_model.specs.History.{Spot, Subject, OfVolume, OfReplicas, OfStore, subject_of, IsAnswered, IsEnded}
use Rattle.volume_model.specs.History.{LegalAfter, answers_from, InOrderFrom}
use Rattle.volume_model.specs.OneWorker.{behind_entries, want_of_replica, refused_at, marks_unless, reply_for}
use Rattle.volume_model.specs.OneWorker.{Against, Store, answer_for, entries_for, entries_by, entries_at, refused_by}
use Rattle.volume_model.specs.OneWorker.{after_done, behind, served_from}
use Rattle.volume_model.proofs.FaultLemmas.{fault_counts-append}
use Rattle.volume_model.proofs.SpotLemmas.{source_is, asks_none}
use Rattle.volume_model.proofs.OneWorkerLemmas.{same_after}
use Rattle.volume_model.proofs.ServedLemmas.{behind-append}
use Rattle.volume_model.proofs.OnlyServed.{with_source}
use Rattle.stream_steps.specs.Mine.{Log, longer, length_of}
use Rattle.stream_steps.specs.Steps.{IsFrameCall, IsNoFault, AreMarks}
use Rattle.client_worker.specs.Serving.{IsFaultMark, IsOwnFault, Serves, AreServed}
use Rattle.control_worker.specs.Purges.{MayComeBefore}
use Rattle.control_worker.specs.Serving.{AreCommanded, IsCommandBy}
use Rattle.control_worker.specs.Store.{told_by}
use Rattle.stream_turns.specs.Run.{told_at, store_in}
use Rattle.stream_turns.proofs.Groups.{IsGroup, served_group, commanded_group, group_answers}

-- ---- the answer of a frame's call

no_replica_reply : (r : Reply) → subject_of r ≡ OfReplicas → r ≡ reply.Refused refusal.NoReplica
no_replica_reply (reply.Read bytes) says = absurd cc
no_replica_reply reply.Done says = absurd cc
no_replica_reply (reply.Status layers modes) says = absurd cc
no_replica_reply (reply.Aborted place) says = absurd cc
no_replica_reply (reply.Refused refusal.NoReplica) says = refl
no_replica_reply (reply.Refused why) says = absurd cc

-- a frame asks nothing of the store of backups
pub frame_apart : (c : Call) → IsFrameCall c → asks_store c ≡ false
frame_apart (call.Read offset n) frame = refl
frame_apart (call.Write offset bytes) frame = refl
frame_apart call.Ping frame = refl
frame_apart (call.Other kind) frame = refl
frame_apart (call.Command c) frame = absurd frame

none_is : (modes : List Mode) → HasNoSource modes → source_of modes ≡ None
none_is modes none = go (source_of modes) refl
  where
    go : (x : Option ℕ) → source_of modes ≡ x → x ≡ None
    go None is = refl
    go (Some s) is = absurd (none s (source_is modes s is).read)

none_against : (x : Option Refusal) (asks : Bool) (source : Option ℕ) → x ≡ None → asks ≡ false
    → option_or x (want_of_replica asks source) ≡ None
none_against (Some why) asks source e f = absurd cc
none_against None true source e f = absurd cc
none_against None false source e f = refl

module _ (spot : Spot) (a : Answer) (is : IsAnswered spot.state spot.modes a)
    (source : (bytes : List ℕ) → a.reply ≡ reply.Read bytes → HasSource spot.modes) where
  -- a read that gave bytes and a write that was done had a replica
  had_source : (c : Call) → a.call ≡ c → IsFrameCall c → asks_replica c ≡ true → a.reply ≡ reply_for None spot c → HasSource spot.modes
  had_source (call.Read offset n) at frame asks r = source _ r
  had_source (call.Write offset bytes) at frame asks r = is.source (ap is_change at) (ap is_refusal r)
  had_source call.Ping at frame asks r = absurd cc
  had_source (call.Other kind) at frame asks r = absurd cc
  had_source (call.Command c) at frame asks r = absurd frame

  as_refused : IsFrameCall a.call → (why : Option Refusal) → refusal_of spot.modes spot.state a.call ≡ why
      → a.reply ≡ reply_for why spot a.call → a.reply ≡ reply_for (refused_at spot a.call) spot a.call
  as_refused frame (Some why) at r = r
      ∙ ap (λ x. reply_for (option_or x (want_of_replica (asks_replica a.call) (source_of spot.modes))) spot a.call)
      (sym at)
  as_refused frame None at r = elim (cases_Bool (asks_replica a.call)) [
    | inl asks ↦ r ∙ ap (λ x. reply_for x spot a.call) (sym (with_source spot a.call (had_source a.call refl frame asks r) ∙ at))
    | inr none ↦ r ∙ ap (λ x. reply_for x spot a.call)
        (sym (none_against (refusal_of spot.modes spot.state a.call) (asks_replica a.call) (source_of spot.modes) at none))
  ]

  wanting : HasNoSource spot.modes → refusal_of spot.modes spot.state a.call ≡ None → asks_replica a.call ≡ true
      → refused_at spot a.call ≡ Some refusal.NoReplica
  wanting none refused asks = all (refusal_of spot.modes spot.state a.call) (asks_replica a.call) (source_of spot.modes)
      refused asks (none_is spot.modes none)
    where
      all : (x : Option Refusal) (b : Bool) (s : Option ℕ) → x ≡ None → b ≡ true → s ≡ None
          → option_or x (want_of_replica b s) ≡ Some refusal.NoReplica
      all x b s e f g = rw (e, f, g) refl

  -- it is answered as one worker answers it there
  pub frame_reply : IsFrameCall a.call → a.reply ≡ reply_for (refused_at spot a.call) spot a.call
  frame_reply frame = by (subject_of a.reply) refl
    where
      by : (about : Subject) → subject_of a.reply ≡ about → a.reply ≡ reply_for (refused_at spot a.call) spot a.call
      by OfVolume says = as_refused frame (refusal_of spot.modes spot.state a.call) refl (is.reply says)
      by OfReplicas says = let no = is.none says in
          no_replica_reply a.reply says ∙ ap (λ x. reply_for x spot a.call) (sym (wanting no.none no.refused no.asks))
      by OfStore says = absurd (true≢false (sym (is.store says).asks ∙ frame_apart a.call frame))

-- a frame's call makes no marks
frame_unmarked : (why : Option Refusal) (spot : Spot) (c : Call) → IsFrameCall c → marks_unless why spot c ≡ []
frame_unmarked (Some why) spot c frame = refl
frame_unmarked None spot (call.Read offset n) frame = refl
frame_unmarked None spot (call.Write offset bytes) frame = refl
frame_unmarked None spot call.Ping frame = refl
frame_unmarked None spot (call.Other kind) frame = refl
frame_unmarked None spot (call.Command c) frame = absurd frame

-- and is no add
frame_added : (c : Call) → IsFrameCall c → added_by c ≡ None
frame_added (call.Read offset n) frame = refl
frame_added (call.Write offset bytes) frame = refl
frame_added call.Ping frame = refl
frame_added (call.Other kind) frame = refl
frame_added (call.Command c) frame = absurd frame

-- an answer is known by its parts
same_answer : (a : Answer) (c : Call) (r : Reply) (w place index : ℕ) → a.call ≡ c → a.reply ≡ r → a.index ≡ index
    → a.saw ≡ place → a.stream ≡ w
    → entry.Answer a ≡ entry.Answer (record { call = c; reply = r; index = index; saw = place; stream = w })
same_answer a c r w place index e f g h k = λ i. entry.Answer (record { call = e i; reply = f i; index = g i; saw = h i; stream = k i })

-- so its answer is what one worker makes of it
frame_entries : (spot : Spot) (a : Answer) (c : Call) (w place index : ℕ) → IsFrameCall c → IsAnswered spot.state spot.modes a
    → ((bytes : List ℕ) → a.reply ≡ reply.Read bytes → HasSource spot.modes) → a.call ≡ c → a.index ≡ index → a.saw ≡ place → a.stream ≡ w
    → entry.Answer a ∷ [] ≡ entries_at spot w place index c
frame_entries spot a c w place index frame is source e g h k =
    ap (λ x. x ∷ []) (same_answer a c (reply_for (refused_at spot c) spot c) w place index e reply_is g h k)
    ∙ sym (ap (λ l. l ++ answer_for (refused_at spot c) spot w place index c ∷ []) (frame_unmarked (refused_at spot c) spot c frame))
  where
    reply_is : a.reply ≡ reply_for (refused_at spot c) spot c
    reply_is = frame_reply spot a is source (subst IsFrameCall (sym e) frame) ∙ ap (λ x. reply_for (refused_at spot x) spot x) e

-- ---- one call behind another

-- the journal, and where the run stands behind it
abbrev pub log_at : Spot → List Entry → Log
log_at opening before = record { spot = behind_entries opening before; entries = before }

pub longer_at : (opening : Spot) (before es : List Entry) → longer (Some (log_at opening before)) es ≡ Some (log_at opening (before ++ es))
longer_at opening before es = λ i. Some (record { spot = sym (behind-append opening before es) i; entries = before ++ es })

-- what one worker makes of calls behind that journal, where the store tells so
abbrev pub served_behind : Store → Spot → List Entry → ℕ → ℕ → List Call → List Entry
served_behind store opening before w index cs = served_from store (behind_entries opening before) w (length before) index cs

served_more : (store : Store) (opening : Spot) (before first more : List Entry) (w index : ℕ) (c : Call) (cs : List Call)
    → first ≡ entries_by (store (length before)) (behind_entries opening before) w (length before) index c
    → more ≡ served_behind store opening (before ++ first) w (suc index) cs
    → first ++ more ≡ served_behind store opening before w index (c ∷ cs)
served_more store opening before first more w index c cs e f = λ i. e i ++ (f ∙ there) i
  where
    spot : Spot
    spot = behind_entries opening before

    stands : behind_entries opening (before ++ first) ≡ after_done spot c
    stands = behind-append opening before first ∙ ap (behind_entries spot) e
        ∙ same_after (store (length before)) spot w (length before) index c

    here : List Entry
    here = entries_by (store (length before)) spot w (length before) index c

    place : length (before ++ first) ≡ behind (length before) here
    place = length-append before first ∙ ap (λ l. behind (length before) l) e

    there : served_behind store opening (before ++ first) w (suc index) cs
        ≡ served_from store (after_done spot c) w (behind (length before) here) (suc index) cs
    there = λ i. served_from store (stands i) w (place i) (suc index) cs

-- of a call that asks nothing of it the store tells nothing
same_by : (told : Option Against) (spot : Spot) (w place index : ℕ) (c : Call) → asks_store c ≡ false
    → entries_at spot w place index c ≡ entries_by told spot w place index c
same_by told spot w place index c apart = ap (λ why. entries_for why spot w place index c) (sym (asks_none told spot c apart))

-- ---- the order of answers

-- the index of a group's answer, and those behind it
pub first_index : (w index least place place' : ℕ) (c : Call) (es more : List Entry) → (g : IsGroup w c es)
    → place + length es ≡ place' → InOrderFrom index least (answers_from w place (es ++ more))
    → (g.answer.index ≡ index) × InOrderFrom (suc index) (suc (place + length g.marks)) (answers_from w place' more)
first_index w index least place place' c es more g at order =
    let all = subst (InOrderFrom index least) (group_answers w place c es more g) order in
    (all.0, subst (λ n. InOrderFrom (suc index) (suc (place + length g.marks)) (answers_from w n more)) at all.3)

-- ---- no faults are shown

-- a fault of the stream's lines shows in their counts
marked : (w : ℕ) (m : Mark) (es : List Entry) → IsFaultMark w m → ((r : ℕ) → fault_counts w r (entry.Mark m ∷ es) ≡ []) → ⊥
marked w (mark.Purged part) es is none = is
marked w (mark.Fault s r n) es is none =
    some_none n (fault_counts w r es)
    (sym (ap (λ (b : Bool). cond b (n ∷ fault_counts w r es) (fault_counts w r es))
    (ap (λ b. b && eqb r r) (eq-eqb s w is) ∙ eq-eqb r r refl)) ∙ none r)
  where
    some_none : (n : ℕ) (ns : List ℕ) → n ∷ ns ≡ [] → ⊥
    some_none n ns e = cc
marked w (mark.Failed r) es is none = is
marked w (mark.Added r source name) es is none = is
marked w (mark.Promoted r) es is none = is
marked w (mark.Aborted r) es is none = is

front_none : {A : Type 0} (xs ys : List A) → xs ++ ys ≡ [] → xs ≡ []
front_none [] ys e = refl
front_none (x ∷ xs) ys e = absurd cc

pub back_none : {A : Type 0} (xs ys : List A) → xs ++ ys ≡ [] → ys ≡ []
back_none [] ys e = e
back_none (x ∷ xs) ys e = absurd cc

-- nothing of a first part, and nothing of the rest
both_none : (w : ℕ) (xs ys : List Entry) → ((r : ℕ) → fault_counts w r (xs ++ ys) ≡ []) → (r : ℕ)
    → (fault_counts w r xs ≡ []) × (fault_counts w r ys ≡ [])
both_none w xs ys none r =
    let parts : fault_counts w r xs ++ fault_counts w r ys ≡ [] = sym (fault_counts-append w r xs ys) ∙ none r in
    (front_none (fault_counts w r xs) (fault_counts w r ys) parts, back_none (fault_counts w r xs) (fault_counts w r ys) parts)

-- ---- frames

no_fault_marks : (w : ℕ) (marks : List Entry) → All (IsOwnFault w) marks → ((r : ℕ) → fault_counts w r marks ≡ []) → marks ≡ []
no_fault_marks w [] all none = refl
no_fault_marks w (entry.Answer a ∷ marks) all none = absurd (All-head (IsOwnFault w) (entry.Answer a) marks all)
no_fault_marks w (entry.Mark m ∷ marks) all none = absurd (marked w m marks (All-head (IsOwnFault w) (entry.Mark m) marks all) none)

-- such a call's entries are its answer
alone : (w : ℕ) (log : Log) (c : Call) (es : List Entry) → (s : Serves w (Some log) c es)
    → ((r : ℕ) → fault_counts w r es ≡ []) → s.marks ≡ []
alone w log c es s none = no_fault_marks w s.marks s.faults
    (λ r. (both_none w s.marks (entry.Answer s.answer ∷ []) (λ q. ap (fault_counts w q) (sym s.is) ∙ none q) r).0)

frame_turn : (opening : Spot) (w index : ℕ) (c : Call) (before es more : List Entry)
    → (s : Serves w (Some (log_at opening before)) c es) → IsFrameCall c → s.marks ≡ [] → s.answer.index ≡ index
    → LegalAfter opening before (es ++ more)
    → (es ≡ entries_at (behind_entries opening before) w (length before) index c) × LegalAfter opening (before ++ es) more
frame_turn opening w index c before es more s frame none at legal =
    let behind_entries_here = behind_entries opening before in
    let only : es ≡ entry.Answer s.answer ∷ [] = s.is ∙ ap (λ l. l ++ entry.Answer s.answer ∷ []) none in
    let stands = subst (λ l. LegalAfter opening before (l ++ more)) only legal in
    let answered : IsAnswered behind_entries_here.state behind_entries_here.modes s.answer =
    subst (λ x. IsEnded x before behind_entries_here.state behind_entries_here.modes s.answer)
    (ap added_by s.call ∙ frame_added c frame) stands.0 in (
      only ∙ frame_entries behind_entries_here s.answer c w (length before) index frame answered
          (λ bytes is. s.source bytes is none) s.call at s.saw s.by,
      subst (λ l. LegalAfter opening (before ++ l) more) (sym only) stands.1,
    )

pub frames_turn : (store : Store) (opening : Spot) (w index least : ℕ) (cs : List Call) (before es : List Entry) → All IsFrameCall cs
    → AreServed w (Some (log_at opening before)) cs es
    → ((r : ℕ) → fault_counts w r es ≡ []) → LegalAfter opening before es → InOrderFrom index least (answers_from w (length before) es)
    → es ≡ served_behind store opening before w index cs
frames_turn store opening w index least [] before es frames done none legal order = done
frames_turn store opening w index least (c ∷ cs) before es frames done none legal order =
    let first = done.0 in
    let more = done.1 in
    let s = done.3 in
    let group = served_group w (Some (log_at opening before)) c first s in
    let next = first_index w index least (length before) (length (before ++ first)) c first more group (sym (length-append before first))
    (subst (λ l. InOrderFrom index least (answers_from w (length before) l)) done.2 order) in
    let parts = both_none w first more (λ r. ap (fault_counts w r) (sym done.2) ∙ none r) in
    let here = frame_turn opening w index c before first more s (All-head IsFrameCall c cs frames)
    (alone w (log_at opening before) c first s (λ r. (parts r).0)) next.0
    (subst (LegalAfter opening before) done.2 legal) in
    let rest = frames_turn store opening w (suc index) (suc (length before + length group.marks)) cs (before ++ first) more
    (All-tail IsFrameCall c cs frames)
    (subst (λ l. AreServed w l cs more) (longer_at opening before first) done.4)
    (λ r. (parts r).1) here.1 next.1 in
    done.2 ∙ served_more store opening before first more w index c cs
    (here.0 ∙ same_by (store (length before)) (behind_entries opening before) w (length before) index c
    (frame_apart c (All-head IsFrameCall c cs frames))) rest

-- ---- commands

-- no mark of such a command is a fault
unfaulted : (w : ℕ) (marks : List Entry) → All (MayComeBefore w) marks → ((r : ℕ) → fault_counts w r marks ≡ []) → AreMarks marks
unfaulted w [] all none = tt
unfaulted w (entry.Answer a ∷ marks) all none = absurd (All-head (MayComeBefore w) (entry.Answer a) marks all)
unfaulted w (entry.Mark m ∷ marks) all none = ⊎_elim
    (λ is. absurd (marked w m marks is none))
    (λ not. (not, unfaulted w marks (All-tail (MayComeBefore w) (entry.Mark m) marks all) (λ r. unshown m not r ∙ none r)))
    (All-head (MayComeBefore w) (entry.Mark m) marks all)
  where
    unshown : (m : Mark) → IsNoFault m → (r : ℕ) → fault_counts w r marks ≡ fault_counts w r (entry.Mark m ∷ marks)
    unshown (mark.Purged part) not r = refl
    unshown (mark.Fault s q n) not r = absurd not
    unshown (mark.Failed q) not r = refl
    unshown (mark.Added q source name) not r = refl
    unshown (mark.Promoted q) not r = refl
    unshown (mark.Aborted q) not r = refl

-- what the journal tells of the store there
store_behind : (before : List Entry) (e : Entry) (more : List Entry) → store_in (before ++ e ∷ more) (length before) ≡ told_at e
store_behind [] e more = refl
store_behind (b ∷ before) e more = store_behind before e more

only_one : (marks : List Entry) (x y : Entry) → marks ++ x ∷ [] ≡ y ∷ [] → marks ≡ []
only_one [] x y e = refl
only_one (m ∷ marks) x y e = absurd (some_none x (back_none marks (x ∷ []) (tail_is e)))
  where
    tail_is : {m y : Entry} {ms : List Entry} → m ∷ ms ≡ y ∷ [] → ms ≡ []
    tail_is {m} {y} {ms} e = cc

    some_none : (x : Entry) → x ∷ [] ≡ [] → ⊥
    some_none x e = cc

-- a backup makes no marks
backup_unmarked : (why : Option Refusal) (spot : Spot) (backup snapshot : List ℕ)
    → marks_unless why spot (call.Command (command.Backup backup snapshot)) ≡ []
backup_unmarked (Some why) spot backup snapshot = refl
backup_unmarked None spot backup snapshot = refl

-- So a command's entries are those that one worker makes of it where the store tells what its answer tells, or of any store
-- where it asks none.
command_entries : (w : ℕ) (log : Log) (c : Command) (told : Option Against) (es marks : List Entry) (a : Answer)
    → es ≡ marks ++ entry.Answer a ∷ [] → (marks ≡ [] → told ≡ told_by a.reply) → IsCommandBy w c es a log
    → es ≡ entries_by told log.spot w (length_of log) a.index (call.Command c)
command_entries w log (command.Backup backup snapshot) told es marks a is tells turn =
    turn ∙ ap (λ t. entries_by t log.spot w (length_of log) a.index asked) (sym (tells unmarked))
  where
    asked : Call
    asked = call.Command (command.Backup backup snapshot)

    why : Option Refusal
    why = refused_by (told_by a.reply) log.spot asked

    unmarked : marks ≡ []
    unmarked = only_one marks (entry.Answer a) (answer_for why log.spot w (length_of log) a.index asked)
        (sym is ∙ turn ∙ ap (λ ms. ms ++ answer_for why log.spot w (length_of log) a.index asked ∷ [])
        (backup_unmarked why log.spot backup snapshot))
command_entries w log (command.Snapshot name) told es marks a is tells turn =
    turn ∙ same_by told log.spot w (length_of log) a.index (call.Command (command.Snapshot name)) refl
command_entries w log (command.Remove name) told es marks a is tells turn =
    turn ∙ same_by told log.spot w (length_of log) a.index (call.Command (command.Remove name)) refl
command_entries w log (command.Revert name) told es marks a is tells turn =
    turn ∙ same_by told log.spot w (length_of log) a.index (call.Command (command.Revert name)) refl
command_entries w log command.Purge told es marks a is tells turn =
    turn ∙ same_by told log.spot w (length_of log) a.index (call.Command command.Purge) refl
command_entries w log command.Status told es marks a is tells turn =
    turn ∙ same_by told log.spot w (length_of log) a.index (call.Command command.Status) refl
command_entries w log (command.Fail r) told es marks a is tells turn =
    turn ∙ same_by told log.spot w (length_of log) a.index (call.Command (command.Fail r)) refl
command_entries w log (command.Add r) told es marks a is tells turn =
    turn ∙ same_by told log.spot w (length_of log) a.index (call.Command (command.Add r)) refl

pub commands_turn : (journal : List Entry) (opening : Spot) (w index least : ℕ) (cs : List Command) (before es : List Entry)
    → journal ≡ before ++ es → AreCommanded w (Some (log_at opening before)) cs es
    → ((r : ℕ) → fault_counts w r es ≡ []) → InOrderFrom index least (answers_from w (length before) es)
    → es ≡ served_behind (store_in journal) opening before w index (map call.Command cs)
commands_turn journal opening w index least [] before es whole done none order = done
commands_turn journal opening w index least (c ∷ cs) before es whole done none order =
    let first = done.0 in
    let more = done.1 in
    let s = done.3 in
    let log = log_at opening before in
    let group = commanded_group w (Some log) c first s in
    let next = first_index w index least (length before) (length (before ++ first)) (call.Command c) first more group
    (sym (length-append before first))
    (subst (λ l. InOrderFrom index least (answers_from w (length before) l)) done.2 order) in
    let parts = both_none w first more (λ r. ap (fault_counts w r) (sym done.2) ∙ none r) in
    let marks = unfaulted w s.marks s.are
    (λ r. (both_none w s.marks (entry.Answer s.answer ∷ []) (λ q. ap (fault_counts w q) (sym s.is) ∙ (parts q).0) r).0) in
    let cut = whole ∙ ap (λ l. before ++ l) done.2 in
    let rest = commands_turn journal opening w (suc index) (suc (length before + length group.marks)) cs (before ++ first) more
    (cut ∙ sym (append_assoc before first more))
    (subst (λ l. AreCommanded w l cs more) (longer_at opening before first) done.4) (λ r. (parts r).1) next.1 in
    let told = store_in journal (length before) in
    done.2 ∙ served_more (store_in journal) opening before first more w index (call.Command c) (map call.Command cs)
    (command_entries w log c told first s.marks s.answer s.is (told_first journal before first more s.marks s.answer cut s.is)
    (s.turn marks) ∙ ap (λ n. entries_by told (behind_entries opening before) w (length before) n (call.Command c)) next.0) rest
  where
    told_first : (journal before first more marks : List Entry) (a : Answer) → journal ≡ before ++ (first ++ more)
        → first ≡ marks ++ entry.Answer a ∷ [] → marks ≡ [] → store_in journal (length before) ≡ told_by a.reply
    told_first journal before first more marks a cut is unmarked =
        ap (λ l. store_in l (length before)) (cut ∙ ap (λ l. before ++ (l ++ more))
        (is ∙ ap (λ l. l ++ entry.Answer a ∷ []) unmarked)) ∙ store_behind before (entry.Answer a) more
