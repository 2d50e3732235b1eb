-- A legal history of one stream's calls with no mark is what answering them one after another gives.
use Rattle.std.proofs.Common.{◌≡◌, ℕ, zero, suc, eqb, inl, inr, subst, Bool, true, false, cond, List, [], ◌∷◌, ◌++◌}
use Rattle.std.proofs.Common.{map, refl, sym, ap, ◌∙◌, arith}
use Rattle.std.specs.Option.{option_or}
use Rattle.std.proofs.lemmas.Bool.{eq-eqb, ne_eqb}
use Rattle.std.proofs.lemmas.Bool.Decides.{eqb_tells}
use Rattle.std.proofs.lemmas.List.{append-nil}
use Rattle.volume_model.specs.declared.command.Command.TheVariants as command
use Rattle.volume_model.specs.declared.call.Call.{Call}
use Rattle.volume_model.specs.declared.call.Call.TheVariants as call
use Rattle.volume_model.specs.declared.call.Reply.{Reply}
use Rattle.volume_model.specs.declared.entry.Answer.{Answer}
use Rattle.volume_model.specs.declared.entry.Entry.{Entry}
use Rattle.volume_model.specs.declared.entry.Entry.TheVariants as entry
use Rattle.volume_model.specs.declared.mode.Mode.{Mode}
use Rattle.volume_model.specs.PlainStep.{refusal_of, plain_step}
use Rattle.volume_model.specs.Marks.{marks_of, HasNoMark}
use Rattle.volume_model.specs.Replay.{is_refusal, after_entry, replay}
use Rattle.volume_model.specs.Modes.{modes_after, asks_replica, asks_store, HasSource, source_of}
use Rattle.volume_model.specs.History.{Spot, IsAnswered, IsEnded, EndsAdd, LegalAfter, answers_from, InOrderFrom, IsHistory}
use Rattle.volume_model.specs.declared.mark.Rebuild.TheVariants as rebuild
use Rattle.volume_model.specs.Rebuilds.{added_by, rebuild_of, rebuild_after_add}
use Rattle.volume_model.specs.declared.call.Refusal.{Refusal}
use Rattle.std.specs.Prelude.{Option, None, Some}
use Rattle.std.proofs.lemmas.Bool.{true≢false}
use Rattle.volume_model.specs.OneWorker.{Store, AskNone, behind_entries, want_of_replica, refused_at, fail_marks, call_marks}
use Rattle.volume_model.specs.OneWorker.{marks_unless, marks_before, reply_for, answer_for, entries_for, entries_at, after_done}
use Rattle.volume_model.specs.OneWorker.{behind, served_from, served, stream_of}
use Rattle.volume_model.proofs.SpotLemmas.{no_source, asks_none}
use Rattle.volume_model.proofs.OneWorkerLemmas.{same_after}
use Rattle.volume_model.proofs.PushLemmas.{modes_after-push}
use Rattle.volume_model.proofs.RebuildLemmas.{rebuild_of-push}
use Rattle.volume_model.proofs.StepLemmas.{replay-push, has_no_source, answered_plainly}
use Rattle.volume_model.proofs.PurgeLemmas.{next_is_none, parts-none}

-- ---- a call that is answered with no mark before it

source_some : (modes : List Mode) → HasSource modes → (s : ℕ) × (source_of modes ≡ Some s)
source_some modes source = go (source_of modes) refl
  where
    go : (x : Option ℕ) → source_of modes ≡ x → (s : ℕ) × (source_of modes ≡ Some s)
    go None is = absurd (has_no_source modes source (no_source modes is))
    go (Some s) is = (s, is)

-- where a replica is read and written, none is wanting
none_wanting : (x : Option Refusal) (asks : Bool) (source : Option ℕ) (s : ℕ) → source ≡ Some s
    → option_or x (want_of_replica asks source) ≡ x
none_wanting (Some why) asks source s is = refl
none_wanting None false source s is = refl
none_wanting None true (Some r) s is = refl
none_wanting None true None s is = absurd cc

pub with_source : (spot : Spot) (c : Call) → HasSource spot.modes → refused_at spot c ≡ refusal_of spot.modes spot.state c
with_source spot c source = let s = source_some spot.modes source in
    none_wanting (refusal_of spot.modes spot.state c) (asks_replica c) (source_of spot.modes) s.0 s.1

-- the answer is as the volume answers, and an add is refused
pub record IsPlain (spot : Spot) (a : Answer) : Type 0 where
  pub answered : IsAnswered spot.state spot.modes a
  pub add : (r : ℕ) → a.call ≡ call.Command (command.Add r) → is_refusal a.reply ≡ true

plainly : (spot : Spot) (before : List Entry) (a : Answer) → ((q : ℕ) → rebuild_of q before ≡ rebuild.Unasked)
    → IsEnded (added_by a.call) before spot.state spot.modes a → IsPlain spot a
plainly spot before a idle ended = go (added_by a.call) refl ended
  where
    go : (x : Option ℕ) → added_by a.call ≡ x → IsEnded x before spot.state spot.modes a → IsPlain spot a
    go None is e = record { answered = e; add = λ r f. absurd (no_add r (sym (ap added_by f) ∙ is)) }
      where
        no_add : (r : ℕ) → Some r ≡ None → ⊥
        no_add r e = cc
    go (Some r) is e = let f = subst (λ b. EndsAdd b before spot.state spot.modes a r) (idle r) e in
        record { answered = f.0; add = λ q g. f.1 }

reply_is : (spot : Spot) (a : Answer) → HasSource spot.modes → asks_store a.call ≡ false → IsPlain spot a
    → a.reply ≡ reply_for (refused_at spot a.call) spot a.call
reply_is spot a source apart is = answered_plainly spot.state spot.modes a source apart is.answered
    ∙ ap (λ x. reply_for x spot a.call) (sym (with_source spot a.call source))

-- what makes no mark
no_marks : (spot : Spot) (a : Answer) → HasSource spot.modes → asks_store a.call ≡ false → IsPlain spot a
    → marks_before spot a.call ≡ []
no_marks spot a source apart is = go a.call refl
  where
    unless : (why : Option Refusal) (c : Call) → call_marks spot c ≡ [] → marks_unless why spot c ≡ []
    unless (Some why) c e = refl
    unless None c e = e

    added : (r : ℕ) → a.call ≡ call.Command (command.Add r) → (why : Option Refusal) → refused_at spot a.call ≡ why
        → marks_unless why spot (call.Command (command.Add r)) ≡ []
    added r e (Some why) w = refl
    added r e None w = absurd (true≢false (sym (is.add r e)
        ∙ ap is_refusal (reply_is spot a source apart is ∙ ap (λ x. reply_for x spot a.call) w
        ∙ ap (λ c. reply_for None spot c) e)))

    go : (c : Call) → a.call ≡ c → marks_before spot c ≡ []
    go (call.Read offset n) e = unless (refused_at spot (call.Read offset n)) (call.Read offset n) refl
    go (call.Write offset bytes) e = unless (refused_at spot (call.Write offset bytes)) (call.Write offset bytes) refl
    go call.Ping e = refl
    go (call.Other kind) e = refl
    go (call.Command (command.Snapshot name)) e = unless (refused_at spot (call.Command (command.Snapshot name)))
        (call.Command (command.Snapshot name)) refl
    go (call.Command (command.Remove name)) e = unless (refused_at spot (call.Command (command.Remove name)))
        (call.Command (command.Remove name)) refl
    go (call.Command (command.Revert name)) e = unless (refused_at spot (call.Command (command.Revert name)))
        (call.Command (command.Revert name)) refl
    go (call.Command command.Purge) e =
        let done : is_refusal a.reply ≡ false = ap is_refusal (answered_plainly spot.state spot.modes a source apart is.answered)
        ∙ ap (λ c. is_refusal (plain_step spot.modes spot.state c).1) e in
        unless (refused_at spot (call.Command command.Purge)) (call.Command command.Purge)
        (ap marks_of (parts-none spot.state.volume.snapshots
        (next_is_none spot.state.volume.snapshots.tree spot.state.volume.snapshots.on (is.answered.purged e done))))
    go (call.Command command.Status) e = refl
    go (call.Command (command.Fail r)) e = ap (fail_marks r) (is.answered.fails r e)
    go (call.Command (command.Add r)) e = ap (λ x. marks_unless x spot (call.Command (command.Add r)))
        (sym (ap (refused_at spot) e)) ∙ added r e (refused_at spot a.call) refl
    go (call.Command (command.Backup backup snapshot)) e = absurd (true≢false (ap asks_store (sym e) ∙ apart))

-- so its answer is its one entry
one_entry : (spot : Spot) (k : ℕ) (c : Call) → marks_before spot c ≡ []
    → entries_at spot 0 k k c ≡ answer_for (refused_at spot c) spot 0 k k c ∷ []
one_entry spot k c none = ap (λ l. l ++ answer_for (refused_at spot c) spot 0 k k c ∷ []) none

left_by : (spot : Spot) (k : ℕ) (c : Call) → marks_before spot c ≡ []
    → behind_entries spot (answer_for (refused_at spot c) spot 0 k k c ∷ []) ≡ after_done spot c
left_by spot k c none = ap (behind_entries spot) (sym (one_entry spot k c none)) ∙ same_after None spot 0 k k c

served_alone : (store : Store) (spot : Spot) (k : ℕ) (c : Call) (cs : List Call) → asks_store c ≡ false → marks_before spot c ≡ []
    → served_from store spot 0 k k (c ∷ cs)
    ≡ answer_for (refused_at spot c) spot 0 k k c ∷ served_from store (after_done spot c) 0 (suc k) (suc k) cs
served_alone store spot k c cs apart none =
    ap (λ why. let first = entries_for why spot 0 k k c in
    first ++ served_from store (after_done spot c) 0 (behind k first) (suc k) cs) (asks_none (store k) spot c apart)
    ∙ ap (λ first. first ++ served_from store (after_done spot c) 0 (behind k first) (suc k) cs) (one_entry spot k c none)
    ∙ ap (λ place. answer_for (refused_at spot c) spot 0 k k c ∷ served_from store (after_done spot c) 0 place (suc k) cs) (omega arith)

-- ---- each entry

-- the answer of these parts
abbrev answer_of : ℕ → ℕ → ℕ → Call → Reply → Answer
answer_of s i n c r = record { call = c; reply = r; index = i; saw = n; stream = s }

-- these answers of stream 0, and no entry of another stream
record Follows (calls : List Call) (journal : List Entry) (k : ℕ) : Type 0 where
  order : InOrderFrom k k (answers_from 0 k journal)
  own : map (λ p. p.1.call) (answers_from 0 k journal) ≡ calls
  other : (stream : ℕ) → answers_from (suc stream) k journal ≡ []

-- an answer is known by its parts
same_answer : (spot : Spot) (k : ℕ) (c : Call) (a : Answer) → a.stream ≡ 0 → a.index ≡ k → a.saw ≡ k → a.call ≡ c
    → a.reply ≡ reply_for (refused_at spot c) spot c
    → entry.Answer a ≡ answer_for (refused_at spot c) spot 0 k k c
same_answer spot k c a own index saw call reply =
    ap entry.Answer (parts a.stream 0 a.index k a.saw k a.call c a.reply (reply_for (refused_at spot c) spot c) own index
    saw call reply)
  where
    parts : (s t i j m n : ℕ) (c d : Call) (r q : Reply) → s ≡ t → i ≡ j → m ≡ n → c ≡ d → r ≡ q
        → answer_of s i m c r ≡ answer_of t j n d q
    parts s t i j m n c d r q e f g h l = cc

-- where the worker stands behind a journal without a mark
record Quiet (opening : Spot) (before : List Entry) (spot : Spot) : Type 0 where
  state : replay opening.state before ≡ spot.state
  modes : modes_after opening.modes before ≡ spot.modes
  idle : (q : ℕ) → rebuild_of q before ≡ rebuild.Unasked
  source : HasSource spot.modes

quiet_push : (opening : Spot) (before : List Entry) (spot : Spot) (a : Answer) → Quiet opening before spot
    → Quiet opening (before ++ entry.Answer a ∷ []) (behind_entries spot (entry.Answer a ∷ []))
quiet_push opening before spot a q = record {
  state = replay-push opening.state before (entry.Answer a) ∙ ap (λ s. after_entry s (entry.Answer a)) q.state;
  modes = modes_after-push opening.modes before (entry.Answer a) ∙ q.modes;
  idle = λ r. rebuild_of-push r before (entry.Answer a) ∙ ap (λ b. rebuild_after_add r b (added_by a.call)) (q.idle r)
      ∙ unasked r (added_by a.call);
  source = q.source;
}
  where
    either : (b : Bool) → cond b rebuild.Unasked rebuild.Unasked ≡ rebuild.Unasked
    either true = refl
    either false = refl

    unasked : (r : ℕ) (x : Option ℕ) → rebuild_after_add r rebuild.Unasked x ≡ rebuild.Unasked
    unasked r None = refl
    unasked r (Some q) = either (eqb q r)

-- the first entry, where the entries behind it are known
first_entry : (store : Store) (opening : Spot) (before : List Entry) (spot : Spot) (k : ℕ) (cs : List Call) (a : Answer) (es : List Entry)
    → Quiet opening before spot → LegalAfter opening before (entry.Answer a ∷ es) → AskNone cs → Follows cs (entry.Answer a ∷ es) k
    → ((more : List Entry) (s : Spot) (rest : List Call) → Quiet opening more s → LegalAfter opening more es
    → AskNone rest → Follows rest es (suc k) → es ≡ served_from store s 0 (suc k) (suc k) rest)
    → entry.Answer a ∷ es ≡ served_from store spot 0 k k cs
first_entry store opening before spot k cs a es at legal ask follows later' =
    elim (eqb_tells a.stream 0) [ inl own ↦ mine own.0 own.1 | inr other ↦ absurd (not_mine a.stream other.1 refl) ]
  where
    cond_is : {A : Type 0} (b c : Bool) (x y : A) → b ≡ c → cond b x y ≡ cond c x y
    cond_is b c x y e = ap (λ t. cond t x y) e

    not_nil : {A : Type 0} (x : A) (xs : List A) → x ∷ xs ≡ [] → ⊥
    not_nil x xs e = cc

    not_mine : (s : ℕ) → (s ≡ 0 → ⊥) → a.stream ≡ s → ⊥
    not_mine zero other is = other refl
    not_mine (suc s) other is =
        not_nil (k, a) _ (sym (cond_is (eqb a.stream (suc s)) true ((k, a) ∷ answers_from (suc s) (suc k) es)
        (answers_from (suc s) (suc k) es) (eq-eqb _ _ is)) ∙ follows.other s)

    mine : eqb a.stream 0 ≡ true → a.stream ≡ 0 → entry.Answer a ∷ es ≡ served_from store spot 0 k k cs
    mine test own =
        let answers : answers_from 0 k (entry.Answer a ∷ es) ≡ (k, a) ∷ answers_from 0 (suc k) es =
        cond_is (eqb a.stream 0) true ((k, a) ∷ answers_from 0 (suc k) es) (answers_from 0 (suc k) es) test in
        let order : InOrderFrom k k ((k, a) ∷ answers_from 0 (suc k) es) = subst (InOrderFrom k k) answers follows.order in
        let calls : a.call ∷ map (λ p. p.1.call) (answers_from 0 (suc k) es) ≡ cs = sym (ap (map (λ p. p.1.call)) answers) ∙ follows.own in
        go cs ask own order calls
      where
        go : (cs : List Call) → AskNone cs → a.stream ≡ 0 → InOrderFrom k k ((k, a) ∷ answers_from 0 (suc k) es)
            → a.call ∷ map (λ p. p.1.call) (answers_from 0 (suc k) es) ≡ cs
            → entry.Answer a ∷ es ≡ served_from store spot 0 k k cs
        go [] ask own order calls = absurd (not_nil _ _ calls)
        go (c ∷ rest) ask own order calls =
            let call : a.call ≡ c = heads calls in
            let apart : asks_store a.call ≡ false = ap asks_store call ∙ ask.0 in
            let is = plainly spot before a at.idle
            (subst (λ s. IsEnded (added_by a.call) before s spot.modes a) at.state
            (subst (λ ms. IsEnded (added_by a.call) before (replay opening.state before) ms a) at.modes legal.0)) in
            let none : marks_before spot c ≡ [] = ap (λ x. marks_before spot x) (sym call) ∙ no_marks spot a at.source apart is in
            let first : entry.Answer a ≡ answer_for (refused_at spot c) spot 0 k k c =
            same_answer spot k c a own order.0 (omega (arith, order.1, order.2)) call
            (reply_is spot a at.source apart is ∙ ap (λ x. reply_for (refused_at spot x) spot x) call) in
            let left : behind_entries spot (entry.Answer a ∷ []) ≡ after_done spot c =
            ap (λ e. behind_entries spot (e ∷ [])) first ∙ left_by spot k c none in
            let later = later' (before ++ entry.Answer a ∷ []) (after_done spot c) rest
            (subst (Quiet opening (before ++ entry.Answer a ∷ [])) left (quiet_push opening before spot a at)) legal.1 ask.1
            (record {
              order = order.3;
              own = tails calls;
              other = λ stream. sym (skip stream) ∙ follows.other stream;
            }) in
            joined first later ∙ sym (served_alone store spot k c rest ask.0 none)
          where
            heads : {x y : Call} {xs ys : List Call} → x ∷ xs ≡ y ∷ ys → x ≡ y
            heads e = cc

            tails : {x y : Call} {xs ys : List Call} → x ∷ xs ≡ y ∷ ys → xs ≡ ys
            tails e = cc

            joined : {x y : Entry} {xs ys : List Entry} → x ≡ y → xs ≡ ys → x ∷ xs ≡ y ∷ ys
            joined e f = cc

            zero_not_suc : (stream : ℕ) → 0 ≡ suc stream → ⊥
            zero_not_suc stream e = omega arith

            skip : (stream : ℕ) → answers_from (suc stream) k (entry.Answer a ∷ es) ≡ answers_from (suc stream) (suc k) es
            skip stream = cond_is (eqb a.stream (suc stream)) false ((k, a) ∷ answers_from (suc stream) (suc k) es)
                (answers_from (suc stream) (suc k) es)
                (ne_eqb _ _ (λ e. zero_not_suc stream (sym own ∙ e)))

-- the entries behind those before, which leave this state
unique : (store : Store) (opening : Spot) (before : List Entry) (spot : Spot) (k : ℕ) (cs : List Call) (journal : List Entry)
    → Quiet opening before spot → LegalAfter opening before journal → HasNoMark journal → AskNone cs → Follows cs journal k
    → journal ≡ served_from store spot 0 k k cs
unique store opening before spot k cs [] at legal none ask follows = ap (served_from store spot 0 k k) follows.own
unique store opening before spot k cs (entry.Mark m ∷ es) at legal none ask follows = absurd none
unique store opening before spot k cs (entry.Answer a ∷ es) at legal none ask follows =
    first_entry store opening before spot k cs a es at legal ask follows
    (λ more s rest e l q f. unique store opening more s (suc k) rest es e l none q f)

-- ---- the law

-- where there are no calls there are no answers
nil_from_map : (answers : List (ℕ × Answer)) → map (λ p. p.1.call) answers ≡ [] → answers ≡ []
nil_from_map [] e = refl
nil_from_map (p ∷ ps) e = absurd (not_nil e)
  where
    not_nil : p.1.call ∷ map (λ p. p.1.call) ps ≡ [] → ⊥
    not_nil e = cc

pub only_served : (store : Store) (opening : Spot) (counted : ℕ → ℕ → ℕ) (calls : List Call) (journal : List Entry)
    → HasSource opening.modes → AskNone calls
    → IsHistory opening counted (stream_of (calls ∷ [])) journal → HasNoMark journal → journal ≡ served store opening (calls ∷ [])
only_served store opening counted calls journal source ask history none =
    unique store opening [] opening 0 calls journal (record { state = refl; modes = refl; idle = λ q. refl; source = source })
    history.legal none ask (record {
      order = history.order 0;
      own = history.each_once 0;
      other = λ stream. nil_from_map _ (history.each_once (suc stream));
    }) ∙ sym (append-nil (served_from store opening 0 0 0 calls))
