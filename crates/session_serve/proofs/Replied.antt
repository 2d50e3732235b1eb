-- What a call comes to, by what it grew the seat's entries by and by the last answer in the journal.
use Rattle.std.proofs.Common.{◌≡◌, ◌⊎◌, ℕ, suc, Bool, true, false, cond, eqb, List, [], ◌∷◌, ◌++◌, length, map, inl, inr}
use Rattle.std.proofs.Common.{refl, sym, ap, ◌∙◌, subst, arith, append_assoc, append-nil, length-append, eq-eqb}
use Rattle.std.proofs.lemmas.List.{map-append}
use Rattle.volume_model.specs.declared.call.Call.{Call}
use Rattle.volume_model.specs.declared.call.Reply.{Reply}
use Rattle.volume_model.specs.declared.entry.Answer.{Answer}
use Rattle.volume_model.specs.declared.entry.Entry.{Entry}
use Rattle.volume_model.specs.declared.entry.Entry.TheVariants as entry
use Rattle.volume_model.specs.History.{answers_from, calls_of}
use Rattle.volume_model.specs.OneWorker.{behind_entries}
use Rattle.volume_core.specs.State.{State, opening_of}
use Rattle.volume_core.specs.Sound.{IsSound}
use Rattle.desk_lock.specs.Account.{BeginsWith}
use Rattle.stream_steps.specs.Mine.{Mine, Placed, entries_in, answer_placed}
use Rattle.stream_steps.specs.Steps.{IsFrameCall}
use Rattle.client_worker.specs.Serving.{GrewBy, AreServed}
use Rattle.client_worker.proofs.ServedLaws.{served_calls}
use Rattle.world_holder.specs.Lent.{IsSince}
use Rattle.world_holder.specs.View.{view, own_entries}
use Rattle.world_holder.proofs.Entries.{own-append, own_answer}
use Rattle.world_holder.proofs.Grow.{same_opening}
use Rattle.world_holder.proofs.OwnCalls.{calls_at, own_asked}
use Rattle.session_serve.specs.Replies.{IsLastReply, EndsWithCall}
use Rattle.session_serve.specs.Sessions.{own_of, IsReplied}
use Rattle.session_serve.proofs.Lists.{before_or_behind, last_image}
use Rattle.session_serve.proofs.Last.{own_there, same_answer, answered_there}

-- ---- calls

calls_first : (place : ℕ) (b : Bool) (a : Answer) (xs ys : List Call) (more : List (ℕ × Answer))
    → map (λ (p : ℕ × Answer). p.1.call) more ≡ xs ++ ys
    → map (λ (p : ℕ × Answer). p.1.call) (cond b ((place, a) ∷ more) more) ≡ cond b (a.call ∷ xs) xs ++ ys
calls_first place true a xs ys more e = ap (λ l. a.call ∷ l) e
calls_first place false a xs ys more e = e

cond_calls : (b : Bool) (place : ℕ) (a : Answer) (more : List (ℕ × Answer))
    → cond b (a.call ∷ map (λ (p : ℕ × Answer). p.1.call) more) (map (λ (p : ℕ × Answer). p.1.call) more)
    ≡ map (λ (p : ℕ × Answer). p.1.call) (cond b ((place, a) ∷ more) more)
cond_calls true place a more = refl
cond_calls false place a more = refl

-- of entries behind others
calls-append : (n place : ℕ) (xs ys : List Entry)
    → (q : ℕ) × (calls_at n place (xs ++ ys) ≡ calls_at n place xs ++ calls_at n q ys)
calls-append n place [] ys = (place, refl)
calls-append n place (entry.Mark m ∷ xs) ys = calls-append n (suc place) xs ys
calls-append n place (entry.Answer a ∷ xs) ys =
    let more = calls-append n (suc place) xs ys in (
      more.0,
      calls_first place (eqb a.stream n) a (calls_at n (suc place) xs) (calls_at n more.0 ys)
          (answers_from n (suc place) (xs ++ ys)) more.1
          ∙ ap (λ l. l ++ calls_at n more.0 ys) (cond_calls (eqb a.stream n) place a (answers_from n (suc place) xs)),
    )

-- ---- what a call grew the entries by

module _ (n : ℕ) (c : Call) (m m2 : Mine) (grew : GrewBy c m m2) (stream : m.stream ≡ n) where
  entries : m2.entries ≡ m.entries ++ grew.added
  entries = ap (λ (x : Mine). x.entries) grew.is

  last : (qs : List Placed) × (q : Placed) × (grew.added ≡ qs ++ q ∷ []) × (q.entry ≡ entry.Answer grew.served.answer)
  last = last_image (λ (p : Placed). p.entry) grew.added grew.served.marks (entry.Answer grew.served.answer) grew.served.is

  place_of_last : (q : Placed) → q.entry ≡ entry.Answer grew.served.answer → q ≡ answer_placed q.spot grew.served.answer
  place_of_last q e = λ i. record { spot = q.spot; entry = e i }

  -- they end with its answer
  pub ends_with : EndsWithCall n c m2.entries
  ends_with = record {
    front = m.entries ++ last.0;
    spot = last.1.spot;
    answer = grew.served.answer;
    is = entries ∙ ap (λ l. m.entries ++ l) (last.2 ∙ ap (λ q. last.0 ++ q ∷ []) (place_of_last last.1 last.3))
        ∙ sym (append_assoc m.entries last.0 (answer_placed last.1.spot grew.served.answer ∷ []));
    call = grew.served.call;
    by = grew.served.by ∙ stream;
  }

  -- and have one call more
  pub one_call : calls_of n (entries_in m2.entries) ≡ calls_of n (entries_in m.entries) ++ c ∷ []
  one_call =
      let are : AreServed n m.log (c ∷ []) (entries_in grew.added) =
      subst (λ k. AreServed k m.log (c ∷ []) (entries_in grew.added)) stream
      (entries_in grew.added, [], sym (append-nil (entries_in grew.added)), grew.served, refl) in
      let cut = calls-append n 0 (entries_in m.entries) (entries_in grew.added) in
      ap (λ ps. calls_of n (entries_in ps)) entries
      ∙ ap (calls_of n) (map-append (λ (p : Placed). p.entry) m.entries grew.added)
      ∙ cut.1 ∙ ap (λ l. calls_of n (entries_in m.entries) ++ l)
      (served_calls n m.log (c ∷ []) (entries_in grew.added) are cut.0)

-- ---- what a call comes to

module _ (n : ℕ) (c : Call) (r : Reply) (s u t : State) (frame : IsFrameCall c)
    (grew : GrewBy c (view false n s) (view false n u)) (same : view false n t ≡ view false n u)
    (since : IsSince s t) (ok : IsSound t) (reply : IsLastReply n r t.book.entries) where
  own : own_of n t ≡ own_of n u
  own = ap (λ (m : Mine). m.entries) same

  ends : EndsWithCall n c (own_of n u)
  ends = ends_with n c (view false n s) (view false n u) grew refl

  is_own : own_of n t ≡ ends.front ++ answer_placed ends.spot ends.answer ∷ []
  is_own = own ∙ ends.is

  abbrev answer : Answer
  answer = reply.answer

  abbrev before : List Entry
  before = reply.last.before

  abbrev till : List Entry
  till = before ++ entry.Answer answer ∷ []

  call : answer.call ≡ c
  call = ap (λ (a : Answer). a.call)
      (same_answer n (opening_of t) t.book.entries ends.front ends.spot ends.answer is_own answer reply.last) ∙ ends.call

  till_own : own_entries n (opening_of t) till ≡ own_of n t
  till_own = own_there n (opening_of t) t.book.entries ends.front ends.spot ends.answer is_own answer reply.last ∙ sym is_own

  began : opening_of t ≡ opening_of s
  began = same_opening s t since.origin

  -- what the seat had seen does not reach it
  not_seen : (m : List Entry) → s.book.entries ≡ before ++ entry.Answer answer ∷ m → ⊥
  not_seen m e =
      let there = behind_entries (opening_of t) before in
      let p : Placed = answer_placed there answer in
      let more = own_entries n (behind_entries there (entry.Answer answer ∷ [])) m in
      let here : own_entries n there (entry.Answer answer ∷ m) ≡ p ∷ more =
      ap (λ (b : Bool). cond b (p ∷ more) more) (eq-eqb answer.stream n reply.last.by) in
      let whole : own_of n s ≡ own_entries n (opening_of t) before ++ own_entries n there (entry.Answer answer ∷ m) =
      ap (λ o. own_entries n o s.book.entries) (sym began) ∙ ap (own_entries n (opening_of t)) e
      ∙ own-append n (opening_of t) before (entry.Answer answer ∷ m) in
      let up : own_of n t ≡ own_entries n (opening_of t) before ++ p ∷ [] =
      sym till_own ∙ own-append n (opening_of t) before (entry.Answer answer ∷ [])
      ∙ ap (λ l. own_entries n (opening_of t) before ++ l) (own_answer n there answer reply.last.by) in
      let all : own_of n t ≡ own_of n s ++ grew.added = own ∙ entries n c (view false n s) (view false n u) grew refl in
      let end = last n c (view false n s) (view false n u) grew refl in
      omega (
        arith,
        ap length whole,
        length-append (own_entries n (opening_of t) before) (own_entries n there (entry.Answer answer ∷ m)),
        ap length here,
        ap length up,
        length-append (own_entries n (opening_of t) before) (p ∷ []),
        ap length all,
        length-append (own_of n s) grew.added,
        ap length end.2,
        length-append end.0 (end.1 ∷ []),
      )

  seen : BeginsWith before s.book.entries
  seen = by (before_or_behind s.book.entries since.seen.0 before reply.last.behind (entry.Answer answer)
      (sym since.seen.1 ∙ reply.last.is ∙ append_assoc before (entry.Answer answer ∷ []) reply.last.behind))
    where
      by : (((m : List Entry) × (before ≡ s.book.entries ++ m))
          ⊎ ((m : List Entry) × (s.book.entries ≡ before ++ entry.Answer answer ∷ m))) → BeginsWith before s.book.entries
      by (inl m) = m
      by (inr m) = absurd (not_seen m.0 m.1)

  pub replied : IsReplied n c r s t
  replied = record {
    before = before;
    behind = reply.last.behind;
    answer = answer;
    is = reply.last.is;
    seen = seen;
    call = call;
    reply = reply.is;
    by = reply.last.by;
    answered = answered_there n (opening_of t) t.book.entries answer reply.last ok.on.told.legal (subst IsFrameCall (sym call) frame);
    calls = sym (own_asked n (opening_of t) till) ∙ ap (λ ps. calls_of n (entries_in ps)) (till_own ∙ own)
        ∙ one_call n c (view false n s) (view false n u) grew refl
        ∙ ap (λ l. l ++ c ∷ []) (own_asked n (opening_of s) s.book.entries);
    last = till_own;
    legal = ok.on.told.legal;
    order = ok.on.told.ordered.order;
  }
