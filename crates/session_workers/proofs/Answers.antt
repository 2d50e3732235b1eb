-- Which answers a session has in the journal once a call is over.
use Rattle.std.proofs.Common.{◌≡◌, ◌∙◌, ℕ, suc, ◌+◌, Bool, true, false, cond, eqb, List, [], ◌∷◌, ◌++◌, length}
use Rattle.std.proofs.Common.{refl, sym, ap, arith, append-nil, length-append, eq-eqb}
use Rattle.std.proofs.lemmas.List.{length-map}
use Rattle.volume_model.specs.declared.call.Reply.{Reply}
use Rattle.volume_model.specs.declared.entry.Answer.{Answer}
use Rattle.volume_model.specs.declared.entry.Entry.{Entry}
use Rattle.volume_model.specs.declared.entry.Entry.TheVariants as entry
use Rattle.volume_model.specs.History.{Spot, answers_from, answers_of, calls_of}
use Rattle.volume_model.specs.OneWorker.{behind_entries}
use Rattle.volume_model.proofs.LegalLemmas.{answers_from-append}
use Rattle.volume_core.specs.State.{State, opening_of}
use Rattle.stream_steps.specs.Mine.{Placed}
use Rattle.world_holder.specs.Lent.{IsSince}
use Rattle.world_holder.specs.View.{is_own, own_entries}
use Rattle.world_holder.proofs.Entries.{own-append}
use Rattle.world_holder.proofs.Grow.{same_opening}
use Rattle.session_serve.specs.Sessions.{IsReplied, own_of}
use Rattle.session_serve.proofs.Lists.{not_none, tail_same}
use Rattle.frame_stream.specs.Asked.{call_of}
use Rattle.frame_stream.specs.declared.frame.Frame.{Frame}
use Rattle.session_workers.specs.Talking.{HasOneMore}

-- ---- lists

-- what adds nothing is nothing
adds_nothing : {A : Type 0} (xs ys : List A) → xs ++ ys ≡ xs → ys ≡ []
adds_nothing [] ys e = e
adds_nothing (x ∷ xs) ys e = adds_nothing xs ys (tail_same x x (xs ++ ys) xs e)

none_of_length : {A : Type 0} (xs : List A) → length xs ≡ 0 → xs ≡ []
none_of_length [] e = refl
none_of_length (x ∷ xs) e = absurd (omega (arith, e))

-- ---- entries of which none is the session's

no_answer : (b : Bool) (p : Placed) (q : ℕ × Answer) (ps : List Placed) (qs : List (ℕ × Answer)) → cond b (p ∷ ps) ps ≡ []
    → (ps ≡ [] → qs ≡ []) → cond b (q ∷ qs) qs ≡ []
no_answer true p q ps qs e more = absurd (not_none p ps e)
no_answer false p q ps qs e more = more e

none_behind : (b : Bool) (p : Placed) (ps : List Placed) → cond b (p ∷ ps) ps ≡ [] → ps ≡ []
none_behind true p ps e = absurd (not_none p ps e)
none_behind false p ps e = e

-- they have no answer of it
pub none_answered : (n place : ℕ) (spot : Spot) (es : List Entry) → own_entries n spot es ≡ [] → answers_from n place es ≡ []
none_answered n place spot [] none = refl
none_answered n place spot (entry.Answer a ∷ es) none =
    let after = behind_entries spot (entry.Answer a ∷ []) in
    no_answer (eqb a.stream n) (record { spot = spot; entry = entry.Answer a }) (place, a) (own_entries n after es)
    (answers_from n (suc place) es) none (none_answered n (suc place) after es)
none_answered n place spot (entry.Mark m ∷ es) none =
    let after = behind_entries spot (entry.Mark m ∷ []) in
    none_answered n (suc place) after es
    (none_behind (is_own n (entry.Mark m)) (record { spot = spot; entry = entry.Mark m }) (own_entries n after es) none)

-- and behind others they add none
pub adds_none : (n : ℕ) (spot : Spot) (xs ys : List Entry) → own_entries n spot (xs ++ ys) ≡ own_entries n spot xs
    → answers_of n (xs ++ ys) ≡ answers_of n xs
adds_none n spot xs ys same =
    let none = adds_nothing (own_entries n spot xs) (own_entries n (behind_entries spot xs) ys)
    (sym (own-append n spot xs ys) ∙ same) in
    answers_from-append n 0 xs ys
    ∙ ap (λ l. answers_of n xs ++ l) (none_answered n (0 + length xs) (behind_entries spot xs) ys none)
    ∙ append-nil (answers_of n xs)

-- ---- a call that was not made

pub none_made : (n : ℕ) (s t : State) → IsSince s t → own_of n t ≡ own_of n s
    → answers_of n t.book.entries ≡ answers_of n s.book.entries
none_made n s t since same =
    let began = same_opening s t since.origin in
    ap (answers_of n) since.seen.1
    ∙ adds_none n (opening_of t) s.book.entries since.seen.0
    (sym (ap (own_entries n (opening_of t)) since.seen.1) ∙ same ∙ ap (λ o. own_entries n o s.book.entries) (sym began))

-- ---- one that was

one_answer : (n place : ℕ) (a : Answer) → a.stream ≡ n → answers_from n place (entry.Answer a ∷ []) ≡ (place, a) ∷ []
one_answer n place a by = ap (λ b. cond b ((place, a) ∷ []) []) (eq-eqb a.stream n by)

module _ (n : ℕ) (f : Frame) (r : Reply) (s t : State) (is : IsReplied n (call_of f) r s t) where
  abbrev till : List Entry
  till = is.before ++ entry.Answer is.answer ∷ []

  abbrev between : List Entry
  between = is.seen.0

  abbrev were : List (ℕ × Answer)
  were = answers_of n s.book.entries

  -- up to it the answers are those that there were, maybe some, and this one
  upto : answers_of n till
      ≡ (were ++ answers_from n (0 + length s.book.entries) between) ++ (0 + length is.before, is.answer) ∷ []
  upto = answers_from-append n 0 is.before (entry.Answer is.answer ∷ [])
      ∙ ap (λ l. answers_of n is.before ++ l) (one_answer n (0 + length is.before) is.answer is.by)
      ∙ ap (λ l. l ++ (0 + length is.before, is.answer) ∷ []) (ap (answers_of n) is.seen.1
      ∙ answers_from-append n 0 s.book.entries between)

  -- and there are none but these
  none_between : answers_from n (0 + length s.book.entries) between ≡ []
  none_between =
      let some = answers_from n (0 + length s.book.entries) between in
      let one : List (ℕ × Answer) = (0 + length is.before, is.answer) ∷ [] in
      none_of_length some (omega (
        arith,
        ap length is.calls,
        length-append (calls_of n s.book.entries) (call_of f ∷ []),
        length-map were (λ (p : ℕ × Answer). p.1.call),
        length-map (answers_of n till) (λ (p : ℕ × Answer). p.1.call),
        ap length upto,
        length-append (were ++ some) one,
        length-append were some,
      ))

  pub one_made : HasOneMore n f s.book.entries t.book.entries is.answer
  one_made = record {
    place = 0 + length is.before;
    answers = ap (answers_of n) is.is
        ∙ adds_none n (opening_of t) till is.behind (sym (ap (own_entries n (opening_of t)) is.is) ∙ sym is.last)
        ∙ upto ∙ ap (λ l. (were ++ l) ++ (0 + length is.before, is.answer) ∷ []) none_between
        ∙ ap (λ l. l ++ (0 + length is.before, is.answer) ∷ []) (append-nil were);
    call = is.call;
  }
