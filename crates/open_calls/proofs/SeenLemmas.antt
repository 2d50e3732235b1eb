-- What the open calls have seen, once a call is changed, enrolled or gone, or the journal has an entry more.
use Rattle.std.proofs.Common.{◌≡◌, ◌≢◌, ℕ, suc, ◌+◌, ◌<◌, ◌≤◌, ⊎_elim, Bool, true, false, cond, eqb, List, [], ◌∷◌}
use Rattle.std.proofs.Common.{◌++◌, length, set, length-set, refl, sym, ap, subst, ◌∙◌, arith}
use Rattle.std.specs.List.{remove}
use Rattle.std.proofs.lemmas.Bool.{eq-eqb, ne_eqb, cases_lt}
use Rattle.std.proofs.lemmas.List.{append-nil, length-append, get_or_append_left}
use Rattle.std.proofs.lemmas.List.Edits.{length-remove}
use Rattle.volume_model.specs.declared.entry.Answer.{Answer}
use Rattle.volume_model.specs.declared.entry.Entry.{Entry}
use Rattle.volume_model.specs.declared.entry.Entry.TheVariants as entry
use Rattle.volume_model.specs.declared.mark.Mark.{Mark}
use Rattle.volume_model.specs.History.{answers_of, answers_from}
use Rattle.volume_model.proofs.LegalLemmas.{answers_from-append}
use Rattle.open_calls.specs.declared.open_call.OpenCall.{OpenCall}
use Rattle.open_calls.specs.Calls.{no_call, open_at}
use Rattle.open_calls.specs.Clients.{place_behind, behind_last, IsIdle, AreSeen}
use Rattle.open_calls.proofs.ListLemmas.{at_set, at_push, skip, skip-other, skip-in, skip-more, get_or-remove}

-- ---- the answers of a stream, with an entry more

own_answer : (stream n : ℕ) (a : Answer) → a.stream ≡ stream → answers_from stream n (entry.Answer a ∷ []) ≡ (n, a) ∷ []
own_answer stream n a is = ap (λ t. cond t ((n, a) ∷ []) []) (eq-eqb a.stream stream is)

other_answer : (stream n : ℕ) (a : Answer) → a.stream ≢ stream → answers_from stream n (entry.Answer a ∷ []) ≡ []
other_answer stream n a apart = ap (λ t. cond t ((n, a) ∷ []) []) (ne_eqb a.stream stream apart)

pub own_more : (es : List Entry) (a : Answer) → answers_of a.stream (es ++ entry.Answer a ∷ []) ≡ answers_of a.stream es
    ++ (length es, a) ∷ []
own_more es a = answers_from-append a.stream 0 es (entry.Answer a ∷ [])
    ∙ ap (λ l. answers_of a.stream es ++ l) (own_answer a.stream (0 + length es) a refl
    ∙ ap (λ n. (n, a) ∷ []) (omega arith))

pub other_more : (es : List Entry) (a : Answer) (stream : ℕ) → a.stream ≢ stream
    → answers_of stream (es ++ entry.Answer a ∷ []) ≡ answers_of stream es
other_more es a stream apart = answers_from-append stream 0 es (entry.Answer a ∷ [])
    ∙ ap (λ l. answers_of stream es ++ l) (other_answer stream (0 + length es) a apart) ∙ append-nil (answers_of stream es)

pub mark_more : (es : List Entry) (m : Mark) (stream : ℕ) → answers_of stream (es ++ entry.Mark m ∷ []) ≡ answers_of stream es
mark_more es m stream = answers_from-append stream 0 es (entry.Mark m ∷ []) ∙ append-nil (answers_of stream es)

-- ---- the place behind them

-- each answer stands in the journal
behind_below : (stream least place : ℕ) (es : List Entry) → least ≤ place
    → place_behind least (answers_from stream place es) ≤ place + length es
behind_below stream least place [] low = omega arith
behind_below stream least place (entry.Mark m ∷ es) low = omega (arith, behind_below stream least (suc place) es (omega arith))
behind_below stream least place (entry.Answer a ∷ es) low =
    one (eqb a.stream stream) (omega (arith, behind_below stream (suc place) (suc place) es (omega arith)))
    (omega (arith, behind_below stream least (suc place) es (omega arith)))
  where
    one : (b : Bool) → place_behind (suc place) (answers_from stream (suc place) es) ≤ place + suc (length es)
        → place_behind least (answers_from stream (suc place) es) ≤ place + suc (length es)
        → place_behind least (cond b ((place, a) ∷ answers_from stream (suc place) es) (answers_from stream (suc place) es))
        ≤ place + suc (length es)
    one true own other = own
    one false own other = other

pub behind_within : (stream : ℕ) (es : List Entry) → behind_last stream es ≤ length es
behind_within stream es = omega (arith, behind_below stream 0 0 es (omega arith))

-- ---- a call is changed, and keeps its stream and what it saw

module _ (es : List Entry) (calls : List OpenCall) (ok : AreSeen es calls) where
  pub seen_set : (i : ℕ) (x : OpenCall) → i < length calls → x.stream ≡ (open_at calls i).stream
      → x.saw ≡ (open_at calls i).saw → AreSeen es (set calls i x)
  seen_set i x h is saw =
      let stream = λ (j : ℕ). at_set (λ (c : OpenCall). c.stream ≡ (open_at calls j).stream) calls i j x no_call h
      (λ e. is ∙ ap (λ n. (open_at calls n).stream) (sym e)) (λ _. refl) in
      let seen = λ (j : ℕ). at_set (λ (c : OpenCall). c.saw ≡ (open_at calls j).saw) calls i j x no_call h
      (λ e. saw ∙ ap (λ n. (open_at calls n).saw) (sym e)) (λ _. refl) in
      let as_many = length-set calls i x in
      record {
        alone = λ j k l m e. ok.alone j k l (omega (arith, as_many)) (sym (stream j) ∙ e ∙ stream k);
        past = λ j l. subst (λ n. behind_last n es ≤ (open_at (set calls i x) j).saw) (sym (stream j))
            (subst (λ n. behind_last (open_at calls j).stream es ≤ n) (sym (seen j)) (ok.past j (omega (arith, as_many))));
        saw = λ j l. subst (λ n. n ≤ length es) (sym (seen j)) (ok.saw j (omega (arith, as_many)));
      }

  -- ---- a call of an idle stream is enrolled, which has seen its last answer, and no more than there is

  pub seen_push : (x : OpenCall) → IsIdle x.stream calls → behind_last x.stream es ≤ x.saw → x.saw ≤ length es
      → AreSeen es (calls ++ x ∷ [])
  seen_push x idle past saw = record {
    alone = λ j k l m. at_push (λ (c : OpenCall). (open_at (calls ++ x ∷ []) j).stream ≢ c.stream) calls x k no_call m
        (λ n. subst (λ (c : OpenCall). c.stream ≢ (open_at calls k).stream)
        (sym (get_or_append_left calls (x ∷ []) no_call j (omega arith))) (ok.alone j k l n))
        (λ e. subst (λ (c : OpenCall). c.stream ≢ x.stream)
        (sym (get_or_append_left calls (x ∷ []) no_call j (omega arith))) (idle j (omega arith)));
    past = λ j l. at_push (λ (c : OpenCall). behind_last c.stream es ≤ c.saw) calls x j no_call l (ok.past j) (λ _. past);
    saw = λ j l. at_push (λ (c : OpenCall). c.saw ≤ length es) calls x j no_call l (ok.saw j) (λ _. saw);
  }

  -- ---- a call is gone

  module _ (i : ℕ) (h : i < length calls) where
    left : (j : ℕ) → open_at (remove calls i) j ≡ open_at calls (skip i j)
    left j = get_or-remove calls i j no_call h

    left_in : (j : ℕ) → j < length (remove calls i) → skip i j < length calls
    left_in j l = skip-in i j (length calls) (omega (arith, length-remove calls i h))

    pub seen_remove : AreSeen es (remove calls i)
    seen_remove = record {
      alone = λ j k l m. subst (λ (c : OpenCall). c.stream ≢ (open_at (remove calls i) k).stream) (sym (left j))
          (subst (λ (c : OpenCall). (open_at calls (skip i j)).stream ≢ c.stream) (sym (left k))
          (ok.alone (skip i j) (skip i k) (skip-more i j k l) (left_in k m)));
      past = λ j l. subst (λ (c : OpenCall). behind_last c.stream es ≤ c.saw) (sym (left j)) (ok.past (skip i j) (left_in j l));
      saw = λ j l. subst (λ (c : OpenCall). c.saw ≤ length es) (sym (left j)) (ok.saw (skip i j) (left_in j l));
    }

    -- its stream is idle then
    pub idle_once_gone : IsIdle (open_at calls i).stream (remove calls i)
    idle_once_gone j l =
        subst (λ (c : OpenCall). c.stream ≢ (open_at calls i).stream) (sym (left j))
        (λ e. ⊎_elim
        (λ b. ok.alone (skip i j) i b h e)
        (λ b. ok.alone i (skip i j) (omega (arith, skip-other i j)) (left_in j l) (sym e))
        (cases_lt (skip i j) i))

  -- ---- the journal has an entry more

  pub seen_mark : (m : Mark) → AreSeen (es ++ entry.Mark m ∷ []) calls
  seen_mark m = record {
    alone = ok.alone;
    past = λ j l. subst (λ xs. place_behind 0 xs ≤ (open_at calls j).saw) (sym (mark_more es m (open_at calls j).stream)) (ok.past j l);
    saw = λ j l. omega (arith, ok.saw j l, length-append es (entry.Mark m ∷ []));
  }

  -- an answer of an idle stream
  pub seen_answer : (a : Answer) → IsIdle a.stream calls → AreSeen (es ++ entry.Answer a ∷ []) calls
  seen_answer a idle = record {
    alone = ok.alone;
    past = λ j l. subst (λ xs. place_behind 0 xs ≤ (open_at calls j).saw)
        (sym (other_more es a (open_at calls j).stream (λ e. idle j l (sym e)))) (ok.past j l);
    saw = λ j l. omega (arith, ok.saw j l, length-append es (entry.Answer a ∷ []));
  }
