-- How an operation on the whole volume goes on, a replica after another.
use Rattle.std.proofs.Common.{◌≡◌, ◌≢◌, ℕ, zero, suc, ◌+◌, ◌<◌, arith, ◌⊎◌, inl, inr, ⊎_elim, Bool, true, false, pos}
use Rattle.std.proofs.Common.{List, [], ◌∷◌, ◌++◌, set, Option, Some, None, IfSome, Result, Ok, Err, OnOk, OnErr}
use Rattle.std.proofs.Common.{IfErr, is_ok, is_err, subst, sym, refl, ap, ◌∙◌}
use Rattle.std.proofs.lemmas.Bool.{cases_eq}
use Rattle.volume_model.specs.declared.call.Reply.TheVariants as reply
use Rattle.step_answers.specs.declared.parts.Part.{Part}
use Rattle.step_answers.specs.declared.parts.Part.TheVariants.{Apart, Owed, Taken, Acked}
use Rattle.step_answers.specs.declared.whole_op.WholeOp.{WholeOp}
use Rattle.step_answers.specs.declared.whole_op.WholeOp.TheVariants as whole
use Rattle.step_answers.specs.Asked.{command_of}
use Rattle.step_answers.specs.Parts.{part_at, IsTaken}
use Rattle.volume_model.specs.declared.entry.Entry.TheVariants as entry
use Rattle.volume_model.specs.declared.mark.Mark.TheVariants as mark
use Rattle.volume_model.specs.declared.mode.Mode.{Mode}
use Rattle.volume_model.specs.declared.mode.Mode.TheVariants.{Err as Failed}
use Rattle.volume_model.specs.Modes.{mode_of}
use Rattle.step_answers.specs.declared.answers.NotThis.{NotThis}
use Rattle.step_answers.specs.declared.answers.NotThis.TheVariants as against
use Rattle.step_answers.specs.declared.answers.AdmitWhole.{AdmitWhole}
use Rattle.step_answers.specs.declared.answers.AdmitWhole.TheVariants as admit
use Rattle.outer_traits.specs.Lines.{TellsMore}
use Rattle.stream_steps.specs.Mine.{Mine, OwnCall, entries_in, with_running, answer_placed}
use Rattle.stream_steps.specs.Maint.{HasWhole, AnswersWhole, StartsWhole, StartsAs, AdmitsWhole}
use Rattle.stream_steps.specs.Maint.{AgainstPart, AgainstAckWhole, WholeEnds}
use Rattle.client_worker.specs.Exchanges.{told_in, HasExchange}
use Rattle.client_worker.specs.Asking.{TellOn, TellsFrame}
use Rattle.client_worker.proofs.Told.{exchange-more, exchange-now, still}
use Rattle.control_worker.specs.Frames.{part_request, part_reply, ask_request, done_reply, HasAsked, HasPartAsked, IsPartText}
use Rattle.control_worker.specs.Whole.{Goes, GoesOn, OwesNoMore, OwesNone, AwaitsNone, KeepsWhole, IsWhole, AreAsked}
use Rattle.control_worker.specs.Whole.{IsAskedLast, IsNoPart, PartsShown, RefusedWhole, EndsBehind}
use Rattle.control_worker.proofs.Goes.{goes_running, goes_to, goes_same, goes_then}
use Rattle.control_worker.proofs.ShownLemmas.{StaysShown, stays_same, stays_running, stays_others, stays_answer}

-- ---- the operation that there is

abbrev last_or : OwnCall → List OwnCall → OwnCall
last_or d [] = d
last_or d (x ∷ xs) = last_or x xs

last-push : (d x : OwnCall) (xs : List OwnCall) → last_or d (xs ++ x ∷ []) ≡ x
last-push d x [] = refl
last-push d x (y ∷ ys) = last-push y x ys

pub one_end : (xs ys : List OwnCall) (x y : OwnCall) → xs ++ x ∷ [] ≡ ys ++ y ∷ [] → x ≡ y
one_end xs ys x y e = sym (last-push x x xs) ∙ ap (last_or x) e ∙ last-push x y ys

pub whole_call : (t : ℕ) (op op2 : WholeOp) (turn turn2 : List OwnCall) (o o2 : OwnCall) (m : Mine) → HasWhole t op turn o m
    → HasWhole t op2 turn2 o2 m → o ≡ o2
whole_call t op op2 turn turn2 o o2 m h k = one_end turn turn2 o o2 (sym h.is ∙ k.is)

pub whole_after : (t : ℕ) (op : WholeOp) (turn : List OwnCall) (o : OwnCall) (parts : List Part) (a b : Mine)
    → HasWhole t op turn o a → Goes (turn ++ record o { parts = parts } ∷ []) a b
    → HasWhole t op turn (record o { parts = parts }) b
whole_after t op turn o parts a b h g = record {
  is = goes_running (turn ++ record o { parts = parts } ∷ []) a b g;
  number = h.number;
  call = h.call;
  does = h.does;
}

-- ---- it is kept

pub keeps_on : (t : ℕ) (a b : Mine) → GoesOn a b → KeepsWhole t a b
keeps_on t a b g = λ op turn o h. (o.parts, λ r owes. owes, subst (λ os. Goes os a b) h.is g)

pub keeps_same : (t : ℕ) (a b : Mine) → b ≡ a → KeepsWhole t a b
keeps_same t a b e = keeps_on t a b (goes_same a b e)

pub keeps_then : (t : ℕ) (a b c : Mine) → KeepsWhole t a b → KeepsWhole t b c → KeepsWhole t a c
keeps_then t a b c f k = λ op turn o h.
    let x = f op turn o h in
    let y = k op turn (record o { parts = x.0 }) (whole_after t op turn o x.0 a b h x.2) in (
      y.0,
      λ r owes. x.1 r (y.1 r owes),
      goes_then (turn ++ record o { parts = x.0 } ∷ [])
          (turn ++ record o { parts = y.0 } ∷ []) a b c x.2 y.2,
    )

pub whole_kept : (t : ℕ) (s : Bool) (op : WholeOp) (a b : Mine) → KeepsWhole t a b → IsWhole s t op a → IsWhole s t op b
whole_kept t s op a b k w =
    let x = k op w.0 w.1 w.2 in
    (w.0, record w.1 { parts = x.0 }, whole_after t op w.0 w.1 x.0 a b w.2 x.2, w.3)

pub not_taken : Taken ≢ Owed
not_taken e = cc

pub not_acked : Acked ≢ Owed
not_acked e = cc

-- one that has another part now owes none
owed_before : (parts : List Part) (r : ℕ) (p : Part) → p ≢ Owed → OwesNoMore parts (set parts r p)
owed_before [] r p other q e = e
owed_before (x ∷ xs) zero p other zero e = absurd (other e)
owed_before (x ∷ xs) zero p other (suc q) e = e
owed_before (x ∷ xs) (suc r) p other zero e = e
owed_before (x ∷ xs) (suc r) p other (suc q) e = owed_before xs r p other q e

-- a replica has another part now, or all is as it was
abbrev pub IfSet : {E : Type 0} → Result (Unit {0}) E → Part → ℕ → ℕ → Mine → Mine → Type 0
IfSet res p t r a b = OnOk res ((op : WholeOp) (turn : List OwnCall) (o : OwnCall) → HasWhole t op turn o a
    → b ≡ with_running a (turn ++ record o { parts = set o.parts r p } ∷ []))

-- with the other part it is there still
set_whole : (p : Part) (t r : ℕ) (op : WholeOp) (a b : Mine) (w : IsWhole true t op a)
    → ((op : WholeOp) (turn : List OwnCall) (o : OwnCall) → HasWhole t op turn o a
    → b ≡ with_running a (turn ++ record o { parts = set o.parts r p } ∷ []))
    → HasWhole t op w.0 (record w.1 { parts = set w.1.parts r p }) b
set_whole p t r op a b w ok =
    let ps = set w.1.parts r p in
    whole_after t op w.0 w.1 ps a b w.2 (goes_to (w.0 ++ record w.1 { parts = ps } ∷ []) a b (ok op w.0 w.1 w.2))

pub keeps_set : {E : Type 0} (res : Result (Unit {0}) E) (p : Part) → p ≢ Owed → (t r : ℕ) (a b : Mine) → IfSet res p t r a b
    → OnErr res (b ≡ a) → KeepsWhole t a b
keeps_set (Ok u) p other t r a b ok err =
    λ op turn o h. (
      set o.parts r p,
      owed_before o.parts r p other,
      goes_to (turn ++ record o { parts = set o.parts r p } ∷ []) a b (ok op turn o h),
    )
keeps_set (Err e) p other t r a b ok err = keeps_same t a b err

pub stays_set : {E : Type 0} (res : Result (Unit {0}) E) (p : Part) (t r : ℕ) (op : WholeOp) (a b : Mine) → IsWhole true t op a
    → IfSet res p t r a b → OnErr res (b ≡ a) → StaysShown a b
stays_set (Ok u) p t r op a b w ok err =
    stays_running (w.0 ++ record w.1 { parts = set w.1.parts r p } ∷ []) a b (ok op w.0 w.1 w.2)
stays_set (Err e) p t r op a b w ok err = stays_same a b err

-- ---- who owes its part

-- of the operation that there is, what is true of one is true of any
owes_none_of : (t r : ℕ) (op : WholeOp) (turn : List OwnCall) (o : OwnCall) (m : Mine) → HasWhole t op turn o m
    → part_at o.parts r ≢ Owed → OwesNone t op r m
owes_none_of t r op turn o m h free turn2 o2 k owes =
    free (ap (λ (x : OwnCall). part_at x.parts r) (whole_call t op op turn turn2 o o2 m h k) ∙ owes)

awaits_none_of : (t r : ℕ) (op : WholeOp) (turn : List OwnCall) (o : OwnCall) (m : Mine) → HasWhole t op turn o m
    → part_at o.parts r ≢ Taken → AwaitsNone t op r m
awaits_none_of t r op turn o m h free turn2 o2 k waits =
    free (ap (λ (x : OwnCall). part_at x.parts r) (whole_call t op op turn turn2 o o2 m h k) ∙ waits)

-- it is so from then on
pub owes_none_on : (t r : ℕ) (s : Bool) (op : WholeOp) (a b : Mine) → IsWhole s t op a → KeepsWhole t a b
    → OwesNone t op r a → OwesNone t op r b
owes_none_on t r s op a b w k free =
    let x = k op w.0 w.1 w.2 in
    owes_none_of t r op w.0 (record w.1 { parts = x.0 }) b (whole_after t op w.0 w.1 x.0 a b w.2 x.2)
    (λ owes. free w.0 w.1 w.2 (x.1 r owes))

-- with another part in the place of its own
part_is : (parts : List Part) (r : ℕ) (p other : Part) → other ≢ Apart → p ≢ other → part_at (set parts r p) r ≢ other
part_is [] r p other there apart e = there (sym e)
part_is (x ∷ xs) zero p other there apart e = apart e
part_is (x ∷ xs) (suc r) p other there apart e = part_is xs r p other there apart e

-- it took its part
pub part_taken : (res : Result (Unit {0}) NotThis) → is_err res ≡ false → (t r : ℕ) (op : WholeOp) (a b : Mine) → IsWhole true t op a
    → IfSet res Taken t r a b → OwesNone t op r b
part_taken (Ok u) was t r op a b w ok =
    owes_none_of t r op w.0 (record w.1 { parts = set w.1.parts r Taken }) b (set_whole Taken t r op a b w ok)
    (part_is w.1.parts r Taken Owed there not_taken)
  where
    there : Owed ≢ Apart
    there e = cc
part_taken (Err x) was t r op a b w ok = absurd cc

-- or owed none, or has failed
pub part_asked : (res : Result (Unit {0}) NotThis) (t r : ℕ) (op : WholeOp) (a b : Mine) (modes : List Mode) → IsWhole true t op a
    → IfSet res Taken t r a b
    → IfErr res (λ why. (op : WholeOp) (turn : List OwnCall) (o : OwnCall) → HasWhole t op turn o a → AgainstPart modes o r why)
    → OnErr res (b ≡ a)
    → OwesNone t op r b ⊎ (mode_of modes r ≡ Failed)
part_asked (Ok u) t r op a b modes w ok why err = let done : Result (Unit {0}) NotThis = Ok u in inl (part_taken done refl t r op a b w ok)
part_asked (Err (against.Mode m)) t r op a b modes w ok why err = let h = why op w.0 w.1 w.2 in inr (sym h.0 ∙ h.1)
part_asked (Err against.Ticket) t r op a b modes w ok why err =
    inl (subst (OwesNone t op r) (sym err) (owes_none_of t r op w.0 w.1 a w.2 (why op w.0 w.1 w.2)))
part_asked (Err (against.Pending q)) t r op a b modes w ok why err = absurd (why op w.0 w.1 w.2)
part_asked (Err (against.Count n)) t r op a b modes w ok why err = absurd (why op w.0 w.1 w.2)
part_asked (Err against.Page) t r op a b modes w ok why err = absurd (why op w.0 w.1 w.2)

-- one replica more
pub asked_next : (P Q F : ℕ → Type 0) (n : ℕ) → ((r : ℕ) → r < n → P r ⊎ F r) → ((r : ℕ) → P r → Q r) → Q n ⊎ F n → (r : ℕ)
    → r < n + 1 → Q r ⊎ F r
asked_next P Q F n before on last r below =
    ⊎_elim (λ (same : r ≡ n). subst (λ k. Q k ⊎ F k) (sym same) last)
    (λ other. ⊎_elim (λ p. inl (on r p)) (λ f. inr f) (before r (omega (arith, below, other)))) (cases_eq r n)

not_untaken : (p : Part) → (IsTaken p → ⊥) → p ≢ Taken
not_untaken p un e = un (subst IsTaken (sym e) tt)

-- it has acknowledged its part, or had not taken it
pub part_replied : (res : Result (Unit {0}) NotThis) (t r : ℕ) (op : WholeOp) (a b : Mine) → IsWhole true t op a
    → IfSet res Acked t r a b
    → IfErr res (λ why. (op : WholeOp) (turn : List OwnCall) (o : OwnCall) → HasWhole t op turn o a → AgainstAckWhole o r why)
    → OnErr res (b ≡ a) → AwaitsNone t op r b
part_replied (Ok u) t r op a b w ok why err =
    awaits_none_of t r op w.0 (record w.1 { parts = set w.1.parts r Acked }) b (set_whole Acked t r op a b w ok)
    (part_is w.1.parts r Acked Taken there other)
  where
    there : Taken ≢ Apart
    there e = cc

    other : Acked ≢ Taken
    other e = cc
part_replied (Err (against.Pending q)) t r op a b w ok why err =
    subst (AwaitsNone t op r) (sym err) (awaits_none_of t r op w.0 w.1 a w.2 (not_untaken (part_at w.1.parts r) (why op w.0 w.1 w.2).1))
part_replied (Err (against.Mode m)) t r op a b w ok why err = absurd (why op w.0 w.1 w.2)
part_replied (Err against.Ticket) t r op a b w ok why err = absurd (why op w.0 w.1 w.2)
part_replied (Err (against.Count n)) t r op a b w ok why err = absurd (why op w.0 w.1 w.2)
part_replied (Err against.Page) t r op a b w ok why err = absurd (why op w.0 w.1 w.2)

-- ---- what lines show of it

-- one that took its part has not acknowledged it thereby
acked_before : (parts : List Part) (r q : ℕ) → part_at (set parts r Taken) q ≡ Acked → part_at parts q ≡ Acked
acked_before [] r q e = e
acked_before (p ∷ ps) zero zero e = absurd cc
acked_before (p ∷ ps) zero (suc q) e = e
acked_before (p ∷ ps) (suc r) zero e = e
acked_before (p ∷ ps) (suc r) (suc q) e = acked_before ps r q e

acked_now : (parts : List Part) (r q : ℕ) → part_at (set parts r Acked) q ≡ Acked → (q ≡ r) ⊎ (part_at parts q ≡ Acked)
acked_now [] r q e = inr e
acked_now (p ∷ ps) zero zero e = inl refl
acked_now (p ∷ ps) zero (suc q) e = inr e
acked_now (p ∷ ps) (suc r) zero e = inr e
acked_now (p ∷ ps) (suc r) (suc q) e = elim (acked_now ps r q e) [ inl same ↦ inl (ap suc same) | inr was ↦ inr was ]

-- what is shown of the one that there is
pub parts_shown : (t : ℕ) (op : WholeOp) (turn : List OwnCall) (o : OwnCall) (m : Mine) (carried : List (Option (List (List ℕ))))
    → HasWhole t op turn o m → o.started ≡ true → AreAsked (told_in carried) op o → PartsShown t op m carried
parts_shown t op turn o m carried h is acked = record {
  started = (turn, o, h, is);
  acked = λ turn2 o2 k. subst (λ (x : OwnCall). AreAsked (told_in carried) op x) (whole_call t op op turn turn2 o o2 m h k) acked;
}

asked-more : (text : List ℕ) (xs ys : List (List ℕ)) → HasAsked (pos 0) text xs → HasAsked (pos 0) text (xs ++ ys)
asked-more text xs ys h = (h.0, exchange-more (ask_request h.0 (pos 0) text) (done_reply h.0 (pos 0)) xs ys h.1)

part-more : (op : WholeOp) (xs ys : List (List ℕ)) → HasPartAsked op xs → HasPartAsked op (xs ++ ys)
part-more op xs ys h = (h.0, h.1, asked-more h.0 xs ys h.2)

asked-on : (before now : List (Option (List (List ℕ)))) (op : WholeOp) (o : OwnCall) → TellOn before now
    → AreAsked (told_in before) op o → AreAsked (told_in now) op o
asked-on before now op o on h = λ r e. still (HasPartAsked op) (part-more op) (told_in before r) (told_in now r) (on r).0 (on r).1 (h r e)

-- behind carries, with the lines that failed told
pub shown_on : (t : ℕ) (op : WholeOp) (a b : Mine) (before carried : List (Option (List (List ℕ)))) → GoesOn a b
    → TellOn before carried → PartsShown t op a before → PartsShown t op b carried
shown_on t op a b before carried g on h = record {
  started = whole_kept t true op a b (keeps_on t a b g) h.started;
  acked = λ turn o k. asked-on before carried op o on
      (h.acked turn o (record {
        is = sym (goes_running a.running a b g) ∙ k.is;
        number = k.number;
        call = k.call;
        does = k.does;
      }));
}

shown_same : (t : ℕ) (op : WholeOp) (a b : Mine) (carried : List (Option (List (List ℕ)))) → b ≡ a
    → PartsShown t op a carried → PartsShown t op b carried
shown_same t op a b carried e h = subst (λ (m : Mine). PartsShown t op m carried) (sym e) h

pub shown_parts : {E : Type 0} (res : Result (Unit {0}) E) (t r : ℕ) (op : WholeOp) (a b : Mine)
    (carried : List (Option (List (List ℕ)))) → IfSet res Taken t r a b → OnErr res (b ≡ a) → PartsShown t op a carried
    → PartsShown t op b carried
shown_parts (Ok u) t r op a b carried ok err h =
    let w = h.started in
    parts_shown t op w.0 (record w.1 { parts = set w.1.parts r Taken }) b carried (set_whole Taken t r op a b w ok) w.3
    (λ q was. h.acked w.0 w.1 w.2 q (acked_before w.1.parts r q was))
shown_parts (Err x) t r op a b carried ok err h = shown_same t op a b carried err h

-- the request is told last, so that the reply makes the exchange
asked_now : (seq : ℕ) (op : WholeOp) (s t : Option (List (List ℕ))) → IsAskedLast seq op s
    → TellsMore s t (part_reply seq ∷ []) → IfSome t (HasPartAsked op)
asked_now seq op s None last h = tt
asked_now seq op None (Some now) last h = absurd h
asked_now seq op (Some before) (Some now) last h = (
  last.1,
  last.2,
  (
    seq,
    subst (HasExchange (part_request seq last.1) (part_reply seq)) (sym h)
        (exchange-now (part_request seq last.1) (part_reply seq) last.0 before last.3),
  ),
)

pub shown_acks : {E : Type 0} (res : Result (Unit {0}) E) (t r seq : ℕ) (op : WholeOp) (a b : Mine)
    (before carried : List (Option (List (List ℕ)))) (reply : List ℕ)
    → IsAskedLast seq op (told_in before r) → reply ≡ part_reply seq → TellsFrame before carried r reply
    → IfSet res Acked t r a b → OnErr res (b ≡ a) → PartsShown t op a carried → PartsShown t op b carried
shown_acks (Ok u) t r seq op a b before carried reply last is tells ok err h =
    let w = h.started in
    let here = asked_now seq op (told_in before r) (told_in carried r) last
    (subst (λ f. TellsMore (told_in before r) (told_in carried r) (f ∷ [])) is tells) in
    parts_shown t op w.0 (record w.1 { parts = set w.1.parts r Acked }) b carried (set_whole Acked t r op a b w ok) w.3
    (λ q now. ⊎_elim (λ (same : q ≡ r). subst (λ k. IfSome (told_in carried k) (HasPartAsked op)) (sym same) here)
    (λ was. h.acked w.0 w.1 w.2 q was) (acked_now w.1.parts r q now))
shown_acks (Err x) t r seq op a b before carried reply last is tells ok err h = shown_same t op a b carried err h

-- a request that came through is told last
pub asked_last : (seq : ℕ) (op : WholeOp) (text request : List ℕ) (s t : Option (List (List ℕ))) → IsPartText op text
    → request ≡ part_request seq text → TellsMore s t (request ∷ []) → IsAskedLast seq op t
asked_last seq op text request s None is e h = tt
asked_last seq op text request None (Some now) is e h = absurd h
asked_last seq op text request (Some before) (Some now) is e h = (before, text, is, h ∙ ap (λ f. before ++ f ∷ []) e)

-- ---- its start

module _ {t : ℕ} {m0 m : Mine} (m2 : Mine) (a : AdmitWhole) (same : m ≡ m0)
    (ok : (op : WholeOp) (turn : List OwnCall) (o : OwnCall) → HasWhole t op turn o m → AdmitsWhole op turn o a m m2) where
  told : (op : WholeOp) (turn : List OwnCall) (o : OwnCall) → HasWhole t op turn o m0 → AdmitsWhole op turn o a m0 m2
  told = subst (λ (x : Mine). (op : WholeOp) (turn : List OwnCall) (o : OwnCall) → HasWhole t op turn o x
      → AdmitsWhole op turn o a x m2) same ok

  pub starts : a ≡ admit.Go → (op : WholeOp) (turn : List OwnCall) (o : OwnCall) → HasWhole t op turn o m0 → StartsAs op turn o m0 m2
  starts e op turn o h = subst (λ b. AdmitsWhole op turn o b m0 m2) e (told op turn o h)

  pub refused : (why : _) (place : ℕ) → a ≡ admit.Refused why place → (op : WholeOp) (turn : List OwnCall) (o : OwnCall)
      → HasWhole t op turn o m0 → RefusedWhole o m0 m2
  refused why place e op turn o h =
      let r = subst (λ b. AdmitsWhole op turn o b m0 m2) e (told op turn o h) in
      record { why = why; answers = r.0; right = r.1 }

  pub waits : (n : ℕ) → a ≡ admit.After n → ((op : WholeOp) × IsWhole false t op m0) → m2 ≡ m
  waits n e w = subst (λ b. AdmitsWhole w.0 w.1.0 w.1.1 b m m2) e
      (ok w.0 w.1.0 w.1.1 (subst (HasWhole t w.0 w.1.0 w.1.1) (sym same) w.1.2))

-- the operation that has started
pub started_whole : (t : ℕ) (op : WholeOp) (turn : List OwnCall) (o : OwnCall) (a b : Mine) → HasWhole t op turn o a
    → (s : StartsWhole turn o a b) → HasWhole t op turn s.own b
started_whole t op turn o a b h s = record {
  is = ap (λ (m : Mine). m.running) s.is;
  number = ap (λ (x : OwnCall). x.number) s.same ∙ h.number;
  call = ap (λ (x : OwnCall). x.call) s.same ∙ h.call;
  does = ap (λ (x : OwnCall). x.op) s.same ∙ h.does;
}

-- one that has started, which no replica has acknowledged
pub record Started (t : ℕ) (op : WholeOp) (turn : List OwnCall) (a b : Mine) : Type 0 where
  pub own : OwnCall
  pub has : HasWhole t op turn own b
  pub started : own.started ≡ true
  pub none : (r : ℕ) → part_at own.parts r ≢ Acked
  pub stays : StaysShown a b

plainly : (t : ℕ) (op : WholeOp) (turn : List OwnCall) (o : OwnCall) (a b : Mine) → HasWhole t op turn o a
    → StartsWhole turn o a b → Started t op turn a b
plainly t op turn o a b h s = record {
  own = s.own;
  has = started_whole t op turn o a b h s;
  started = ap (λ (x : OwnCall). x.started) s.same;
  none = s.none;
  stays = stays_running (turn ++ s.own ∷ []) a b s.is;
}

pub has_started : (t : ℕ) (op : WholeOp) (turn : List OwnCall) (o : OwnCall) (a b : Mine) → HasWhole t op turn o a
    → StartsAs op turn o a b → Started t op turn a b
has_started t (whole.Snapshot name) turn o a b h s = plainly t (whole.Snapshot name) turn o a b h s
has_started t (whole.Remove name) turn o a b h s = plainly t (whole.Remove name) turn o a b h s
has_started t (whole.Revert name) turn o a b h s = plainly t (whole.Revert name) turn o a b h s
has_started t (whole.Purge f) turn o a b h s = plainly t (whole.Purge f) turn o a b h s
has_started t (whole.Barrier r) turn o a b h s = record {
  own = s.own;
  has = record {
    is = ap (λ (m : Mine). m.running) s.is;
    number = ap (λ (x : OwnCall). x.number) s.same ∙ h.number;
    call = ap (λ (x : OwnCall). x.call) s.same ∙ h.call;
    does = ap (λ (x : OwnCall). x.op) s.same ∙ h.does;
  };
  started = ap (λ (x : OwnCall). x.started) s.same;
  none = s.none;
  stays = stays_others (entry.Mark (mark.Added r s.source s.name) ∷ []) (turn ++ s.own ∷ []) a b s.is;
}

-- of an operation that is no part
pub starts_plainly : (op : WholeOp) → IsNoPart op → (turn : List OwnCall) (o : OwnCall) (a b : Mine)
    → StartsAs op turn o a b → StartsWhole turn o a b
starts_plainly (whole.Snapshot name) n turn o a b s = s
starts_plainly (whole.Remove name) n turn o a b s = s
starts_plainly (whole.Revert name) n turn o a b s = s
starts_plainly (whole.Purge f) n turn o a b s = absurd n
starts_plainly (whole.Barrier r) n turn o a b s = absurd n

-- ---- what lines show of its start and its end

answered_stays : (op : WholeOp) (turn : List OwnCall) (o : OwnCall) (r : _) (t : ℕ) (a b : Mine) → HasWhole t op turn o a
    → AnswersWhole o r a b → StaysShown a b
answered_stays op turn o r t a b h s =
    stays_answer (command_of op) s.spot s.answer (entries_in (answer_placed s.spot s.answer ∷ [])) a b s.is (s.call ∙ h.call)

pub admitted_stays : (t : ℕ) (op : WholeOp) (turn : List OwnCall) (o : OwnCall) (x : AdmitWhole) (a b : Mine)
    → HasWhole t op turn o a → AdmitsWhole op turn o x a b → StaysShown a b
admitted_stays t op turn o admit.Go a b h s = (has_started t op turn o a b h s).stays
admitted_stays t op turn o (admit.After n) a b h s = stays_same a b s
admitted_stays t op turn o admit.Never a b h s = stays_same a b s
admitted_stays t op turn o (admit.Refused why place) a b h s = answered_stays op turn o (reply.Refused why) t a b h s.0

pub ended_stays : (t : ℕ) (op : WholeOp) (turn : List OwnCall) (o : OwnCall) (a b : Mine) → HasWhole t op turn o a
    → WholeEnds op turn o a b → StaysShown a b
ended_stays t (whole.Purge f) turn o a b h s = stays_others s.marks turn a b s.is
ended_stays t (whole.Barrier r) turn o a b h s = stays_running turn a b s
ended_stays t (whole.Snapshot name) turn o a b h s = answered_stays (whole.Snapshot name) turn o s.reply t a b h s.answers
ended_stays t (whole.Remove name) turn o a b h s = answered_stays (whole.Remove name) turn o s.reply t a b h s.answers
ended_stays t (whole.Revert name) turn o a b h s = answered_stays (whole.Revert name) turn o s.reply t a b h s.answers

-- one that starts has been acknowledged by no replica
pub starts_shown : (t : ℕ) (op : WholeOp) (turn : List OwnCall) (o : OwnCall) (a b : Mine)
    (carried : List (Option (List (List ℕ)))) → HasWhole t op turn o a → StartsAs op turn o a b → PartsShown t op b carried
starts_shown t op turn o a b carried h s =
    let x = has_started t op turn o a b h s in
    parts_shown t op turn x.own b carried x.has x.started (λ r e. absurd (x.none r e))

-- what asking for its start shows, behind rounds in which it had to wait
pub admits_stays : {t : ℕ} {m0 m m2 : Mine} (a : AdmitWhole) → m ≡ m0
    → ((op : WholeOp) (turn : List OwnCall) (o : OwnCall) → HasWhole t op turn o m → AdmitsWhole op turn o a m m2)
    → ((op : WholeOp) × IsWhole false t op m0) → StaysShown m m2
admits_stays {t = t} {m = m} {m2 = m2} a same ok w =
    let h : HasWhole t w.0 w.1.0 w.1.1 m = subst (HasWhole t w.0 w.1.0 w.1.1) (sym same) w.1.2 in
    admitted_stays t w.0 w.1.0 w.1.1 a m m2 h (ok w.0 w.1.0 w.1.1 h)

pub waits_still : {t : ℕ} {s : Bool} {a b : Mine} → b ≡ a → ((op : WholeOp) × IsWhole s t op a) → (op : WholeOp) × IsWhole s t op b
waits_still {t = t} {s = s} e w = subst (λ (x : Mine). (op : WholeOp) × IsWhole s t op x) (sym e) w

-- the end, whose asking may have been refused before
pub ends_still : {t : ℕ} {m0 m m2 : Mine} → m ≡ m0
    → ((op : WholeOp) (turn : List OwnCall) (o : OwnCall) → HasWhole t op turn o m → WholeEnds op turn o m m2)
    → (op : WholeOp) (turn : List OwnCall) (o : OwnCall) → HasWhole t op turn o m0 → WholeEnds op turn o m0 m2
ends_still {t = t} {m2 = m2} same ok =
    subst (λ (x : Mine). (op : WholeOp) (turn : List OwnCall) (o : OwnCall) → HasWhole t op turn o x
    → WholeEnds op turn o x m2) same ok

pub ends_stays : {t : ℕ} {m0 m m2 : Mine} → m ≡ m0
    → ((op : WholeOp) (turn : List OwnCall) (o : OwnCall) → HasWhole t op turn o m → WholeEnds op turn o m m2)
    → ((op : WholeOp) × IsWhole true t op m0) → StaysShown m m2
ends_stays {t = t} {m = m} {m2 = m2} same ok w =
    let h : HasWhole t w.0 w.1.0 w.1.1 m = subst (HasWhole t w.0 w.1.0 w.1.1) (sym same) w.1.2 in
    ended_stays t w.0 w.1.0 w.1.1 m m2 h (ok w.0 w.1.0 w.1.1 h)

-- what stands of a step that was done
pub ok_of : {A E P : Type 0} (res : Result A E) → is_ok res ≡ true → OnOk res P → P
ok_of (Ok x) e p = p
ok_of (Err x) e p = absurd cc

pub err_of : {A E P : Type 0} (res : Result A E) → is_ok res ≡ false → OnErr res P → P
err_of (Ok x) e p = absurd cc
err_of (Err x) e p = p

-- asked for its parts, and then ended
pub ends_behind : (t : ℕ) (op : WholeOp) (a b c : Mine) → KeepsWhole t a b
    → ((op : WholeOp) (turn : List OwnCall) (o : OwnCall) → HasWhole t op turn o b → WholeEnds op turn o b c)
    → (turn : List OwnCall) (o : OwnCall) → HasWhole t op turn o a → EndsBehind op turn o a c
ends_behind t op a b c k done turn o h =
    let x = k op turn o h in
    record { parts = x.0; mid = b; goes = x.2; ends = done op turn (record o { parts = x.0 }) (whole_after t op turn o x.0 a b h x.2) }
