-- A replica acknowledges the open call, which is answered thereby or goes on.
use Rattle.std.proofs.Common.{◌≡◌, ℕ, ◌<◌, Bool, true, false, List, [], ◌∷◌, Option, IfSome, Result, Ok, OnErr, IfOk, IfErr, subst, sym}
use Rattle.std.proofs.Common.{Err as Failed, refl, ap, ◌∙◌}
use Rattle.volume_model.specs.declared.mode.Mode.{Mode}
use Rattle.step_answers.specs.declared.answers.NotThis.{NotThis}
use Rattle.stream_steps.specs.Mine.{Mine, OwnCall, IsOwn, with_running}
use Rattle.stream_steps.specs.Steps.{AcksTo, Answers}
use Rattle.stream_steps.specs.Ended.{acked_by, AcksOrEnds}
use Rattle.stream_steps.specs.Against.{RefusesAck}
use Rattle.stream_steps.specs.Seen.{TellsNext}
use Rattle.client_worker.specs.Exchanges.{told_in}
use Rattle.client_worker.specs.declared.opened.AfterPart.{AfterPart}
use Rattle.client_worker.specs.declared.opened.AfterPart.TheVariants as after
use Rattle.client_worker.specs.Serving.{IsShown, KeepsOpen}
use Rattle.client_worker.specs.Ends.{EndsTo, EndsOpen}
use Rattle.client_worker.specs.Asking.{HasTaken, LacksReply, TellsFrame, AckedOrFailed, GoesToNext, WasAsked}
use Rattle.client_worker.specs.After.{after_ack, is_answered}
use Rattle.client_worker.proofs.Asked.{acked_why}
use Rattle.client_worker.proofs.Going.{one_of, goes_acked, goes_then, no_faults}
use Rattle.client_worker.proofs.Served.{ends_then}
use Rattle.client_worker.proofs.Shown.{shown_replied, shows_answers, shown_same}

-- what is answered does not hang on what is open
answers_again : (o : OwnCall) (a b : Mine) (os : List OwnCall) → Answers o a b → Answers o (with_running a os) b
answers_again o a b os s = record {
  spot = s.spot;
  answer = s.answer;
  is = s.is;
  here = s.here;
  call = s.call;
  by = s.by;
  saw = s.saw;
  done = s.done;
  read = s.read;
}

ends_acked : (o : OwnCall) (r : ℕ) (a b : Mine) → Answers (acked_by o r) a b → EndsTo o a b
ends_acked o r a b s = record {
  marks = [];
  spot = s.spot;
  answer = s.answer;
  is = s.is;
  faults = no_faults a.stream;
  call = s.call;
  by = s.by;
  saw = s.saw;
}

module _ (t r : ℕ) (modes : List Mode) (o : OwnCall) (a b : Mine) (own : IsOwn t o a) where
  -- as the replica acknowledged it, before it was answered
  abbrev mid : Mine
  mid = with_running a (acked_by o r ∷ [])

  acks_mid : (x : OwnCall) → IsOwn t x a → AcksTo x r a mid
  acks_mid x h = subst (λ (y : OwnCall). AcksTo y r a mid) (one_of o x (sym own.is ∙ h.is)) refl

  module _ (counts : List ℕ) (before carried : List (Option (List (List ℕ)))) (reply : List ℕ)
      (lacks : LacksReply o (told_in before r) reply) (tells : TellsFrame before carried r reply) (started : o.started ≡ true)
      (h : IsShown a counts carried) where
    pub shown_acked : (res : Result Bool NotThis) → IfOk res (λ e. (x : OwnCall) → IsOwn t x a → AcksOrEnds x r modes e a b)
        → OnErr res (b ≡ a) → IsShown b counts carried
    shown_acked (Ok true) ok err =
        (shows_answers (acked_by o r) mid b refl started (answers_again (acked_by o r) a b (acked_by o r ∷ []) (ok o own))).1 counts carried
        (shown_replied {E = NotThis} (Ok tt) t r o a mid counts before carried reply own lacks tells acks_mid tt h)
    shown_acked (Ok false) ok err =
        shown_replied {E = NotThis} (Ok tt) t r o a b counts before carried reply own lacks tells (λ x is. (ok x is).acks) tt h
    shown_acked (Failed why) ok err = shown_same a b err counts carried h

  pub replicas_acked : (res : Result Bool NotThis) → IfOk res (λ e. (x : OwnCall) → IsOwn t x a → AcksOrEnds x r modes e a b)
      → OnErr res (b ≡ a) → b.replicas ≡ a.replicas
  replicas_acked (Ok true) ok err = ap (λ (m : Mine). m.replicas) (ok o own).is
  replicas_acked (Ok false) ok err = ap (λ (m : Mine). m.replicas) (ok o own).acks
  replicas_acked (Failed why) ok err = ap (λ (m : Mine). m.replicas) err

  -- what the replica was asked for has come to that
  pub asked_acked : (res : Result Bool NotThis) (next : Option ℕ) → HasTaken o r → TellsNext modes r a.replicas next
      → IfOk res (λ e. (x : OwnCall) → IsOwn t x a → AcksOrEnds x r modes e a b)
      → IfErr res (λ why. (x : OwnCall) → IsOwn t x a → RefusesAck modes x r why) → OnErr res (b ≡ a)
      → WasAsked modes r a b (after_ack res next)
  asked_acked (Ok true) next taken tells ok why err = λ x run.
      subst (λ (y : OwnCall). EndsTo y a b) (one_of o x (sym own.is ∙ run)) (ends_acked o r a b (ok o own))
  asked_acked (Ok false) next taken tells ok why err = record {
    goes = goes_acked {E = NotThis} (Ok tt) t r a b (o, own) (λ x is. (ok x is).acks) tt;
    asked = acked_why (Ok tt) t r modes o a b own taken (λ x is. (ok x is).acks) tt tt;
    up = tells.next;
    inside = tells.inside;
  }
  asked_acked (Failed x) next taken tells ok why err = record {
    goes = goes_acked (Failed x) t r a b (o, own) tt err;
    asked = acked_why (Failed x) t r modes o a b own taken tt err why;
    up = tells.next;
    inside = tells.inside;
  }

-- it came to that behind what went on before
pub was_asked : (modes : List Mode) (r : ℕ) (a b c : Mine) → KeepsOpen a b → b.replicas ≡ a.replicas → (x : AfterPart)
    → WasAsked modes r b c x → WasAsked modes r a c x
was_asked modes r a b c goes many after.Answered asked = ends_then a b c goes asked
was_asked modes r a b c goes many (after.GoesOn next) asked = record {
  goes = goes_then a b c goes asked.goes;
  asked = asked.asked;
  up = asked.up;
  inside = subst (λ n. IfSome next (λ q. q < n)) many asked.inside;
}

-- of an answered one, and of one that goes on
pub asked_ends : (modes : List Mode) (r : ℕ) (a b : Mine) (x : AfterPart) → WasAsked modes r a b x → x ≡ after.Answered → EndsOpen a b
asked_ends modes r a b x asked e = subst (WasAsked modes r a b) e asked

pub asked_goes : (modes : List Mode) (r : ℕ) (a b : Mine) (x : AfterPart) (next : Option ℕ) → WasAsked modes r a b x
    → x ≡ after.GoesOn next → GoesToNext modes r a b next
asked_goes modes r a b x next asked e = subst (WasAsked modes r a b) e asked

-- so where it is told whether it is answered
pub told_answered : (modes : List Mode) (r : ℕ) (a b : Mine) (x : AfterPart) → WasAsked modes r a b x → is_answered x ≡ true → EndsOpen a b
told_answered modes r a b after.Answered asked e = asked
told_answered modes r a b (after.GoesOn next) asked e = absurd cc

pub told_on : (modes : List Mode) (r : ℕ) (a b : Mine) (x : AfterPart) → WasAsked modes r a b x → is_answered x ≡ false
    → KeepsOpen a b × AckedOrFailed modes r b
told_on modes r a b after.Answered asked e = absurd cc
told_on modes r a b (after.GoesOn next) asked e = (asked.goes, asked.asked)
