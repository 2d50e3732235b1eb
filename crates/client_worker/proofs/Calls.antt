-- The calls that frames ask, and what taking one up says.
use Rattle.std.proofs.Common.{◌≡◌, ℕ, Bool, true, false, cond, eqb, List, [], ◌∷◌, ◌++◌, subst, sym, ap, ◌∙◌, append_assoc}
use Rattle.volume_model.specs.declared.call.Call.{Call}
use Rattle.volume_model.specs.declared.call.Call.TheVariants as call
use Rattle.frame_stream.specs.Asked.{call_of}
use Rattle.frame_stream.specs.declared.frame.Frame.{Frame}
use Rattle.step_answers.specs.declared.answers.Enrolled.{Enrolled}
use Rattle.step_answers.specs.declared.answers.Enrolled.TheVariants as enrol
use Rattle.client_worker.specs.Asks.{IsAsked, IsShort}
use Rattle.stream_steps.specs.Mine.{Mine}
use Rattle.stream_steps.specs.Steps.{EnrolsAt, EnrolsTo, AnswersNow, IsWithin}

-- ---- frames

short_by : (a b c : Bool) (r w p o : Call) → IsShort r → IsShort w → IsShort p → IsShort o → IsShort (cond a r (cond b w (cond c p o)))
short_by true b c r w p o x y z v = x
short_by false true c r w p o x y z v = y
short_by false false true r w p o x y z v = z
short_by false false false r w p o x y z v = v

pub asked_short : (f : Frame) → IsAsked f → IsShort (call_of f)
asked_short f a = short_by (eqb f.head.kind 0) (eqb f.head.kind 1) (eqb f.head.kind 6) (call.Read f.head.offset f.head.size)
    (call.Write f.head.offset f.body) call.Ping (call.Other f.head.kind) tt a.short tt tt

pub whole_next : {A : Type 0} (all xs ys rest : List A) (x : A) → xs ++ rest ≡ all → rest ≡ x ∷ ys → (xs ++ x ∷ []) ++ ys ≡ all
whole_next all xs ys rest x whole is = append_assoc xs (x ∷ []) ys ∙ (ap (λ r. xs ++ r) (sym is) ∙ whole)

-- ---- one call

pub enrol_begun : (t : ℕ) (c : Call) (e : Enrolled) (a b : Mine) → e ≡ enrol.Ticket t → EnrolsTo c e a b → EnrolsAt t c a b
enrol_begun t c e a b is h =
    let told : EnrolsAt t c a b × IsWithin c = subst (λ x. EnrolsTo c x a b) is h in
    told.0

pub enrol_refused : (p : ℕ) (c : Call) (e : Enrolled) (a b : Mine) → e ≡ enrol.OutOfRange p → EnrolsTo c e a b → AnswersNow c a b
enrol_refused p c e a b is h = subst (λ x. EnrolsTo c x a b) is h
