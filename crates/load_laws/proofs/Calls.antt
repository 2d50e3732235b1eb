-- What is left of the streams' calls, an entry on.
use Rattle.std.proofs.Common.{◌≡◌, ℕ, suc, ◌<◌, eqb, cond, Bool, true, false, List, [], ◌∷◌, map, All}
use Rattle.std.proofs.Common.{refl, sym, ap, subst, ◌∙◌, arith, ⊎_elim}
use Rattle.std.proofs.lemmas.Bool.{cond-true, cond-false, eq-eqb, ne_eqb, cases_order}
use Rattle.volume_model.specs.declared.command.Command.TheVariants as command
use Rattle.volume_model.specs.declared.call.Call.{Call}
use Rattle.volume_model.specs.declared.call.Call.TheVariants as call
use Rattle.volume_model.specs.declared.entry.Answer.{Answer}
use Rattle.volume_model.specs.declared.entry.Entry.{Entry}
use Rattle.volume_model.specs.declared.entry.Entry.TheVariants as entry
use Rattle.volume_model.specs.declared.mark.Mark.{Mark}
use Rattle.volume_model.specs.History.{answers_from, FailsNow, FailsNext}
use Rattle.load_laws.specs.Load.{IsFrameIn}
use Rattle.load_laws.proofs.Phases.{Phase, calls_left, calls_in, replies_in, AreLeft}

-- the places of a stream's answers do not matter for its calls
pub calls_in_is : (stream place : ℕ) (es : List Entry) → map (λ p. p.1.call) (answers_from stream place es) ≡ calls_in stream es
calls_in_is stream place [] = refl
calls_in_is stream place (entry.Mark m ∷ es) = calls_in_is stream (suc place) es
calls_in_is stream place (entry.Answer a ∷ es) = mapped (eqb a.stream stream) (answers_from stream (suc place) es)
    ∙ ap (λ l. cond (eqb a.stream stream) (a.call ∷ l) l) (calls_in_is stream (suc place) es)
  where
    mapped : (b : Bool) (ps : List (ℕ × Answer)) → map (λ p. p.1.call) (cond b ((place, a) ∷ ps) ps)
        ≡ cond b (a.call ∷ map (λ p. p.1.call) ps) (map (λ p. p.1.call) ps)
    mapped true ps = refl
    mapped false ps = refl

-- nor for its replies
pub replies_in_is : (stream place : ℕ) (es : List Entry) → map (λ p. p.1.reply) (answers_from stream place es) ≡ replies_in stream es
replies_in_is stream place [] = refl
replies_in_is stream place (entry.Mark m ∷ es) = replies_in_is stream (suc place) es
replies_in_is stream place (entry.Answer a ∷ es) = mapped (eqb a.stream stream) (answers_from stream (suc place) es)
    ∙ ap (λ l. cond (eqb a.stream stream) (a.reply ∷ l) l) (replies_in_is stream (suc place) es)
  where
    mapped : (b : Bool) (ps : List (ℕ × Answer)) → map (λ p. p.1.reply) (cond b ((place, a) ∷ ps) ps)
        ≡ cond b (a.reply ∷ map (λ p. p.1.reply) ps) (map (λ p. p.1.reply) ps)
    mapped true ps = refl
    mapped false ps = refl

-- ---- an entry on

-- what is so of all calls is so of those behind the first, and of the first
all_behind : (P : Call → Type 0) (b : Bool) (c : Call) (cs : List Call) → All P (cond b (c ∷ cs) cs) → All P cs
all_behind P true c cs all = λ k d low. all (suc k) d (omega (arith, low))
all_behind P false c cs all = all

all_first : (P : Call → Type 0) (c : Call) (cs : List Call) → All P (c ∷ cs) → P c
all_first P c cs all = all 0 c (omega arith)

-- where there is no call there is none behind the first
none_behind : (b : Bool) (c : Call) (cs : List Call) → cond b (c ∷ cs) cs ≡ [] → cs ≡ []
none_behind true c cs e = absurd cc
none_behind false c cs e = e

not_nil : (c : Call) (cs : List Call) → c ∷ cs ≡ [] → ⊥
not_nil c cs e = cc

-- of the stream itself the answer's call is the first, and of another its call is none
pub own_call : (stream : ℕ) (a : Answer) (es : List Entry) → a.stream ≡ stream
    → calls_in stream (entry.Answer a ∷ es) ≡ a.call ∷ calls_in stream es
own_call stream a es own = cond-true (eqb a.stream stream) _ _ (eq-eqb a.stream stream own)

pub other_call : (stream : ℕ) (a : Answer) (es : List Entry) → (a.stream ≡ stream → ⊥)
    → calls_in stream (entry.Answer a ∷ es) ≡ calls_in stream es
other_call stream a es other = cond-false (eqb a.stream stream) _ _ (ne_eqb a.stream stream other)

-- and so with its reply
pub own_reply : (stream : ℕ) (a : Answer) (es : List Entry) → a.stream ≡ stream
    → replies_in stream (entry.Answer a ∷ es) ≡ a.reply ∷ replies_in stream es
own_reply stream a es own = cond-true (eqb a.stream stream) _ _ (eq-eqb a.stream stream own)

pub other_reply : (stream : ℕ) (a : Answer) (es : List Entry) → (a.stream ≡ stream → ⊥)
    → replies_in stream (entry.Answer a ∷ es) ≡ replies_in stream es
other_reply stream a es other = cond-false (eqb a.stream stream) _ _ (ne_eqb a.stream stream other)

-- a mark is of no stream's calls
pub left_mark : (slices : ℕ) (p : Phase) (m : Mark) (es : List Entry) → AreLeft slices p (entry.Mark m ∷ es) → AreLeft slices p es
left_mark slices p m es left = record { frames = left.frames; control = left.control; others = left.others }

-- more has come of the control stream, or nothing
pub left_behind : (slices : ℕ) (p q : Phase) (a : Answer) (es : List Entry) → AreLeft slices p (entry.Answer a ∷ es)
    → calls_in slices es ≡ calls_left q → AreLeft slices q es
left_behind slices p q a es left control = record {
  frames = λ stream low. all_behind (IsFrameIn stream) (eqb a.stream stream) a.call (calls_in stream es) (left.frames stream low);
  control = control;
  others = λ stream high. none_behind (eqb a.stream stream) a.call (calls_in stream es) (left.others stream high);
}

-- an answer of a stream of frames
pub frame_left : (slices : ℕ) (p : Phase) (a : Answer) (es : List Entry) → AreLeft slices p (entry.Answer a ∷ es) → a.stream < slices
    → IsFrameIn a.stream a.call
frame_left slices p a es left low = all_first (IsFrameIn a.stream) a.call (calls_in a.stream es)
    (subst (All (IsFrameIn a.stream)) (own_call a.stream a es refl) (left.frames a.stream low))

-- it leaves what is left of the control stream
pub left_frame : (slices : ℕ) (p : Phase) (a : Answer) (es : List Entry) → AreLeft slices p (entry.Answer a ∷ es) → a.stream < slices
    → AreLeft slices p es
left_frame slices p a es left low =
    left_behind slices p p a es left (sym (other_call slices a es (λ own. omega (arith, own, low))) ∙ left.control)

-- one of the control stream
pub control_left : (slices : ℕ) (p : Phase) (a : Answer) (es : List Entry) → AreLeft slices p (entry.Answer a ∷ es) → a.stream ≡ slices
    → a.call ∷ calls_in slices es ≡ calls_left p
control_left slices p a es left own = sym (own_call slices a es own) ∙ left.control

-- and there is none of another
pub none_left : (slices : ℕ) (p : Phase) (a : Answer) (es : List Entry) → AreLeft slices p (entry.Answer a ∷ es) → slices < a.stream → ⊥
none_left slices p a es left high = not_nil a.call (calls_in a.stream es)
    (sym (own_call a.stream a es refl) ∙ left.others a.stream high)

-- ---- a replica that was told to fail

-- no frame tells it
no_fail : (slice r : ℕ) (c : Call) → IsFrameIn slice c → c ≡ call.Command (command.Fail r) → ⊥
no_fail slice r c frame is = subst (IsFrameIn slice) is frame

-- the answer of a fail is the control stream's next
fail_answered : (slices : ℕ) (p : Phase) (r : ℕ) (a : Answer) (es : List Entry) → AreLeft slices p (entry.Answer a ∷ es)
    → a.call ≡ call.Command (command.Fail r) → calls_left p ≡ call.Command (command.Fail r) ∷ calls_in slices es
fail_answered slices p r a es left is = ⊎_elim
    (λ own. sym (control_left slices p a es left own) ∙ ap (λ c. c ∷ calls_in slices es) is)
    (λ other. ⊎_elim
    (λ low. absurd (no_fail a.stream r a.call (frame_left slices p a es left low) is))
    (λ high. absurd (none_left slices p a es left high))
    other)
    (cases_order a.stream slices)

-- so it is where a replica has failed, and right before
fails_now : (slices : ℕ) (p : Phase) (r : ℕ) (es : List Entry) → AreLeft slices p es → FailsNow r es
    → (rest : List Call) × (calls_left p ≡ call.Command (command.Fail r) ∷ rest)
fails_now slices p r [] left now = absurd now
fails_now slices p r (entry.Mark m ∷ es) left now = absurd now
fails_now slices p r (entry.Answer a ∷ es) left now = (calls_in slices es, fail_answered slices p r a es left now)

pub fails_next : (slices : ℕ) (p : Phase) (r : ℕ) (es : List Entry) → AreLeft slices p es → FailsNext r es
    → (rest : List Call) × (calls_left p ≡ call.Command (command.Fail r) ∷ rest)
fails_next slices p r [] left next = absurd next
fails_next slices p r (entry.Mark m ∷ es) left next = fails_now slices p r es (left_mark slices p m es left) next.1
fails_next slices p r (entry.Answer a ∷ es) left next = (calls_in slices es, fail_answered slices p r a es left next)
