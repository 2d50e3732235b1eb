-- Lemmas on specs/Frames.antt.
use Rattle.std.proofs.Common.{◌≡◌, ◌∙◌, ℕ, zero, suc, ◌≤◌, List, [], ◌∷◌, ◌++◌, length, refl, sym, ap, subst, arith}
use Rattle.std.proofs.Common.{append_assoc, append-nil}
use Rattle.std.proofs.lemmas.List.{append_cancel_left}
use Rattle.std.proofs.lemmas.List.Elements.{All-head, All-tail, All-push}
use Rattle.std.proofs.lemmas.List.Concat.{flat_map-append}
use Rattle.frame_wire.specs.declared.head.Head.{Head}
use Rattle.frame_wire.proofs.OneSpelling.{one_spelling}
use Rattle.frame_stream.specs.declared.frame.Frame.{Frame}
use Rattle.frame_stream.specs.Frames.{spelled, spellings, IsClose, IsCall, BeginsWithFrame, BeginWithCalls}

-- no bytes begin with no frame
pub no_frame_in_none : (bytes : List ℕ) (f : Frame) (rest : List ℕ) → bytes ≡ [] → BeginsWithFrame bytes f rest → ⊥
no_frame_in_none bytes f rest none front = nonempty (ap length (sym none ∙ front.text))
  where
    nonempty : 0 ≡ length (spelled f ++ rest) → ⊥
    nonempty h = omega arith

abbrev frame_of : Head → List ℕ → Frame
frame_of h body = record { head = h; body = body }

same_parts : (g h : Head) (a b : List ℕ) → g ≡ h → a ≡ b → frame_of g a ≡ frame_of h b
same_parts g h a b p q = cc

-- bytes begin with one whole frame at most
pub one_front : (bytes r s : List ℕ) (f g : Frame) → BeginsWithFrame bytes f r → BeginsWithFrame bytes g s → (f ≡ g) × (r ≡ s)
one_front bytes r s f g p q =
    let text : spelled f ++ r ≡ spelled g ++ s = sym p.text ∙ q.text in
    let parts = one_spelling f.head g.head f.body g.body r s p.whole.head q.whole.head p.whole.body q.whole.body text in
    let same : f ≡ g = same_parts f.head g.head f.body g.body parts.0 parts.1 in
    (same, append_cancel_left (spelled f) r s (text ∙ ap (λ h. spelled h ++ s) (sym same)))

-- so they do not begin with a Close and with a call
pub no_close_and_call : (bytes r s : List ℕ) (f g : Frame) → BeginsWithFrame bytes f r → IsClose f
    → BeginsWithFrame bytes g s → (IsClose g → ⊥) → ⊥
no_close_and_call bytes r s f g x closes y calls = calls (ap (λ (h : Frame). h.head.kind) (sym (one_front bytes r s f g x y).0) ∙ closes)

-- ---- calls at the front

spellings-push : (frames : List Frame) (f : Frame) → spellings (frames ++ f ∷ []) ≡ spellings frames ++ spelled f
spellings-push frames f = flat_map-append spelled frames (f ∷ []) ∙ ap (λ l. spellings frames ++ l) (append-nil (spelled f))

pub one_call_more : (bytes : List ℕ) (frames : List Frame) (f : Frame) (rest more : List ℕ)
    → BeginWithCalls bytes frames rest → BeginsWithFrame rest f more → (IsClose f → ⊥)
    → BeginWithCalls bytes (frames ++ f ∷ []) more
one_call_more bytes frames f rest more begin front calls = record {
  calls = All-push IsCall frames f begin.calls (front.whole, calls);
  text =
      begin.text ∙ ap (λ l. spellings frames ++ l) front.text ∙ sym (append_assoc (spellings frames) (spelled f) more)
      ∙ ap (λ l. l ++ more) (sym (spellings-push frames f));
}

first_call : (bytes : List ℕ) (f : Frame) (fs : List Frame) (r : List ℕ) → BeginWithCalls bytes (f ∷ fs) r
    → BeginsWithFrame bytes f (spellings fs ++ r) × (IsClose f → ⊥)
first_call bytes f fs r begin =
    let call = All-head IsCall f fs begin.calls in
    (record { whole = call.0; text = begin.text ∙ append_assoc (spelled f) (spellings fs) r }, call.1)

other_calls : (bytes : List ℕ) (f : Frame) (fs : List Frame) (r : List ℕ) → BeginWithCalls bytes (f ∷ fs) r
    → BeginWithCalls (spellings fs ++ r) fs r
other_calls bytes f fs r begin = record { calls = All-tail IsCall f fs begin.calls; text = refl }

-- no further call stands there, or there is no room for it
abbrev pub AreAll : ℕ → List Frame → List ℕ → Type 0
AreAll room frames rest = (f : Frame) (more : List ℕ) → BeginsWithFrame rest f more → (IsClose f → ⊥) → room ≤ length frames

-- bytes begin with one list of all calls that there is room for
pub one_run : (room : ℕ) (bytes : List ℕ) (fs gs : List Frame) (r s : List ℕ) → BeginWithCalls bytes fs r → length fs ≤ room
    → AreAll room fs r
    → BeginWithCalls bytes gs s → length gs ≤ room → AreAll room gs s → (fs ≡ gs) × (r ≡ s)
one_run room bytes [] [] r s p m all q n also = (refl, sym p.text ∙ q.text)
one_run room bytes [] (g ∷ gs) r s p m all q n also =
    let call = first_call bytes g gs s q in
    let full : room ≤ 0 = all g (spellings gs ++ s) (subst (λ b. BeginsWithFrame b g (spellings gs ++ s)) p.text call.0) call.1 in
    absurd (omega arith)
one_run room bytes (f ∷ fs) [] r s p m all q n also =
    let call = first_call bytes f fs r p in
    let full : room ≤ 0 = also f (spellings fs ++ r) (subst (λ b. BeginsWithFrame b f (spellings fs ++ r)) q.text call.0) call.1 in
    absurd (omega arith)
one_run zero bytes (f ∷ fs) (g ∷ gs) r s p m all q n also = absurd (omega arith)
one_run (suc room) bytes (f ∷ fs) (g ∷ gs) r s p m all q n also =
    let front = one_front bytes _ _ f g (first_call bytes f fs r p).0 (first_call bytes g gs s q).0 in
    let rest = other_calls bytes g gs s q in
    let tail = one_run room (spellings fs ++ r) fs gs r s (other_calls bytes f fs r p) (omega arith)
    (λ h more begin calls. omega (arith, all h more begin calls))
    (subst (λ b. BeginWithCalls b gs s) (sym front.1) rest) (omega arith) (λ h more begin calls. omega (arith, also h more begin calls)) in
    (both front.0 tail.0, tail.1)
  where
    both : {x y : Frame} {xs ys : List Frame} → x ≡ y → xs ≡ ys → x ∷ xs ≡ y ∷ ys
    both h k = cc
