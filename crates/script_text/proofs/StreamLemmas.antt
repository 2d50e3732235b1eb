-- Lemmas on specs/Streams.antt, for one stream.
use Rattle.std.proofs.Common.{◌≡◌, ◌≢◌, ◌∙◌, ℕ, ◌+◌, ◌-◌, ◌<◌, ◌≤◌, Bool, cond, Option, Some, List, [], ◌∷◌, ◌++◌, length}
use Rattle.std.proofs.Common.{refl, sym, ap, subst, inl, inr, arith, length-append}
use Rattle.std.specs.Prelude.{IfSome}
use Rattle.std.proofs.lemmas.Bool.{ne_eqb}
use Rattle.std.proofs.lemmas.List.{length_push}
use Rattle.std.specs.List.{All}
use Rattle.std.proofs.lemmas.List.Elements.{All-weaker}
use Rattle.frame_stream.specs.declared.asked.Asked.TheVariants.{Call, End}
use Rattle.frame_stream.specs.declared.frame.Frame.{Frame}
use Rattle.frame_wire.specs.declared.head.Head.{Head}
use Rattle.script_text.specs.declared.what.What.TheVariants as what
use Rattle.frame_stream.specs.Frames.{spelled, spellings, IsClose, IsCall, BeginsWithFrame, HasNoFrame, BeginWithCalls}
use Rattle.frame_stream.specs.Asked.{close_kind, asked_of, call_of}
use Rattle.script_text.specs.Fed.{BeginsWithHead}
use Rattle.script_text.specs.Streams.{IsNoStream}
use Rattle.script_text.proofs.FramesLemmas.{one_call_more}

-- bytes of no length are none
pub no_bytes : (bytes : List ℕ) → length bytes ≡ 0 → bytes ≡ []
no_bytes [] is = refl
no_bytes (b ∷ bs) is = absurd (omega (arith, is))

-- the calls that were read, so many, and what is left behind them
abbrev pub AreRead : ℕ → List ℕ → ℕ → List ℕ → Type 0
AreRead room bytes count rest =
    (frames : List Frame) × BeginWithCalls bytes frames rest × (count ≡ length frames) × (length frames ≤ room)

-- the header that stands first, where one does
pub in_front : (rest more : List ℕ) (next : Option Head) (h : Head) → next ≡ Some h
    → IfSome next (λ head. BeginsWithHead rest head more) → BeginsWithHead rest h more
in_front rest more next h is front = subst (λ n. IfSome n (λ head. BeginsWithHead rest head more)) is front

-- its frame ends the stream where it says so, and only there
pub closes : (h : Head) (f : Frame) → h ≡ f.head → h.kind ≡ close_kind → IsClose f
closes h f is kind = sym (ap (λ (g : Head). g.kind) is) ∙ kind

pub is_no_close : (h : Head) (f : Frame) → h ≡ f.head → (h.kind ≡ close_kind → ⊥) → IsClose f → ⊥
is_no_close h f is other close = other (ap (λ (g : Head). g.kind) is ∙ close)

-- one call more is read
pub one_more_read : (room : ℕ) (bytes : List ℕ) (count : ℕ) (rest more : List ℕ) (f : Frame) → AreRead room bytes count rest
    → BeginsWithFrame rest f more → (IsClose f → ⊥) → count < room → AreRead room bytes (count + 1) more
one_more_read room bytes count rest more f (frames, begin, is, few) front calls left = (
  frames ++ f ∷ [],
  one_call_more bytes frames f rest more begin front calls,
  omega (arith, is, length_push frames f),
  omega (arith, is, length_push frames f, left),
)

module _ (room place end : ℕ) (bytes : List ℕ) (frames : List Frame) (rest : List ℕ) (begin : BeginWithCalls bytes frames rest)
    (few : length frames ≤ room) (to : end ≡ place + length bytes) where
  length_front : length bytes ≡ length (spellings frames) + length rest
  length_front = ap length begin.text ∙ length-append (spellings frames) rest

  -- no whole frame stands there
  pub bad_here : rest ≢ [] → HasNoFrame rest → IsNoStream room place bytes (end - length rest) what.Frame
  bad_here some none = (frames, rest, begin, few, inl (some, none, omega (arith, length_front)))

  -- bytes go on behind a frame that ends the stream
  pub bad_behind_close : (f : Frame) (more : List ℕ) → BeginsWithFrame rest f more → IsClose f → more ≢ []
      → IsNoStream room place bytes (end - length more) what.Frame
  bad_behind_close f more front closes some =
      let len : length rest ≡ length (spelled f) + length more = ap length front.text ∙ length-append (spelled f) more in
      (frames, rest, begin, few, inr (length (spelled f), (f, more, front, closes, some, refl), omega (arith, length_front, len)))

  -- a call stands there, and there is no room for it
  pub call_too_many : (f : Frame) (more : List ℕ) → BeginsWithFrame rest f more → (IsClose f → ⊥) → room ≤ length frames
      → IsNoStream room place bytes (end - length rest) what.Calls
  call_too_many f more front calls full = (frames, rest, begin, few, (omega arith, (f, more, front, calls), omega (arith, length_front)))

-- the frames of a stream ask calls
pub All-asked : (frames : List Frame) → All IsCall frames → All (λ f. asked_of f ≡ Call (call_of f)) frames
All-asked frames calls =
    All-weaker IsCall (λ f. asked_of f ≡ Call (call_of f))
    (λ f call. ap (λ (b : Bool). cond b End (Call (call_of f))) (ne_eqb f.head.kind close_kind call.1)) frames calls
