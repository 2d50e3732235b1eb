-- Lemmas on specs/Kept.antt.
use Rattle.std.proofs.Common.{◌≡◌, ◌∙◌, ℕ, ℤ, zero, suc, ◌-◌, ◌≤◌, List, [], ◌∷◌, ◌++◌, length, drop, map, refl, sym, ap, ap₂, subst, arith}
use Rattle.std.proofs.Common.{append_assoc, length-append}
use Rattle.std.specs.Int.{w64, cast_signed}
use Rattle.std.specs.List.{All}
use Rattle.std.proofs.lemmas.List.Elements.{All-head, All-tail, All-weaker}
use Rattle.std.proofs.lemmas.Nat.{from_le_bytes-to_le_bytes_4, from_le_bytes-to_le_bytes_8}
use Rattle.std.proofs.Math.Facts.{Fits-of_z, Fits-lt-pow, to_z-of_z}
use Rattle.frame_wire.specs.declared.head.Head.{Head}
use Rattle.frame_wire.specs.Spelling.{header, IsHead}
use Rattle.frame_wire.specs.Decoding.{BeginsWith, HoldsFrame}
use Rattle.volume_model.specs.PlainStep.{longest_call}
use Rattle.frame_stream.specs.declared.frame.Frame.{Frame}
use Rattle.frame_stream.specs.Frames.{spelled, spellings, span, frame_under}
use Rattle.frame_stream.specs.Frames.{IsCall, IsWholeFrame, BeginsWithFrame, HasNoFrame, BeginWithCalls}
use Rattle.frame_stream.proofs.FramesLemmas.{data_of_frame, frame_and_rest}
use Rattle.script_text.specs.Kept.{header_in, first_frame, behind_first, first_frames, HoldFrames}
use Rattle.script_text.specs.Fed.{BeginsWithHead}
use Rattle.script_text.proofs.FramesLemmas.{one_front}

-- ---- a header

abbrev head_of : ℕ → ℕ → ℤ → ℕ → ℕ → Head
head_of seq kind offset size len = record { seq = seq; kind = kind; offset = offset; size = size; len = len }

same_fields : {s t k l z y m n : ℕ} {o p : ℤ} → s ≡ t → k ≡ l → o ≡ p → z ≡ y → m ≡ n → head_of s k o z m ≡ head_of t l p y n
same_fields a b c d e = cc

pub header_in_header : (h : Head) (rest : List ℕ) → IsHead h → header_in (header h ++ rest) ≡ h
unfolding header_in
header_in_header h rest is =
    same_fields (from_le_bytes-to_le_bytes_4 h.seq is.seq) (from_le_bytes-to_le_bytes_4 h.kind is.kind)
    (ap (cast_signed w64) (from_le_bytes-to_le_bytes_8 _ (Fits-lt-pow (Fits-of_z is.offset))) ∙ to_z-of_z is.offset)
    (from_le_bytes-to_le_bytes_4 h.size is.size) (from_le_bytes-to_le_bytes_4 h.len is.len)

-- ---- a frame

-- bytes that hold a frame begin with the one of its header
pub front_frame : (bytes : List ℕ) (h : Head) → HoldsFrame bytes longest_call h
    → BeginsWithFrame bytes (frame_under h bytes) (drop (span h) bytes)
front_frame bytes h holds = record {
  whole = record { head = holds.1.head; body = data_of_frame bytes longest_call h holds; most = holds.3 };
  text = frame_and_rest bytes longest_call h holds;
}

-- the frame that bytes begin with is the only one that they can
pub first_is : (bytes rest : List ℕ) (f : Frame) → BeginsWithFrame bytes f rest
    → (first_frame bytes ≡ f) × (behind_first bytes ≡ rest)
first_is bytes rest f front =
    let behind = f.body ++ rest in
    let begins : BeginsWith bytes f.head behind =
    record { head = front.whole.head; whole = front.text ∙ append_assoc (header f.head) f.body rest } in
    let same : header_in bytes ≡ f.head = ap header_in begins.whole ∙ header_in_header f.head behind begins.head in
    let long : f.head.len ≤ length behind = omega (arith, front.whole.body, length-append f.body rest) in
    let holds : HoldsFrame bytes longest_call f.head = (behind, begins, long, front.whole.most) in
    let one = one_front bytes (drop (span f.head) bytes) rest (frame_under f.head bytes) f (front_frame bytes f.head holds) front in
    (ap (λ h. frame_under h bytes) same ∙ one.0, ap (λ h. drop (span h) bytes) same ∙ one.1)

-- ---- frames

pub length-first_frames : (n : ℕ) (bytes : List ℕ) → length (first_frames n bytes) ≡ n
length-first_frames zero bytes = refl
length-first_frames (suc n) bytes = ap suc (length-first_frames n (behind_first bytes))

-- bytes hold the whole frames that they begin with
pub kept_frames : (fs : List Frame) (bytes rest : List ℕ) → All IsWholeFrame fs → bytes ≡ spellings fs ++ rest
    → HoldFrames (length fs) bytes × (first_frames (length fs) bytes ≡ fs)
kept_frames [] bytes rest whole is = (tt, refl)
kept_frames (f ∷ fs) bytes rest whole is =
    let front : BeginsWithFrame bytes f (spellings fs ++ rest) =
    record { whole = All-head IsWholeFrame f fs whole; text = is ∙ append_assoc (spelled f) (spellings fs) rest } in
    let first = first_is bytes (spellings fs ++ rest) f front in
    let others = kept_frames fs (behind_first bytes) rest (All-tail IsWholeFrame f fs whole) first.1 in
    let begins = subst (λ b. BeginsWithFrame bytes (first_frame bytes) b) (sym first.1)
    (subst (λ g. BeginsWithFrame bytes g (spellings fs ++ rest)) (sym first.0) front) in
    ((begins, others.0), ap₂ (λ (g : Frame) (gs : List Frame). g ∷ gs) first.0 others.1)

pub kept_calls : (count : ℕ) (fs : List Frame) (bytes rest : List ℕ) → BeginWithCalls bytes fs rest → count ≡ length fs
    → HoldFrames count bytes × (first_frames count bytes ≡ fs)
kept_calls count fs bytes rest begin is =
    subst (λ n. HoldFrames n bytes × (first_frames n bytes ≡ fs)) (sym is)
    (kept_frames fs bytes rest (All-weaker IsCall IsWholeFrame (λ f call. call.0) fs begin.calls) begin.text)

-- ---- the first of them

-- bytes that hold some frames begin with one
pub some_kept : (n : ℕ) (bytes : List ℕ) → (n ≡ 0 → ⊥) → HoldFrames n bytes → HasNoFrame bytes → ⊥
some_kept zero bytes some holds none = some refl
some_kept (suc n) bytes some holds none = none (first_frame bytes) (behind_first bytes) holds.0

-- the frame that they begin with is the first of those
pub next_kept : (n : ℕ) (bytes rest : List ℕ) (f : Frame) → (n ≡ 0 → ⊥) → HoldFrames n bytes → BeginsWithFrame bytes f rest
    → HoldFrames (n - 1) rest × (first_frames n bytes ≡ f ∷ first_frames (n - 1) rest)
next_kept zero bytes rest f some holds front = absurd (some refl)
next_kept (suc n) bytes rest f some holds front =
    let first = first_is bytes rest f front in
    let less : n ≡ suc n - 1 = omega arith in
    subst (λ m. HoldFrames m rest × (first_frames (suc n) bytes ≡ f ∷ first_frames m rest)) less (
      subst (HoldFrames n) first.1 holds.1,
      ap₂ (λ (g : Frame) (gs : List Frame). g ∷ gs) first.0 (ap (first_frames n) first.1),
    )

-- and a header that they begin with is the first of their headers
pub next_head_kept : (n : ℕ) (bytes rest : List ℕ) (h : Head) → (n ≡ 0 → ⊥) → HoldFrames n bytes → BeginsWithHead bytes h rest
    → HoldFrames (n - 1) rest
    × (map (λ (f : Frame). f.head) (first_frames n bytes) ≡ h ∷ map (λ (f : Frame). f.head) (first_frames (n - 1) rest))
next_head_kept n bytes rest h some holds (f, is, front) =
    let kept = next_kept n bytes rest f some holds front in
    let others = map (λ (g : Frame). g.head) (first_frames (n - 1) rest) in
    (kept.0, ap (map (λ (g : Frame). g.head)) kept.1 ∙ ap (λ (g : Head). g ∷ others) (sym is))
