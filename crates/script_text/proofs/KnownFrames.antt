-- It is known whether bytes begin with a frame, and so whether they are a stream.
use Rattle.std.proofs.Common.{◌≡◌, ◌≢◌, ◌⊎◌, ◌∙◌, ℕ, zero, suc, ◌+◌, ◌-◌, ◌<◌, ◌≤◌, List, [], ◌∷◌, ◌++◌, length, take, drop, sum_by}
use Rattle.std.proofs.Common.{refl, sym, ap, subst, inl, inr, arith, append_assoc, length-append}
use Rattle.std.specs.Int.{w64}
use Rattle.std.specs.Prelude.{FitsSigned}
use Rattle.std.proofs.lemmas.Bool.{cases_lt, cases_eq}
use Rattle.std.proofs.lemmas.List.{length_push}
use Rattle.std.proofs.lemmas.List.Elements.{All-nil}
use Rattle.std.proofs.lemmas.List.Sums.{sum_by-cons}
use Rattle.frame_wire.specs.declared.head.Head.{Head}
use Rattle.frame_wire.specs.Spelling.{header, IsHead}
use Rattle.frame_wire.specs.Decoding.{BeginsWith}
use Rattle.frame_wire.proofs.OneSpelling.{same_head}
use Rattle.frame_stream.specs.Asked.{close_kind}
use Rattle.frame_stream.specs.declared.frame.Frame.{Frame}
use Rattle.volume_model.specs.PlainStep.{longest_call}
use Rattle.script_head.specs.Head.{byte_count}
use Rattle.script_head.specs.declared.head.StreamHead.{StreamHead}
use Rattle.script_head.specs.declared.head.StreamHead.TheVariants as head
use Rattle.script_head.proofs.Known.{Known, known_along, known_both, known_less, known_most, known_text}
use Rattle.script_text.specs.declared.script.Stream.{Stream}
use Rattle.script_text.specs.declared.script.Stream.TheVariants as stream
use Rattle.script_text.specs.declared.what.What.{What}
use Rattle.script_text.specs.declared.what.What.TheVariants as what
use Rattle.frame_stream.specs.Frames.{spelled, IsClose, IsCall, BeginsWithFrame, BeginWithCalls, span, frame_under}
use Rattle.script_text.specs.Streams.{IsStream, IsNoStream, IsStreamOf, IsNoStreamOf, AreStreams, AreNoStreams, frame_count}
use Rattle.script_text.proofs.FramesLemmas.{one_call_more}
use Rattle.script_text.specs.Kept.{header_in}
use Rattle.script_text.proofs.KeptLemmas.{header_in_header, front_frame}
use Rattle.script_text.proofs.StreamLemmas.{bad_here, bad_behind_close, call_too_many}

-- ---- a header

known_is_head : (h : Head) → Known (IsHead h)
known_is_head h =
    known_along (λ is. record { seq = is.0; kind = is.1.0; offset = is.1.1.0; size = is.1.1.1.0; len = is.1.1.1.1 })
    (λ is. (is.seq, (is.kind, (is.offset, (is.size, is.len)))))
    (known_both (known_less _ _) (known_both (known_less _ _) (known_both known_fits (known_both (known_less _ _) (known_less _ _)))))
  where
    known_fits : Known (FitsSigned w64 h.offset)
    known_fits = known_along (λ less. record { sfits = less }) (λ fits. fits.sfits) (known_less _ _)

-- bytes begin with a header
abbrev HasHeader : List ℕ → Type 0
HasHeader bytes = (h : Head) × (rest : List ℕ) × BeginsWith bytes h rest

known_header : (bytes : List ℕ) → Known (HasHeader bytes)
known_header bytes =
    known_along (λ both. (header_in bytes, drop 26 bytes, record { head = both.0; whole = both.1 })) back
    (known_both (known_is_head (header_in bytes)) (known_text bytes (header (header_in bytes) ++ drop 26 bytes)))
  where
    back : HasHeader bytes → IsHead (header_in bytes) × (bytes ≡ header (header_in bytes) ++ drop 26 bytes)
    back (h, rest, begins) =
        let same : h ≡ header_in bytes = sym (ap header_in begins.whole ∙ header_in_header h rest begins.head) in
        let behind : rest ≡ drop 26 bytes = sym (ap (drop 26) begins.whole) in
        (subst IsHead same begins.head, begins.whole ∙ ap (λ g. header g ++ rest) same ∙ ap (λ l. header (header_in bytes) ++ l) behind)

-- ---- a frame

-- bytes begin with a frame
abbrev HasFrame : List ℕ → Type 0
HasFrame bytes = (f : Frame) × (rest : List ℕ) × BeginsWithFrame bytes f rest

known_frame : (bytes : List ℕ) → Known (HasFrame bytes)
known_frame bytes = of_header (known_header bytes)
  where
    header_of : (f : Frame) (more : List ℕ) → BeginsWithFrame bytes f more → BeginsWith bytes f.head (f.body ++ more)
    header_of f more front =
        record { head = front.whole.head; whole = front.text ∙ append_assoc (header f.head) f.body more }

    of_header : Known (HasHeader bytes) → Known (HasFrame bytes)
    of_header (inl (h, rest, begins)) =
        known_along (λ both. (frame_under h bytes, drop (span h) bytes, front_frame bytes h (rest, begins, both.0, both.1))) back
        (known_both (known_most h.len (length rest)) (known_most h.len longest_call))
      where
        back : HasFrame bytes → (h.len ≤ length rest) × (h.len ≤ longest_call)
        back (f, more, front) =
            let other = header_of f more front in
            let same = same_head h f.head rest (f.body ++ more) begins.head other.head (sym begins.whole ∙ other.whole) in
            let len : h.len ≡ f.head.len = ap (λ (g : Head). g.len) same.0 in
            (omega (arith, len, front.whole.body, ap length same.1, length-append f.body more), omega (arith, len, front.whole.most))
    of_header (inr none) = inr (λ found. none (found.0.head, found.0.body ++ found.1, header_of found.0 found.1 found.2))

-- ---- a stream

-- bytes are a stream of calls that have room, or none from their place on
abbrev IsStreamOrNone : ℕ → ℕ → List ℕ → Type 0
IsStreamOrNone room place bytes =
    ((frames : List Frame) × IsStream bytes frames × (length frames ≤ room))
    ⊎ ((bad : ℕ) × (why : What) × IsNoStream room place bytes bad why)

module _ (room place : ℕ) (bytes : List ℕ) where
  module _ (frames : List Frame) (rest : List ℕ) (begin : BeginWithCalls bytes frames rest) (few : length frames ≤ room) where
    abbrev end : ℕ
    end = place + length bytes

    -- what stands behind some calls: where it is one more that has room, this says how it goes on
    behind_calls : rest ≢ []
        → ((f : Frame) (more : List ℕ) → BeginsWithFrame rest f more → (IsClose f → ⊥) → length frames < room
        → IsStreamOrNone room place bytes)
        → IsStreamOrNone room place bytes
    behind_calls some next = of_frame (known_frame rest)
      where
        of_close : (f : Frame) (more : List ℕ) → BeginsWithFrame rest f more → IsClose f → IsStreamOrNone room place bytes
        of_close f [] front closes = inl (frames, (rest, begin, inr (f, front, closes)), few)
        of_close f (c ∷ cs) front closes =
            inr (_, what.Frame, bad_behind_close room place end bytes frames rest begin few refl f (c ∷ cs) front closes not_none)
          where
            not_none : c ∷ cs ≡ [] → ⊥
            not_none e = cc

        of_call : (f : Frame) (more : List ℕ) → BeginsWithFrame rest f more → (IsClose f → ⊥)
            → (length frames < room) ⊎ (room ≤ length frames) → IsStreamOrNone room place bytes
        of_call f more front calls (inl left) = next f more front calls left
        of_call f more front calls (inr full) =
            inr (_, what.Calls, call_too_many room place end bytes frames rest begin few refl f more front calls full)

        by_kind : (f : Frame) (more : List ℕ) → BeginsWithFrame rest f more → Known (IsClose f) → IsStreamOrNone room place bytes
        by_kind f more front (inl closes) = of_close f more front closes
        by_kind f more front (inr calls) = of_call f more front calls (cases_lt (length frames) room)

        of_frame : Known (HasFrame rest) → IsStreamOrNone room place bytes
        of_frame (inl (f, more, front)) = by_kind f more front (cases_eq f.head.kind close_kind)
        of_frame (inr none) =
            inr (_, what.Frame, bad_here room place end bytes frames rest begin few refl some (λ f more front. none (f, more, front)))

  -- behind these calls stand no more bytes than that
  stream_from : (most : ℕ) (frames : List Frame) (rest : List ℕ) → BeginWithCalls bytes frames rest → length frames ≤ room
      → length rest ≤ most → IsStreamOrNone room place bytes
  stream_from most frames [] begin few within = inl (frames, ([], begin, inl refl), few)
  stream_from zero frames (b ∷ bs) begin few within = absurd (omega (arith, within))
  stream_from (suc most) frames (b ∷ bs) begin few within =
      behind_calls frames (b ∷ bs) begin few not_none
      (λ f more front calls left. stream_from most (frames ++ f ∷ []) more (one_call_more bytes frames f (b ∷ bs) more begin front calls)
      (omega (arith, left, length_push frames f)) (omega (arith, within, ap length front.text, length-append (spelled f) more)))
    where
      not_none : b ∷ bs ≡ [] → ⊥
      not_none e = cc

  known_stream : IsStreamOrNone room place bytes
  known_stream =
      stream_from (length bytes) [] bytes (record { calls = All-nil IsCall; text = refl }) (omega arith) (omega arith)

-- ---- all streams

known_stream_of : (h : StreamHead) (room place : ℕ) (bytes : List ℕ)
    → ((s : Stream) × IsStreamOf h bytes s × (frame_count s ≤ room)) ⊎ ((bad : ℕ) × (why : What) × IsNoStreamOf h room place bytes bad why)
known_stream_of (head.Control commands) room place bytes = inl (stream.Control commands, refl, omega arith)
known_stream_of (head.Frames count) room place bytes = by_cases (known_stream room place bytes)
  where
    by_cases : IsStreamOrNone room place bytes
        → ((s : Stream) × IsStreamOf (head.Frames count) bytes s × (frame_count s ≤ room))
        ⊎ ((bad : ℕ) × (why : What) × IsNoStreamOf (head.Frames count) room place bytes bad why)
    by_cases (inl (frames, is, few)) = inl (stream.Frames frames, is, few)
    by_cases (inr (bad, why, none)) = inr (bad, why, none)

-- the bytes are all streams of these heads, or some are none
abbrev pub AreStreamsOrNone : ℕ → ℕ → List StreamHead → List ℕ → Type 0
AreStreamsOrNone room place heads bytes =
    ((streams : List Stream) × AreStreams heads bytes streams × (sum_by frame_count streams ≤ room))
    ⊎ ((bad : ℕ) × (why : What) × AreNoStreams room place heads bytes bad why)

pub known_streams : (heads : List StreamHead) (room place : ℕ) (bytes : List ℕ) → AreStreamsOrNone room place heads bytes
known_streams [] room place bytes = inl ([], tt, omega arith)
known_streams (h ∷ hs) room place bytes =
    of_first (known_stream_of h room place (take (byte_count h) bytes))
    (λ s. known_streams hs (room - frame_count s) (place + byte_count h) (drop (byte_count h) bytes))
  where
    of_others : (s : Stream) → IsStreamOf h (take (byte_count h) bytes) s → frame_count s ≤ room
        → AreStreamsOrNone (room - frame_count s) (place + byte_count h) hs (drop (byte_count h) bytes)
        → AreStreamsOrNone room place (h ∷ hs) bytes
    of_others s is few (inl (ss, are, most)) = inl (s ∷ ss, (is, are), omega (arith, few, most, sum_by-cons frame_count s ss))
    of_others s is few (inr (bad, why, none)) = inr (bad, why, inr (s, is, few, none))

    of_first : ((s : Stream) × IsStreamOf h (take (byte_count h) bytes) s × (frame_count s ≤ room))
        ⊎ ((bad : ℕ) × (why : What) × IsNoStreamOf h room place (take (byte_count h) bytes) bad why)
        → ((s : Stream) → AreStreamsOrNone (room - frame_count s) (place + byte_count h) hs (drop (byte_count h) bytes))
        → AreStreamsOrNone room place (h ∷ hs) bytes
    of_first (inl (s, is, few)) others = of_others s is few (others s)
    of_first (inr (bad, why, none)) others = inr (bad, why, inl none)
