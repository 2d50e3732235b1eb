-- Lemmas on specs/Streams.antt, for streams that stand one after another.
use Rattle.std.proofs.Common.{◌≡◌, ◌⊎◌, ◌∙◌, ℕ, ◌+◌, ◌-◌, ◌≤◌, List, [], ◌∷◌, ◌++◌, length, take, drop, sum_by}
use Rattle.std.proofs.Common.{Result, Ok, Err, refl, sym, ap, subst, inl, inr, arith, append_assoc, append-nil}
use Rattle.std.proofs.lemmas.List.{length-drop}
use Rattle.std.proofs.lemmas.List.Sums.{sum_by-cons, sum_by_push}
use Rattle.script_head.specs.declared.head.StreamHead.{StreamHead}
use Rattle.script_head.specs.declared.head.StreamHead.TheVariants as head
use Rattle.script_head.specs.Head.{byte_count, command_count}
use Rattle.script_text.specs.declared.error.ScriptError.{ScriptError}
use Rattle.script_text.specs.declared.error.ScriptError.TheVariants.{Bad, NoMemory}
use Rattle.script_head.specs.Limits.{most_calls}
use Rattle.script_text.specs.declared.script.Stream.{Stream}
use Rattle.script_text.specs.declared.script.Stream.TheVariants as stream
use Rattle.script_text.specs.declared.what.What.{What}
use Rattle.script_text.specs.declared.what.What.TheVariants as what
use Rattle.frame_stream.specs.Frames.{spellings}
use Rattle.script_text.specs.Streams.{stream_length, frame_count, IsBadAt, IsStreamOf, AreStreams, AreNoStreams}
use Rattle.script_text.specs.Refusals.{AnswersStreams, AnswersBody}

-- the streams so far, and the bytes that are left for the others
pub record AreReadSoFar (room place : ℕ) (heads : List StreamHead) (bytes : List ℕ) (streams : List Stream) (left : ℕ)
    (others : List StreamHead) (rest : List ℕ) : Type 0 where
  pub few : sum_by frame_count streams + left ≡ room
  pub whole : sum_by byte_count others ≡ length rest
  pub within : length rest ≤ length bytes
  pub found : (more : List Stream) → AreStreams others rest more → AreStreams heads bytes (streams ++ more)
  pub bad : (at : ℕ) (why : What) → AreNoStreams left (place + length bytes - length rest) others rest at why
      → AreNoStreams room place heads bytes at why

-- what is left holds the next stream
next_within : (h : StreamHead) (hs : List StreamHead) (rest : List ℕ) → sum_by byte_count (h ∷ hs) ≡ length rest
    → byte_count h ≤ length rest
next_within h hs rest whole = omega (arith, sum_by-cons byte_count h hs)

one_read : (room place : ℕ) (heads : List StreamHead) (bytes : List ℕ) (streams : List Stream) (left : ℕ) (h : StreamHead)
    (hs : List StreamHead) (rest : List ℕ) (s : Stream)
    → AreReadSoFar room place heads bytes streams left (h ∷ hs) rest → IsStreamOf h (take (byte_count h) rest) s → frame_count s ≤ left
    → AreReadSoFar room place heads bytes (streams ++ s ∷ []) (left - frame_count s) hs (drop (byte_count h) rest)
one_read room place heads bytes streams left h hs rest s read is few =
    let inside = next_within h hs rest read.whole in
    let size = length-drop (byte_count h) rest in
    record {
      few = omega (arith, sum_by_push frame_count streams s, read.few);
      whole = omega (arith, sum_by-cons byte_count h hs, read.whole, size);
      within = omega (arith, size, read.within);
      found = λ more are. subst (AreStreams heads bytes) (sym (append_assoc streams (s ∷ []) more)) (read.found (s ∷ more) (is, are));
      bad = λ at why are.
          let next : place + length bytes - length (drop (byte_count h) rest) ≡ place + length bytes - length rest + byte_count h =
          omega (arith, size, read.within, inside) in
          read.bad at why (inr (
            s,
            is,
            few,
            subst (λ p. AreNoStreams (left - frame_count s) p hs (drop (byte_count h) rest) at why) next are,
          ));
    }

-- ---- a step of a loop over the heads, where the next stream has n bytes

module _ (room place : ℕ) (heads : List StreamHead) (bytes : List ℕ) (streams : List Stream) (left : ℕ) (rest : List ℕ)
    (others : List StreamHead) (h : StreamHead) (hs : List StreamHead) (n : ℕ)
    (next : others ≡ h ∷ hs) (count : n ≡ byte_count h) (read : AreReadSoFar room place heads bytes streams left others rest) where
  read_next : AreReadSoFar room place heads bytes streams left (h ∷ hs) rest
  read_next = subst (λ l. AreReadSoFar room place heads bytes streams left l rest) next read

  front_of : (front : List ℕ) → front ≡ take n rest → front ≡ take (byte_count h) rest
  front_of front is = is ∙ ap (λ k. take k rest) count

  pub next_read : (front : List ℕ) (s : Stream) → front ≡ take n rest → IsStreamOf h front s → frame_count s ≤ left
      → AreReadSoFar room place heads bytes (streams ++ s ∷ []) (left - frame_count s) hs (drop n rest)
  next_read front s is stands few =
      subst (λ k. AreReadSoFar room place heads bytes (streams ++ s ∷ []) (left - frame_count s) hs (drop k rest)) (sym count)
      (one_read room place heads bytes streams left h hs rest s read_next (subst (λ l. IsStreamOf h l s) (front_of front is) stands) few)

-- there is no other
pub all_read : (room place : ℕ) (heads : List StreamHead) (bytes : List ℕ) (streams : List Stream) (left : ℕ)
    (rest : List ℕ) (others : List StreamHead) → length others ≡ 0
    → AreReadSoFar room place heads bytes streams left others rest → AnswersStreams room place heads bytes (Ok streams)
all_read room place heads bytes streams left rest [] none read =
    (subst (AreStreams heads bytes) (append-nil streams) (read.found [] tt), omega (arith, read.few))
all_read room place heads bytes streams left rest (h ∷ hs) none read = absurd (omega arith)

-- ---- the calls of all streams

calls_of_one : (h : StreamHead) (bytes : List ℕ) (s : Stream) → IsStreamOf h bytes s → stream_length s ≡ command_count h + frame_count s
calls_of_one (head.Frames count) bytes (stream.Frames frames) is = omega arith
calls_of_one (head.Frames count) bytes (stream.Control commands) is = absurd is
calls_of_one (head.Control commands) bytes (stream.Frames frames) is = absurd is
calls_of_one (head.Control commands) bytes (stream.Control others) is = omega (arith, ap length is)

-- a call is a command or a frame
pub calls_of_all : (heads : List StreamHead) (bytes : List ℕ) (ss : List Stream) → AreStreams heads bytes ss
    → sum_by stream_length ss ≡ sum_by command_count heads + sum_by frame_count ss
calls_of_all [] bytes [] are = refl
calls_of_all [] bytes (s ∷ ss) are = absurd are
calls_of_all (h ∷ hs) bytes [] are = absurd are
calls_of_all (h ∷ hs) bytes (s ∷ ss) (is, are) =
    omega (
      arith,
      calls_of_one h (take (byte_count h) bytes) s is,
      calls_of_all hs (drop (byte_count h) bytes) ss are,
      sum_by-cons stream_length s ss,
      sum_by-cons frame_count s ss,
      sum_by-cons command_count h hs,
    )

-- ---- the streams as the rest of an input

-- only calls and frames are bad in streams
pub calls_or_frame : (heads : List StreamHead) (room place : ℕ) (bytes : List ℕ) (bad : ℕ) (why : What)
    → AreNoStreams room place heads bytes bad why → (why ≡ what.Calls) ⊎ (why ≡ what.Frame)
calls_or_frame [] room place bytes bad why are = absurd are
calls_or_frame (head.Frames count ∷ hs) room place bytes bad why (inl (frames, rest, begin, few, stands)) =
    of_one (room - length frames) (place + length (spellings frames)) rest bad why stands
  where
    of_one : (left place : ℕ) (rest : List ℕ) (bad : ℕ) (why : What) → IsBadAt left place rest bad why → (why ≡ what.Calls)
        ⊎ (why ≡ what.Frame)
    of_one left place rest bad what.Frame stands = inr refl
    of_one left place rest bad what.Calls stands = inl refl
    of_one left place rest bad why stands = absurd stands
calls_or_frame (head.Control commands ∷ hs) room place bytes bad why (inl none) = absurd none
calls_or_frame (h ∷ hs) room place bytes bad why (inr (s, is, few, are)) = calls_or_frame hs _ _ _ bad why are

rest_is_neither : (what.Rest ≡ what.Calls) ⊎ (what.Rest ≡ what.Frame) → ⊥
rest_is_neither (inl e) = cc
rest_is_neither (inr e) = cc

-- the streams beside few enough commands
pub answers_body : (place : ℕ) (heads : List StreamHead) (body : List ℕ) (room : ℕ) (r : Result (List Stream) ScriptError)
    → sum_by byte_count heads ≡ length body
    → sum_by command_count heads ≤ most_calls → room ≡ most_calls - sum_by command_count heads
    → AnswersStreams room place heads body r → AnswersBody place heads body r
answers_body place heads body room (Ok streams) whole few is (are, most) =
    (whole, are, omega (arith, calls_of_all heads body streams are, few, is, most))
answers_body place heads body room (Err (Bad bad what.Rest)) whole few is none =
    absurd (rest_is_neither (calls_or_frame heads room place body bad what.Rest none))
answers_body place heads body room (Err (Bad bad why)) whole few is none =
    (whole, inr (few, subst (λ n. AreNoStreams n place heads body bad why) is none))
answers_body place heads body room (Err NoMemory) whole few is free = free
