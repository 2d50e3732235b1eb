-- Lemmas on specs/Frames.antt.
use Rattle.std.proofs.Common.{◌≡◌, ◌∙◌, ℕ, ◌+◌, List, ◌++◌, length, take, drop, sym, ap, subst, arith, append_assoc, length-append}
use Rattle.std.proofs.Math.Seq.{drop-append_seam, drop-append-add}
use Rattle.std.proofs.lemmas.List.{take-append-drop, length-take-le}
use Rattle.frame_wire.specs.declared.head.Head.{Head}
use Rattle.frame_wire.specs.Spelling.{header_length, header}
use Rattle.frame_wire.specs.Decoding.{BeginsWith, HoldsFrame}
use Rattle.frame_stream.specs.declared.frame.Frame.{Frame}
use Rattle.frame_stream.specs.Frames.{spelled, span, frame_under}

-- what stands behind a header
pub behind_header : (bytes rest : List ℕ) (h : Head) → BeginsWith bytes h rest → drop header_length bytes ≡ rest
behind_header bytes rest h front =
    let n : length (header h) ≡ header_length = omega arith in
    subst (λ k. drop k bytes ≡ rest) n (ap (drop (length (header h))) front.whole ∙ drop-append_seam (header h) rest)

-- and behind its data
pub behind_data : (bytes rest : List ℕ) (h : Head) → BeginsWith bytes h rest → drop (span h) bytes ≡ drop h.len rest
behind_data bytes rest h front =
    let n : length (header h) ≡ header_length = omega arith in
    subst (λ k. drop (k + h.len) bytes ≡ drop h.len rest) n
    (ap (drop (length (header h) + h.len)) front.whole ∙ drop-append-add (header h) rest h.len)

-- a frame as bytes is as long as its header says
pub length_spelled : (f : Frame) → length f.body ≡ f.head.len → length (spelled f) ≡ span f.head
length_spelled f long = omega (arith, long, length-append (header f.head) f.body)

-- a frame that the bytes hold has as much data as its header says,
pub data_of_frame : (bytes : List ℕ) (most : ℕ) (h : Head) → HoldsFrame bytes most h
    → length (take h.len (drop header_length bytes)) ≡ h.len
data_of_frame bytes most h (rest, front, long, fits) =
    length-take-le h.len (drop header_length bytes) (omega (arith, ap length (behind_header bytes rest h front), long))

-- and the bytes are it, and what stands behind it
pub frame_and_rest : (bytes : List ℕ) (most : ℕ) (h : Head) → HoldsFrame bytes most h
    → bytes ≡ spelled (frame_under h bytes) ++ drop (span h) bytes
frame_and_rest bytes most h (rest, front, long, fits) =
    front.whole ∙ ap (λ l. header h ++ l) (sym (take-append-drop h.len rest))
    ∙ sym (append_assoc (header h) (take h.len rest) (drop h.len rest))
    ∙ ap (λ l. (header h ++ take h.len l) ++ drop h.len rest) (sym (behind_header bytes rest h front))
    ∙ ap (λ l. (header h ++ take h.len (drop header_length bytes)) ++ l) (sym (behind_data bytes rest h front))
