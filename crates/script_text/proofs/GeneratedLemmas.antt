-- How a generated script is made: frames and streams one after another, until none is left.
use Rattle.std.proofs.Common.{◌≡◌, ◌∙◌, ℕ, ◌+◌, ◌-◌, ◌<◌, List, [], ◌∷◌, ◌++◌, replicate, cond}
use Rattle.std.proofs.Common.{Result, Ok, Err, is_ok, suc, sym, ap, subst, arith, append_assoc, append-nil, OnOk}
use Rattle.std.proofs.lemmas.List.{replicate-append-replicate}
use Rattle.std.specs.List.{All}
use Rattle.frame_stream.specs.declared.frame.Frame.{Frame}
use Rattle.script_text.specs.declared.script.Stream.{Stream}
use Rattle.script_text.specs.declared.script.Stream.TheVariants as stream
use Rattle.frame_stream.specs.Frames.{spelled, spellings, IsCall, BeginWithCalls}
use Rattle.script_text.specs.Generated.{drawn_behind, state_behind, frame_in, frames_behind, frames_of, control_commands, streams_from}

-- ---- the bytes of a frame

-- as many more of one byte
pub more_same : (old mid new : List ℕ) (n m byte : ℕ) → mid ≡ old ++ replicate n byte → new ≡ mid ++ replicate m byte
    → new ≡ old ++ replicate (n + m) byte
more_same old mid new n m byte had is =
    is ∙ ap (λ l. l ++ replicate m byte) had ∙ append_assoc old (replicate n byte) (replicate m byte)
    ∙ ap (λ l. old ++ l) (replicate-append-replicate n m byte)

-- and then they are all
pub all_same : {E : Type 0} (r : Result (Unit {0}) E) (old mid new last : List ℕ) (n m count byte : ℕ)
    → mid ≡ old ++ replicate n byte → last ≡ replicate m byte → n + m ≡ count → new ≡ cond (is_ok r) (mid ++ last) mid
    → OnOk r (new ≡ old ++ replicate count byte)
all_same (Ok x) old mid new last n m count byte had same all is =
    more_same old mid new n m byte had (is ∙ ap (λ l. mid ++ l) same) ∙ ap (λ k. old ++ replicate k byte) all
all_same (Err e) old mid new last n m count byte had same all is = tt

-- bytes behind a header are a frame's
pub headed : {E : Type 0} (r : Result (Unit {0}) E) (old mid new front body : List ℕ) → mid ≡ old ++ front
    → OnOk r (new ≡ mid ++ body) → OnOk r (new ≡ old ++ (front ++ body))
headed (Ok x) old mid new front body had is = is ∙ ap (λ l. l ++ body) had ∙ append_assoc old front body
headed (Err e) old mid new front body had is = tt

-- ---- frames

-- of these frames the bytes have all but those that are left
abbrev pub AreMade : List ℕ → List Frame → List Frame → Type 0
AreMade bytes left whole = bytes ++ spellings left ≡ spellings whole

-- the first of those that are left is made
pub next_made : (bytes : List ℕ) (page i calls x : ℕ) (f : Frame) (whole : List Frame) → i < calls
    → AreMade bytes (frames_behind page (i + 1) x (calls - i)) whole → frame_in page (i + 1) (drawn_behind x) ≡ f
    → AreMade (bytes ++ spelled f) (frames_behind page (i + 1 + 1) (state_behind x) (calls - (i + 1))) whole
next_made bytes page i calls x f whole less made is =
    let more = frames_behind page (i + 1 + 1) (state_behind x) (calls - (i + 1)) in
    let left : frames_behind page (i + 1) x (calls - i) ≡ f ∷ more =
    ap (frames_behind page (i + 1) x) one_more ∙ ap (λ g. g ∷ more) is in
    append_assoc bytes (spelled f) (spellings more) ∙ subst (λ l. AreMade bytes l whole) left made
  where
    one_more : calls - i ≡ suc (calls - (i + 1))
    one_more = omega arith

-- where none is left, the bytes are those of all
pub all_made : (bytes : List ℕ) (page seq x left : ℕ) (whole : List Frame) → left ≡ 0
    → AreMade bytes (frames_behind page seq x left) whole → All IsCall whole → BeginWithCalls bytes whole []
all_made bytes page seq x left whole none made calls = record {
  calls = calls;
  text =
      sym (append-nil bytes) ∙ subst (λ n. AreMade bytes (frames_behind page seq x n) whole) none made
      ∙ sym (append-nil (spellings whole));
}

-- ---- streams

pub next_stream_made : (made : List Stream) (number calls page streams : ℕ) (whole : List Stream) (s : Stream) → page < streams
    → made ++ streams_from number calls page (streams - page) ≡ whole → s ≡ stream.Frames (frames_of number calls page)
    → (made ++ s ∷ []) ++ streams_from number calls (page + 1) (streams - (page + 1)) ≡ whole
next_stream_made made number calls page streams whole s less so_far is =
    let more = streams_from number calls (page + 1) (streams - (page + 1)) in
    append_assoc made (s ∷ []) more ∙ ap (λ t. made ++ t ∷ more) is
    ∙ ap (λ n. made ++ streams_from number calls page n) (sym one_more) ∙ so_far
  where
    one_more : streams - page ≡ suc (streams - (page + 1))
    one_more = omega arith

pub last_stream_made : (made : List Stream) (number calls page left : ℕ) (whole : List Stream) (s : Stream) → left ≡ 0
    → made ++ streams_from number calls page left ≡ whole → s ≡ stream.Control control_commands → made ++ s ∷ [] ≡ whole
last_stream_made made number calls page left whole s none so_far is =
    ap (λ t. made ++ t ∷ []) is ∙ ap (λ n. made ++ streams_from number calls page n) (sym none) ∙ so_far
