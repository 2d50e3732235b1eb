-- What is kept, and each list, has bytes alone.
use Rattle.std.proofs.Common.{◌≡◌, ℕ, ◌+◌, ◌-◌, ◌<◌, ◌≤◌, Bool, true, false, List, [], ◌∷◌, ◌++◌, length, take, drop, replicate}
use Rattle.std.proofs.Common.{sym, ap, ◌∙◌, arith}
use Rattle.std.specs.List.{All}
use Rattle.std.specs.Int.{from_le_bytes}
use mir.Syntax.{w32}
use Rattle.std.proofs.lemmas.List.{take-append-drop, take-take, drop-take, drop-append-le, length-take}
use Rattle.std.proofs.lemmas.List.Elements.{All-nil, All-head, All-same, All-replicate, All-append, All-take, All-drop}
use Rattle.segment_list.specs.Listed.{IsPiece}
use Rattle.image_runs.specs.Runs.{run_bytes}
use Rattle.packed_bytes.specs.Packed.{coded_runs, part, list_in}

abbrev IsByte : ℕ → Type 0
IsByte b = b < 256

-- a piece more
pub more_bytes : (store piece : List ℕ) (at next : ℕ) → at ≤ next → IsPiece next store piece → All IsByte piece
    → All IsByte (part store at next) → All IsByte (part store at (next + length piece))
more_bytes store piece at next order is bytes before =
    let longer = take (next + length piece) store in
    let first : take next longer ≡ take next store = take-take next (next + length piece) store (omega arith) in
    let second : drop next longer ≡ piece = drop-take next (length piece) store ∙ is.is in
    let both : longer ≡ take next store ++ piece =
    sym (take-append-drop next longer) ∙ ap (λ l. l ++ drop next longer) first ∙ ap (λ l. take next store ++ l) second in
    let reached : at ≤ length (take next store) = omega (arith, length-take next store, is.within, order) in
    All-same IsByte (part store at (next + length piece)) (part store at next ++ piece)
    (ap (drop at) both ∙ drop-append-le at (take next store) piece reached)
    (All-append IsByte (part store at next) piece before bytes)

-- and no more than a part of it
pub fewer_bytes : (store : List ℕ) (at until next : ℕ) → at ≤ until → until ≤ next → All IsByte (part store at next)
    → All IsByte (part store at until)
fewer_bytes store at until next order far bytes =
    let count = until - at in
    let here : at + count ≡ until = omega (arith, order) in
    let is : part store at until ≡ take count (part store at next) =
    ap (drop at) (sym (take-take until next store far)) ∙ ap (λ n. drop at (take n (take next store))) (sym here)
    ∙ drop-take at count (take next store) in
    All-same IsByte (part store at until) (take count (part store at next)) is (All-take IsByte count (part store at next) bytes)

-- those of codes
coded_bytes : (kept : List ℕ) → All IsByte kept → All IsByte (run_bytes (coded_runs kept))
coded_bytes [] all = All-nil IsByte
coded_bytes (a ∷ []) all = All-nil IsByte
coded_bytes (a ∷ b ∷ []) all = All-nil IsByte
coded_bytes (a ∷ b ∷ c ∷ []) all = All-nil IsByte
coded_bytes (a ∷ b ∷ c ∷ d ∷ []) all = All-nil IsByte
coded_bytes (a ∷ b ∷ c ∷ d ∷ e ∷ rest) all =
    let count = from_le_bytes w32 (b ∷ c ∷ d ∷ e ∷ []) in
    let code = a ∷ b ∷ c ∷ d ∷ e ∷ rest in
    All-append IsByte (replicate count a) (run_bytes (coded_runs rest))
    (All-replicate IsByte count a (All-head IsByte a (b ∷ c ∷ d ∷ e ∷ rest) all))
    (coded_bytes rest (All-drop IsByte 5 code all))

pub list_bytes : (as_runs : Bool) (kept : List ℕ) → All IsByte kept → All IsByte (list_in as_runs kept)
list_bytes true kept all = coded_bytes kept all
list_bytes false kept all = all
