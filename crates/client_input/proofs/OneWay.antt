-- An input begins, and ends, one way.
use Rattle.std.proofs.Common.{◌≡◌, ◌≢◌, ◌∙◌, ◌⊎◌, ℕ, ◌%◌, ◌^◌, List, [], ◌∷◌, ◌++◌, length, refl, sym, ap, subst, arith, inl, inr}
use Rattle.std.proofs.Common.{append_assoc, length-append}
use Rattle.std.proofs.lemmas.List.Elements.{All-head, All-tail}
use Rattle.frame_stream.proofs.FramesLemmas.{length_spelled}
use Rattle.frame_stream.specs.Frames.{spelled, spellings, IsCall, IsClose, BeginsWithFrame, BeginWithCalls, HasNoFrame}
use Rattle.frame_stream.specs.declared.frame.Frame.{Frame}
use Rattle.client_input.specs.Inputs.{HasClose, IsCalls, IsCutOff}
use Rattle.client_input.proofs.FirstFrame.{one_first}

-- ---- the calls that an input begins with

-- no call stands first
abbrev Stops : List ℕ → Type 0
Stops rest = (f : Frame) (more : List ℕ) → BeginsWithFrame rest f more → IsClose f

-- the first of several calls stands first, and is none that closes
first_of : (input : List ℕ) (f : Frame) (fs : List Frame) (rest : List ℕ) → BeginWithCalls input (f ∷ fs) rest
    → BeginsWithFrame input f (spellings fs ++ rest) × (IsClose f → ⊥)
first_of input f fs rest p =
    let call = All-head IsCall f fs p.calls in
    (record { whole = call.0; text = p.text ∙ append_assoc (spelled f) (spellings fs) rest }, call.1)

-- the others stand behind it
others_of : (input : List ℕ) (f : Frame) (fs : List Frame) (rest : List ℕ) → BeginWithCalls input (f ∷ fs) rest
    → BeginWithCalls (spellings fs ++ rest) fs rest
others_of input f fs rest p = record { calls = All-tail IsCall f fs p.calls; text = refl }

-- several calls that it begins with are the same as as many others, and so is what stands behind them
pub one_beginning : (input r s : List ℕ) (fs gs : List Frame) → BeginWithCalls input fs r → BeginWithCalls input gs s
    → length fs ≡ length gs → (fs ≡ gs) × (r ≡ s)
one_beginning input r s [] [] p q long = (refl, sym p.text ∙ q.text)
one_beginning input r s [] (g ∷ gs) p q long = absurd (omega (arith, long))
one_beginning input r s (f ∷ fs) [] p q long = absurd (omega (arith, long))
one_beginning input r s (f ∷ fs) (g ∷ gs) p q long =
    let same = one_first input f g (spellings fs ++ r) (spellings gs ++ s) (first_of input f fs r p).0 (first_of input g gs s q).0 in
    let others = one_beginning (spellings fs ++ r) r s fs gs (others_of input f fs r p)
    (subst (λ l. BeginWithCalls l gs s) (sym same.1) (others_of input g gs s q)) (omega (arith, long)) in
    (cc (same.0, others.0), others.1)

-- as far as calls go, they are one list, and so is what stands behind them
one_list : (input r s : List ℕ) (fs gs : List Frame) → BeginWithCalls input fs r → BeginWithCalls input gs s → Stops r → Stops s
    → (fs ≡ gs) × (r ≡ s)
one_list input r s [] [] p q ends too = (refl, sym p.text ∙ q.text)
one_list input r s [] (g ∷ gs) p q ends too =
    let first = first_of input g gs s q in
    absurd (first.1 (ends g (spellings gs ++ s) (subst (λ l. BeginsWithFrame l g (spellings gs ++ s)) p.text first.0)))
one_list input r s (f ∷ fs) [] p q ends too =
    let first = first_of input f fs r p in
    absurd (first.1 (too f (spellings fs ++ r) (subst (λ l. BeginsWithFrame l f (spellings fs ++ r)) q.text first.0)))
one_list input r s (f ∷ fs) (g ∷ gs) p q ends too =
    let same = one_first input f g (spellings fs ++ r) (spellings gs ++ s) (first_of input f fs r p).0 (first_of input g gs s q).0 in
    let others = one_list (spellings fs ++ r) r s fs gs (others_of input f fs r p)
    (subst (λ l. BeginWithCalls l gs s) (sym same.1) (others_of input g gs s q)) ends too in
    (cc (same.0, others.0), others.1)

-- ---- where they end

nothing_stops : (rest : List ℕ) → rest ≡ [] → Stops rest
nothing_stops rest none f more begins =
    absurd (omega (arith, ap length (sym none ∙ begins.text), length-append (spelled f) more, length_spelled f begins.whole.body))

close_stops : (rest : List ℕ) → HasClose rest → Stops rest
close_stops rest (g, behind, first, close) f more begins = subst IsClose (one_first rest g f behind more first begins).0 close

end_stops : (rest : List ℕ) → (rest ≡ []) ⊎ HasClose rest → Stops rest
end_stops rest (inl none) = nothing_stops rest none
end_stops rest (inr close) = close_stops rest close

no_frame_stops : (rest : List ℕ) → HasNoFrame rest → Stops rest
no_frame_stops rest none f more begins = absurd (none f more begins)

-- ---- what follows

-- an input is one list of calls
pub one_input : (input : List ℕ) (fs gs : List Frame) → IsCalls input fs → IsCalls input gs → fs ≡ gs
one_input input fs gs (r, p, a) (s, q, b) = (one_list input r s fs gs p q (end_stops r a) (end_stops s b)).0

-- or it is cut off at one place
pub one_cut : (input : List ℕ) (fs gs : List Frame) (at also : ℕ) → IsCutOff input fs at → IsCutOff input gs also
    → (fs ≡ gs) × (at ≡ also)
one_cut input fs gs at also (r, p, a, b, here) (s, q, c, d, there) =
    let same = one_list input r s fs gs p q (no_frame_stops r a) (no_frame_stops s c) in
    (same.0, here ∙ ap (λ l. length (spellings l) % 2 ^ 64) same.0 ∙ sym there)

-- what ends or closes is not cut off
not_both : (r s : List ℕ) → r ≡ s → (r ≡ []) ⊎ HasClose r → HasNoFrame s → s ≢ [] → ⊥
not_both r s same (inl none) no_frame some = some (sym same ∙ none)
not_both r s same (inr (f, more, first, close)) no_frame some = no_frame f more (subst (λ l. BeginsWithFrame l f more) same first)

-- and never both
pub calls_or_cut : (input : List ℕ) (fs gs : List Frame) (at : ℕ) → IsCalls input fs → IsCutOff input gs at → ⊥
calls_or_cut input fs gs at (r, p, a) (s, q, c, d, there) =
    not_both r s (one_list input r s fs gs p q (end_stops r a) (no_frame_stops s c)).1 a c d
