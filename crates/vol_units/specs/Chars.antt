-- The places of a name: its bytes, and zeros behind them.
use Rattle.std.specs.Prelude.{◌≡◌, ℕ, ◌-◌, ◌≤◌, List, ◌++◌, length, take, drop, replicate}
use Rattle.std.proofs.Common.{ap, sym, ◌∙◌, arith, length-take}
use Rattle.std.proofs.lemmas.List.{take-append-drop}

-- 64 places, of which those past the length are zeros
pub record IsPadded (places : List ℕ) (len : ℕ) : Type 0 where
  pub within : len ≤ 64
  pub whole : length places ≡ 64
  pub rest : drop len places ≡ replicate (64 - len) 0

-- the places of these bytes
abbrev pub padded : List ℕ → List ℕ
padded bytes = bytes ++ replicate (64 - length bytes) 0

-- the bytes give length and places back, as the struct's `inverse_ok` says
pub length-take_padded : (places : List ℕ) (len : ℕ) → IsPadded places len → length (take len places) ≡ len
length-take_padded places len p = omega (arith, length-take len places, p.within, p.whole)

pub padded-take : (places : List ℕ) (len : ℕ) → IsPadded places len → padded (take len places) ≡ places
padded-take places len p =
    ap (λ n. take len places ++ replicate (64 - n) 0) (length-take_padded places len p)
    ∙ ap (λ r. take len places ++ r) (sym p.rest)
    ∙ take-append-drop len places
