-- A line of a map that has begun, and what a byte more makes of it.
use Rattle.std.specs.Prelude.{◌≡◌, ℕ, ◌+◌, ◌*◌, ◌≤◌, ◌<◌, ⊤, List, [], ◌∷◌, ◌++◌, decimal}
use Rattle.image_maps.specs.Maps.{line, Fits, BeginsWithLine}
use Rattle.image_maps.specs.declared.line.BegunLine.{BegunLine}
use Rattle.image_maps.specs.declared.line.BegunLine.TheVariants.{Empty, First, Blank, Count}
use Rattle.image_maps.specs.declared.line.Step.{Step}
use Rattle.image_maps.specs.declared.line.Step.TheVariants.{Grows, Ends, Bad}

-- the byte of a digit
abbrev pub IsDigit : ℕ → Type 0
IsDigit byte = (48 ≤ byte) × (byte ≤ 57)

-- it is the byte of that digit
abbrev pub IsDigitOf : ℕ → ℕ → Type 0
IsDigitOf byte digit = (digit < 10) × (byte ≡ 48 + digit)

-- the number is from `low` on and below `high`, or is so once it is cut by its last digits
pub data Reaches (n : ℕ) : ℕ → ℕ → Type 0 where
  Within : (low high : ℕ) → low ≤ n → n < high → Reaches n low high
  Longer : (low high : ℕ) → Reaches n (low * 10) (high * 10) → Reaches n low high

-- the digits of a number are the first ones of a number from `least` on and below `end`
abbrev pub MayBegin : ℕ → ℕ → ℕ → Type 0
MayBegin number least end =
    (n : ℕ) × (least ≤ n) × (n < end) × ((more : List ℕ) × (decimal n ≡ decimal number ++ more))

-- the bytes that were read of it
abbrev pub begun_text : BegunLine → List ℕ
begun_text Empty = []
begun_text (First number) = decimal number
begun_text (Blank first) = decimal first ++ 32 ∷ []
begun_text (Count first count) = decimal first ++ 32 ∷ decimal count

-- the line of a run that fits may begin so, and may be the next one
abbrev pub IsBegun : ℕ → ℕ → BegunLine → Type 0
IsBegun least blocks Empty = ⊤
IsBegun least blocks (First number) = (number < blocks) × MayBegin number least blocks
IsBegun least blocks (Blank first) = (least ≤ first) × (first < blocks)
IsBegun least blocks (Count first count) = (least ≤ first) × (1 ≤ count) × (first + count ≤ blocks)

-- what a byte makes of the line: a longer one, a whole one, or one that nothing behind it can mend
abbrev pub Steps : ℕ → ℕ → BegunLine → ℕ → Step → Type 0
Steps least blocks begun byte (Grows next) =
    (begun_text next ≡ begun_text begun ++ byte ∷ []) × IsBegun least blocks next
Steps least blocks begun byte (Ends s) = (line s ≡ begun_text begun ++ byte ∷ []) × Fits least blocks s
Steps least blocks begun byte Bad =
    (more : List ℕ) → BeginsWithLine (begun_text begun ++ byte ∷ more) least blocks → ⊥
