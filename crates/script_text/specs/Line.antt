-- The first line of an input.
use Rattle.std.specs.Prelude.{◌≡◌, ◌≢◌, ℕ, ◌<◌, ◌≤◌, List, ◌∷◌, ◌++◌, length, take, All}
use Rattle.script_head.specs.Limits.{longest_line, most_input}

-- an input that is not too long: its first line, which a line feed ends, and the bytes behind it
pub record IsCut (input line body : List ℕ) : Type 0 where
  pub most : length input ≤ most_input
  pub whole : input ≡ line ++ 10 ∷ body
  pub first : All (λ byte. byte ≢ 10) line
  pub short : length line < longest_line

-- the front of the input has no line feed
abbrev pub HasNoLine : List ℕ → Type 0
HasNoLine input = All (λ byte. byte ≢ 10) (take longest_line input)
