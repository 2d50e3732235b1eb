-- Reasons as an opening tells them: each is one line's text.
use Rattle.std.specs.Prelude.{ℕ, ◌≢◌, List, Option, Some, None}
use Rattle.std.specs.List.{All}

-- a text without a line feed
abbrev pub IsOneLine : List ℕ → Type 0
IsOneLine text = All (λ b. b ≢ 10) text

-- the text of the reason, where there is one
abbrev pub TellsOneLine : Option (List ℕ) → Type 0
TellsOneLine None = Unit {0}
TellsOneLine (Some text) = IsOneLine text

-- that of each of these replicas
abbrev pub TellOneLine : List (Option (List ℕ)) → Type 0
TellOneLine reasons = All TellsOneLine reasons
