-- A map that is read piece by piece.
use Rattle.std.specs.Prelude.{◌≡◌, ℕ, ◌+◌, List, length, take, Option, Some, None, Result, Ok, Err, MatchResult, Vec}
use Rattle.std.specs.Global.{Global}
use Rattle.image_maps.specs.Maps.{IsMap, IsBadAt}
use Rattle.image_maps.specs.Reading.{Fed, Begins}
use Rattle.image_maps.specs.declared.span.BlockSpan.{BlockSpan}

-- the text is a map of these runs, or bad at that place
abbrev pub IsMapRead : ℕ → List ℕ → Result (Vec BlockSpan Global) ℕ → Type 0
IsMapRead blocks text found = MatchResult found (λ spans. IsMap text blocks spans.items) (IsBadAt text blocks)

-- the file is there, and its text is such a map
abbrev pub IsReadFile : ℕ → Option (List ℕ) → Result (Vec BlockSpan Global) ℕ → Type 0
IsReadFile blocks file found = (text : List ℕ) × (file ≡ Some text) × IsMapRead blocks text found

-- the file is there, and is bad at that place
abbrev pub IsBadFile : ℕ → Option (List ℕ) → ℕ → Type 0
IsBadFile blocks file place = (text : List ℕ) × (file ≡ Some text) × IsBadAt text blocks place

-- so many bytes of a file of that length were fed
pub record IsFed (file : Option (List ℕ)) (len at : ℕ) (fed : Fed) : Type 0 where
  pub text : List ℕ
  pub there : file ≡ Some text
  pub long : length text ≡ len
  pub begun : fed ≡ Begins (take at text)

-- of the rest of a file so many bytes were fed as there was room for, or it is bad
abbrev pub FeedsMore : ℕ → Option (List ℕ) → ℕ → ℕ → ℕ → Fed → Result ℕ ℕ → Type 0
FeedsMore blocks file len at room fed (Ok count) = IsFed file len (at + count) fed × (count ≡ room)
FeedsMore blocks file len at room fed (Err place) = IsBadFile blocks file place

-- all of a file was fed, or it is bad
abbrev pub FeedsAll : ℕ → Option (List ℕ) → ℕ → Fed → Option ℕ → Type 0
FeedsAll blocks file len fed None = IsFed file len len fed
FeedsAll blocks file len fed (Some place) = IsBadFile blocks file place
