-- What a reader of a map was fed, and what it answers.
use Rattle.std.specs.Prelude.{◌≡◌, ℕ, List, ◌++◌, Option, None, Some, Result, Ok, Err, Vec}
use Rattle.std.specs.Global.{Global}
use Rattle.image_maps.specs.Maps.{IsMap, IsBadAt}
use Rattle.image_maps.specs.declared.error.MapError.{MapError}
use Rattle.image_maps.specs.declared.error.MapError.TheVariants.{BadLine, NoMemory}
use Rattle.image_maps.specs.declared.span.BlockSpan.{BlockSpan}

-- with more bytes behind it the text is a map
abbrev pub BeginsMap : List ℕ → ℕ → Type 0
BeginsMap text blocks = (more : List ℕ) × ((spans : List BlockSpan) × IsMap (text ++ more) blocks spans)

-- whatever follows it, the first line that does not fit begins at that place
abbrev pub IsBadFrom : List ℕ → ℕ → ℕ → Type 0
IsBadFrom text blocks place = (more : List ℕ) → IsBadAt (text ++ more) blocks place

-- the bytes that a reader was fed, as long as a map may begin so, or where the first line begins that does not fit
pub data Fed : Type 0 where
  Begins : List ℕ → Fed
  Refused : ℕ → Fed

abbrev pub fed_of : Option ℕ → List ℕ → Fed
fed_of None text = Begins text
fed_of (Some place) text = Refused place

-- a reader: how many blocks the image has, and what it was fed
pub record Reading : Type 0 where
  pub blocks : ℕ
  pub fed : Fed

-- a piece more: all of it is read, or the place of the first bad line is told, now and from then on
abbrev pub Feeds : ℕ → Fed → List ℕ → Result (Unit {0}) MapError → Fed → Type 0
Feeds blocks (Refused place) piece result new = (result ≡ Err (BadLine place)) × (new ≡ Refused place)
Feeds blocks (Begins text) piece (Ok done) new = (new ≡ Begins (text ++ piece)) × BeginsMap (text ++ piece) blocks
Feeds blocks (Begins text) piece (Err (BadLine place)) new =
    (new ≡ Refused place) × IsBadFrom (text ++ piece) blocks place
Feeds blocks (Begins text) piece (Err NoMemory) new = new ≡ Begins text

-- the end of the text: its runs, or the place of its first bad line; no memory is wanted
abbrev pub EndsMap : ℕ → Fed → Result (Vec BlockSpan Global) MapError → Type 0
EndsMap blocks (Refused place) result = result ≡ Err (BadLine place)
EndsMap blocks (Begins text) (Ok spans) = IsMap text blocks spans.items
EndsMap blocks (Begins text) (Err (BadLine place)) = IsBadAt text blocks place
EndsMap blocks (Begins text) (Err NoMemory) = ⊥
