-- Where a reader of a map stands.
use Rattle.std.specs.Prelude.{◌≡◌, ℕ, ◌<◌, ◌^◌, ⊤, List, ◌++◌, length}
use Rattle.image_maps.specs.Begun.{begun_text, IsBegun}
use Rattle.image_maps.specs.Maps.{map_text, AreSpans, end_of}
use Rattle.image_maps.specs.Reading.{IsBadFrom}
use Rattle.image_maps.specs.declared.error.MapError.{MapError}
use Rattle.image_maps.specs.declared.error.MapError.TheVariants.{BadLine, NoMemory}
use Rattle.image_maps.specs.declared.span.BlockSpan.{BlockSpan}
use Rattle.image_maps.specs.declared.standing.Standing.{Standing}

-- all that was read
abbrev pub text_read : List BlockSpan → Standing → List ℕ
text_read spans at = map_text spans ++ begun_text at.line

-- the whole lines are of these runs, the next may begin as it did, and the numbers of the standing are right
pub record IsStanding (blocks : ℕ) (spans : List BlockSpan) (at : Standing) : Type 0 where
  pub small : blocks < 2 ^ 32
  pub fit : AreSpans 0 blocks spans
  pub begun : IsBegun at.least blocks at.line
  pub least : at.least ≡ end_of 0 spans
  pub start : at.start ≡ length (map_text spans)
  pub read : at.read ≡ length (text_read spans at)

-- why a text begins no map; want of memory is free
abbrev pub RefusesFrom : List ℕ → ℕ → MapError → Type 0
RefusesFrom text blocks (BadLine place) = IsBadFrom text blocks place
RefusesFrom text blocks NoMemory = ⊤

-- the runs are those of before, and maybe more
abbrev pub Keeps : List BlockSpan → List BlockSpan → Type 0
Keeps old new = (more : List BlockSpan) × (new ≡ old ++ more)
