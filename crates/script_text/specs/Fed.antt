-- What a reader of frames was fed of the bytes of a stream.
use Rattle.std.specs.Prelude.{◌≡◌, ℕ, ◌-◌, ◌<◌, ◌≤◌, ◌^◌, List, length, take, drop}
use Rattle.frame_wire.specs.declared.head.Head.{Head}
use Rattle.frame_stream.specs.declared.frame.Frame.{Frame}
use Rattle.frame_stream.specs.Frames.{BeginsWithFrame}
use Rattle.frame_stream.specs.Reading.{Fed}
use Rattle.volume_model.specs.PlainStep.{longest_call}

-- the reader has so many of the bytes, from the first on, and takes each frame that a call may be
pub record HasFirst (fed : Fed) (count : ℕ) (bytes : List ℕ) : Type 0 where
  pub left : fed.left ≡ take count bytes
  pub within : count ≤ length bytes
  pub most : fed.most ≡ longest_call

-- The bytes were fed up to an end, and the reader gave those before its place. They are so few that a place is counted.
pub record IsFed (fed : Fed) (end : ℕ) (bytes : List ℕ) : Type 0 where
  pub order : fed.place ≤ end
  pub within : end ≤ length bytes
  pub few : length bytes < 2 ^ 63
  pub has : HasFirst fed (end - fed.place) (drop fed.place bytes)

-- the bytes begin with a whole frame that has this header, and the rest stands behind it
abbrev pub BeginsWithHead : List ℕ → Head → List ℕ → Type 0
BeginsWithHead bytes head rest = (f : Frame) × (head ≡ f.head) × BeginsWithFrame bytes f rest
