-- How the frames of a stream are kept: how many they are, and the bytes that they begin.
use Rattle.std.specs.Prelude.{ℕ, zero, suc, List, [], ◌∷◌, take, drop}
use Rattle.std.specs.Int.{w32, w64, from_le_bytes, cast_signed}
use Rattle.frame_wire.specs.declared.head.Head.{Head}
use Rattle.frame_stream.specs.declared.frame.Frame.{Frame}
use Rattle.frame_stream.specs.Frames.{span, frame_under, BeginsWithFrame}

-- the only header that bytes can begin with
unfoldable pub header_in : List ℕ → Head
header_in bytes = record {
  seq = from_le_bytes w32 (take 4 (drop 2 bytes));
  kind = from_le_bytes w32 (take 4 (drop 6 bytes));
  offset = cast_signed w64 (from_le_bytes w64 (take 8 (drop 10 bytes)));
  size = from_le_bytes w32 (take 4 (drop 18 bytes));
  len = from_le_bytes w32 (take 4 (drop 22 bytes));
}

-- the only frame that they can begin with
abbrev pub first_frame : List ℕ → Frame
first_frame bytes = frame_under (header_in bytes) bytes

-- what stands behind it
abbrev pub behind_first : List ℕ → List ℕ
behind_first bytes = drop (span (header_in bytes)) bytes

-- the frames that bytes begin with, so many
abbrev pub first_frames : ℕ → List ℕ → List Frame
first_frames zero bytes = []
first_frames (suc n) bytes = first_frame bytes ∷ first_frames n (behind_first bytes)

-- the bytes begin with so many whole frames
abbrev pub HoldFrames : ℕ → List ℕ → Type 0
HoldFrames zero bytes = Unit {0}
HoldFrames (suc n) bytes = BeginsWithFrame bytes (first_frame bytes) (behind_first bytes) × HoldFrames n (behind_first bytes)
