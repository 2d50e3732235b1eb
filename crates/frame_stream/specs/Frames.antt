-- The frames of a stream, as bytes.
use Rattle.std.specs.Prelude.{◌≡◌, ℕ, ◌+◌, ◌≤◌, List, ◌++◌, length, take, drop, All}
use Rattle.std.specs.List.{flat_map}
use Rattle.frame_wire.specs.declared.head.Head.{Head}
use Rattle.frame_wire.specs.Spelling.{header_length, frame, IsHead}
use Rattle.frame_stream.specs.declared.frame.Frame.{Frame}
use Rattle.frame_stream.specs.Asked.{close_kind}
use Rattle.volume_model.specs.PlainStep.{longest_call}

-- a frame as bytes
abbrev pub spelled : Frame → List ℕ
spelled f = frame f.head f.body

-- frames as bytes, one after another
abbrev pub spellings : List Frame → List ℕ
spellings frames = flat_map spelled frames

-- a whole frame, with no more data than a call may have
pub record IsWholeFrame (f : Frame) : Type 0 where
  pub head : IsHead f.head
  pub body : length f.body ≡ f.head.len
  pub most : f.head.len ≤ longest_call

-- it ends its stream
abbrev pub IsClose : Frame → Type 0
IsClose f = f.head.kind ≡ close_kind

-- a whole frame that is a call
abbrev pub IsCall : Frame → Type 0
IsCall f = IsWholeFrame f × (IsClose f → ⊥)

-- the bytes begin with a whole frame, and the rest stands behind it
pub record BeginsWithFrame (bytes : List ℕ) (f : Frame) (rest : List ℕ) : Type 0 where
  pub whole : IsWholeFrame f
  pub text : bytes ≡ spelled f ++ rest

-- the bytes begin with no whole frame
abbrev pub HasNoFrame : List ℕ → Type 0
HasNoFrame bytes = (f : Frame) (rest : List ℕ) → BeginsWithFrame bytes f rest → ⊥

-- the bytes begin with these calls, and the rest stands behind them
pub record BeginWithCalls (bytes : List ℕ) (frames : List Frame) (rest : List ℕ) : Type 0 where
  pub calls : All IsCall frames
  pub text : bytes ≡ spellings frames ++ rest

-- how many bytes the frame of a header takes
abbrev pub span : Head → ℕ
span h = header_length + h.len

-- the frame of a header that stands at the front of the bytes
abbrev pub frame_under : Head → List ℕ → Frame
frame_under h bytes = record { head = h; body = take h.len (drop header_length bytes) }
