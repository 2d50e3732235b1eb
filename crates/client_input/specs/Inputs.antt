-- Which frames an input is, up to its end, to a Close, or to where no whole frame stands.
use Rattle.std.specs.Prelude.{◌≡◌, ◌≢◌, ◌⊎◌, ℕ, ◌%◌, ◌^◌, List, [], length}
use Rattle.frame_stream.specs.Frames.{spellings, IsClose, BeginsWithFrame, BeginWithCalls, HasNoFrame}
use Rattle.frame_stream.specs.declared.frame.Frame.{Frame}

-- a Close stands first
abbrev pub HasClose : List ℕ → Type 0
HasClose bytes = (f : Frame) × (rest : List ℕ) × BeginsWithFrame bytes f rest × IsClose f

-- the input is these calls, to its end or to a Close
abbrev pub IsCalls : List ℕ → List Frame → Type 0
IsCalls input frames = (rest : List ℕ) × BeginWithCalls input frames rest × ((rest ≡ []) ⊎ HasClose rest)

-- Behind these calls no whole frame stands, and yet it goes on; this is where, counted modulo 2^64.
abbrev pub IsCutOff : List ℕ → List Frame → ℕ → Type 0
IsCutOff input frames place = (rest : List ℕ) × BeginWithCalls input frames rest × HasNoFrame rest
    × (rest ≢ []) × (place ≡ length (spellings frames) % 2 ^ 64)
