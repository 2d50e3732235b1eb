-- How more of a client's input comes to a reader of frames.
use Rattle.std.specs.Prelude.{◌≡◌, ◌≢◌, ℕ, List, [], Option}
use Rattle.std.specs.Io.KnownBytes.{Consumes, IsAtEnd}
use Rattle.frame_stream.specs.Reading.{Fed, fed_more}
use Rattle.client_input.specs.declared.feeding.Input.{Input}
use Rattle.client_input.specs.declared.feeding.Input.TheVariants as input

-- more bytes were read and fed, at least one, or the input is at its end
abbrev pub FeedsMore : (left0 left1 : Option (List ℕ)) (fed new : Fed) → Input → Type 0
FeedsMore left0 left1 fed new input.More =
    (bytes : List ℕ) × (bytes ≢ []) × Consumes left0 left1 bytes × (new ≡ fed_more fed bytes)
FeedsMore left0 left1 fed new input.End = Consumes left0 left1 [] × IsAtEnd left1 × (new ≡ fed)
