-- What the status tells of a replica that was served.
use Rattle.std.specs.Prelude.{◌≡◌, ℕ, List, Option, IfSome, Result, Ok, Err}
use Rattle.frame_stream.specs.declared.frame.Frame.{Frame}
use Rattle.replica_serve.specs.declared.error.ServeError.{ServeError}
use Rattle.replica_serve.specs.declared.error.ServeError.TheVariants as serve_error
use Rattle.replica_serve.specs.Ends.{HasServed}
use Rattle.client_input.specs.Inputs.{IsCalls, IsCutOff}
use Rattle.volume_cli.specs.declared.status.Status.{Status}
use Rattle.volume_cli.specs.declared.status.Status.TheVariants as status

-- the status of a serving that ended so
abbrev pub serve_status : Result (Unit {0}) ServeError → Status
serve_status (Ok done) = status.Done
serve_status (Err serve_error.ReadFault) = status.ReadFault
serve_status (Err serve_error.WriteFault) = status.WriteFault
serve_status (Err (serve_error.Frame place)) = status.Frame place
serve_status (Err serve_error.NoMemory) = status.NoMemory

-- it is the status of a serving of that disk, and the sink has got the replies that go with its end
abbrev pub Serves : List ℕ → (left old new : Option (List ℕ)) → Status → Type 0
Serves disk left old new answer =
    (end : Result (Unit {0}) ServeError) × (answer ≡ serve_status end) × HasServed disk left old new end

-- no whole frame stood at that place of what the source had, and yet it went on
abbrev pub WasCutOff : Option (List ℕ) → ℕ → Type 0
WasCutOff left place = IfSome left (λ told. (frames : List Frame) × IsCutOff told frames place)

-- An input that is calls to its end or to a Close is served whole. Of one that is cut off the place is told.
pub record EndsAsInput (Is : Status → Type 0) (input : List ℕ) : Type 0 where
  pub whole : (frames : List Frame) → IsCalls input frames → Is status.Done
  pub cut : (frames : List Frame) (place : ℕ) → IsCutOff input frames place → Is (status.Frame place)
