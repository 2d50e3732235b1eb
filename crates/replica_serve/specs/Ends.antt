-- What is left where the serving of a replica ends.
use Rattle.std.specs.Prelude.{◌≡◌, ℕ, List, Option, IfSome, Result, Ok, Err}
use Rattle.std.specs.Io.KnownBytes.{Appends}
use Rattle.outer_traits.specs.Causes.{Rose}
use Rattle.outer_traits.specs.Passing.{WritesPrefix}
use Rattle.frame_stream.specs.Frames.{BeginWithCalls}
use Rattle.frame_stream.specs.declared.frame.Frame.{Frame}
use Rattle.replica_serve.specs.declared.error.ServeError.{ServeError}
use Rattle.replica_serve.specs.declared.error.ServeError.TheVariants as error
use Rattle.replica_serve.specs.Answers.{replies_to}
use Rattle.client_input.specs.Inputs.{IsCalls, IsCutOff}

-- the sink has got the replies to these calls, and nothing else
abbrev pub HasReplies : List ℕ → List Frame → (old new : Option (List ℕ)) → Type 0
HasReplies disk frames old new = Appends old new (replies_to disk frames)

-- the sink has got a prefix of the replies to calls that the input begins with
abbrev pub HasSomeReplies : List ℕ → List ℕ → (old new : Option (List ℕ)) → Type 0
HasSomeReplies disk input old new = (frames : List Frame) × (rest : List ℕ) × BeginWithCalls input frames rest
    × WritesPrefix old new (replies_to disk frames)

-- What the end tells of the input, and of the sink: where all of the input was served, or all before a place where no whole
-- frame stands, the sink has all replies.
abbrev pub EndsSo : List ℕ → List ℕ → (old new : Option (List ℕ)) → Result (Unit {0}) ServeError → Type 0
EndsSo disk input old new (Ok done) = (frames : List Frame) × IsCalls input frames × HasReplies disk frames old new
EndsSo disk input old new (Err (error.Frame place)) =
    (frames : List Frame) × IsCutOff input frames place × HasReplies disk frames old new
EndsSo disk input old new (Err why) = HasSomeReplies disk input old new

-- so it ended, of an input that the source had, where it tells what it had
abbrev pub HasServed : List ℕ → (left old new : Option (List ℕ)) → Result (Unit {0}) ServeError → Type 0
HasServed disk left old new result = (input : List ℕ) × IfSome left (λ told. told ≡ input) × EndsSo disk input old new result

-- what the counts of faults of the source (s, then t) and of the sink (k, then l) say of an end
abbrev pub ServeCounts : Result (Unit {0}) ServeError → ℕ → ℕ → ℕ → ℕ → Type 0
ServeCounts (Ok done) s t k l = (t ≡ s) × (l ≡ k)
ServeCounts (Err error.ReadFault) s t k l = Rose s t × (l ≡ k)
ServeCounts (Err error.WriteFault) s t k l = (t ≡ s) × Rose k l
ServeCounts (Err (error.Frame place)) s t k l = (t ≡ s) × (l ≡ k)
ServeCounts (Err error.NoMemory) s t k l = (t ≡ s) × (l ≡ k)
