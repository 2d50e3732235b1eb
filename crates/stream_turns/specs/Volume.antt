-- What a script asks of a run: how its volume begins, what each stream calls, and over which lines.
use Rattle.std.specs.Prelude.{ℕ, zero, suc, List, [], ◌∷◌, ◌++◌, length, map, replicate}
use Rattle.frame_wire.specs.declared.head.Head.{Head}
use Rattle.volume_model.specs.declared.call.Call.{Call}
use Rattle.volume_model.specs.declared.call.Call.TheVariants as call
use Rattle.volume_model.specs.declared.mode.Mode.TheVariants.{Rw}
use Rattle.volume_model.specs.Disk.{zeros}
use Rattle.volume_model.specs.PlainState.{state_of}
use Rattle.volume_model.specs.History.{Spot}
use Rattle.frame_stream.specs.Asked.{call_of}
use Rattle.outer_traits.specs.Lines.{Asked, ask_of_line}
use Rattle.script_head.specs.declared.line_plan.LinePlan.{LinePlan}
use Rattle.script_head.specs.LinePlans.{planned}
use Rattle.script_text.specs.declared.script.Script.{Script}
use Rattle.script_text.specs.declared.script.Stream.{Stream}
use Rattle.script_text.specs.declared.script.Stream.TheVariants as stream

-- where a volume of that size begins that is blank: zeros, on so many replicas that are all read and written
abbrev pub spot_of_zeros : ℕ → ℕ → Spot
spot_of_zeros size replicas = record { state = state_of (zeros size); modes = replicate replicas Rw }

-- where a run of the script begins that opens nothing
abbrev pub blank_spot : Script → Spot
blank_spot script = spot_of_zeros script.size script.replicas

-- what a stream calls
abbrev pub stream_calls : Stream → List Call
stream_calls (stream.Frames frames) = map call_of frames
stream_calls (stream.Control commands) = map call.Command commands

-- the headers of the frames that ask it: commands have none
abbrev pub heads_of : Stream → List Head
heads_of (stream.Frames frames) = map (λ f. f.head) frames
heads_of (stream.Control commands) = []

-- the same of each stream
abbrev pub calls_in : Script → List (List Call)
calls_in script = map stream_calls script.streams

abbrev pub heads_in : Script → List (List Head)
heads_in script = map heads_of script.streams

-- the lines that a worker asks for: one to each of so many replicas, in order, each to fail as it is planned
abbrev pub asks_to : List LinePlan → ℕ → ℕ → List Asked
asks_to plans worker zero = []
asks_to plans worker (suc r) = asks_to plans worker r ++ ask_of_line worker r (planned plans worker r) ∷ []

-- the same of so many workers, one after another, each to so many replicas
abbrev pub asks_from : List LinePlan → ℕ → ℕ → List Asked
asks_from plans replicas zero = []
asks_from plans replicas (suc w) = asks_from plans replicas w ++ asks_to plans w replicas

-- the lines of a run: of each stream one to each replica, as the script plans it
abbrev pub asks_in : Script → List Asked
asks_in script = asks_from script.lines script.replicas (length script.streams)
