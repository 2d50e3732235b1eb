-- A World between two streams, and what a stream's turn makes of it.
use Rattle.std.specs.Prelude.{◌≡◌, ℕ, ◌≤◌, List, [], length, All, Option, IfSome}
use Rattle.outer_traits.specs.declared.ends.Ends.{Ends}
use Rattle.outer_traits.specs.Lines.{AreLinesOf}
use Rattle.script_text.specs.declared.script.Stream.{Stream}
use Rattle.script_text.specs.declared.script.Stream.TheVariants as stream
use Rattle.volume_model.specs.declared.call.Call.{Call}
use Rattle.volume_core.specs.declared.world.World.{World}
use Rattle.volume_core.specs.Sound.{IsSound, NoneGaveUp}
use Rattle.volume_core.specs.State.{state_of, opening_of}
use Rattle.volume_core.specs.Streams.{origin_of}
use Rattle.client_worker.specs.Asks.{IsAsked}
use Rattle.control_worker.specs.Serving.{IsForWorker}
use Rattle.world_holder.specs.View.{own_entries}
use Rattle.stream_turns.specs.Turns.{IsTurn, AreTurns}

-- a stream that a worker takes who has so many replicas
abbrev pub IsTaken : ℕ → Stream → Type 0
IsTaken replicas (stream.Frames frames) = All IsAsked frames
IsTaken replicas (stream.Control commands) = All (IsForWorker replicas) commands

-- No call is open, no command has the maintenance turn or waits for it, no stream gave a command up, and there are few
-- replicas.
pub record IsBetween (w : World) : Type 0 where
  pub sound : IsSound (state_of w)
  pub rest : w.turns.tickets ≡ []
  pub turns : w.commands.items ≡ []
  pub gave_up : NoneGaveUp w.gave_up.items
  pub few : length w.nodes.items ≤ 8

-- the stream has no entry yet
abbrev pub HasNoEntry : ℕ → World → Type 0
HasNoEntry n w = own_entries n (opening_of (state_of w)) w.journal.entries ≡ []

-- the volume began as it did, with as many replicas and streams
abbrev pub KeepsOrigin : World → World → Type 0
KeepsOrigin w w2 = origin_of (state_of w2) ≡ origin_of (state_of w)

-- the stream had its turn, and its lines tell that
abbrev pub HasTurn : List Call → ℕ → World → World → (ℕ → ℕ) → (ℕ → Option (List (List ℕ))) → Type 0
HasTurn asked n w w2 counts told = IsTurn (opening_of (state_of w)) (length w.nodes.items) n asked
    w.journal.entries w2.journal.entries counts told

-- these streams had their turns, from the beginning of the journal on, and their lines tell that
abbrev pub HaveTurns : List (List Call) → World → World → (ℕ → ℕ → ℕ) → (ℕ → ℕ → Option (List (List ℕ))) → Type 0
HaveTurns streams w w2 counts told = AreTurns (opening_of (state_of w)) (length w.nodes.items) streams
    w2.journal.entries counts told

-- of a worker's lines to so many replicas: none has failed or carried anything
pub record AreNewLines (worker replicas : ℕ) (ends : List Ends) (counts : List ℕ)
    (told : List (Option (List (List ℕ)))) : Type 0 where
  pub lined : AreLinesOf worker 0 ends
  pub many : length ends ≡ replicas
  pub unfailed : All (λ n. n ≡ 0) counts
  pub empty : All (λ t. IfSome t (λ frames. frames ≡ [])) told
