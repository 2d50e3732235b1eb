-- What a call finds when it starts: places in the replicas, and of a write what stays in its first and its last block.
use Rattle.std.specs.Prelude.{◌≡◌, ◌≢◌, ℕ, ◌+◌, ◌<◌, List, length}
use Rattle.vol_units.specs.Bytes.{bytes_at}
use Rattle.vol_units.specs.declared.range.BlockRange.{BlockRange}
use Rattle.volume_model.specs.declared.mode.Mode.{Mode}
use Rattle.volume_model.specs.declared.mode.Mode.TheVariants.{Err}
use Rattle.volume_model.specs.Modes.{mode_of}
use Rattle.replica_node.specs.Node.{Node}
use Rattle.replica_node.specs.Room.{HasRoom, KeepsRoom, with_room_of}
use Rattle.open_calls.specs.Calls.{node_at}

-- the same replicas, with more places made
pub record KeepsNodes (old new : List Node) : Type 0 where
  pub count : length new ≡ length old
  pub same : (r : ℕ) → node_at new r ≡ with_room_of (node_at old r) (node_at new r)
  pub kept : (r : ℕ) → KeepsRoom (node_at old r) (node_at new r)

-- each replica that has not failed has places for the range
abbrev pub HaveRoom : List Mode → List Node → BlockRange → Type 0
HaveRoom modes nodes range = (r : ℕ) → mode_of modes r ≢ Err → HasRoom (node_at nodes r) range

-- What stays of a disk in the blocks from one byte until another, of which n bytes from a place on are written: what is
-- before these, and what is behind them.
pub record AreEdges (from until at n : ℕ) (disk front back : List ℕ) : Type 0 where
  pub before : front ≡ bytes_at disk from (length front)
  pub behind : back ≡ bytes_at disk (at + n) (length back)
  pub first : from < until → from + length front ≡ at
  pub whole : from + (length front + n + length back) ≡ until
