-- A World that has just been opened.
use Rattle.std.specs.Prelude.{◌≡◌, ◌≢◌, ℕ, ◌≤◌, false, List, [], length, replicate, None}
use Rattle.volume_model.specs.declared.mode.Mode.TheVariants.{Rw, Wo}
use Rattle.volume_model.specs.Modes.{mode_of, HasSource, IsSource}
use Rattle.volume_model.specs.Names.{TellOf, AreNamed, AreOwnFree, names_in}
use Rattle.volume_model.specs.PlainState.{PlainState}
use Rattle.volume_model.specs.Snapshots.{layer_count}
use Rattle.journal_book.specs.declared.opening.Opening.{Opening}
use Rattle.replica_node.specs.Node.{Node}
use Rattle.replica_node.specs.Volume.{volume_of_node}
use Rattle.open_calls.specs.Calls.{node_at}
use Rattle.volume_core.specs.State.{State}
use Rattle.volume_core.specs.Sound.{largest_number}

-- the plain state that a replica is, where these names were taken
abbrev pub state_with : Node → Opening → PlainState
state_with node opening = record { volume = volume_of_node node; used = names_in opening.names }

-- what is asked of each replica that is read and written: it has the size, and the opening tells of its snapshots
pub record FitsOpening (size : ℕ) (opening : Opening) (node : Node) : Type 0 where
  pub long : length node.disk ≡ size
  pub number : node.number ≤ largest_number
  pub own : AreOwnFree (state_with node opening)
  pub layers : opening.layers ≡ layer_count (volume_of_node node).snapshots
  pub names : TellOf opening.names (state_with node opening)
  pub named : AreNamed (state_with node opening)

-- A volume may be opened on these replicas: there is a mode for each, some are read and written, none is rebuilt, and
-- those that are read and written agree.
pub record MayOpen (size : ℕ) (opening : Opening) (nodes : List Node) : Type 0 where
  pub as_many : length opening.modes ≡ length nodes
  pub source : HasSource opening.modes
  pub rebuilt : (r : ℕ) → mode_of opening.modes r ≢ Wo
  pub each : (r : ℕ) → mode_of opening.modes r ≡ Rw → FitsOpening size opening (node_at nodes r)
  pub agree : (r q : ℕ) → mode_of opening.modes r ≡ Rw → mode_of opening.modes q ≡ Rw
      → volume_of_node (node_at nodes r) ≡ volume_of_node (node_at nodes q)

-- no call, no rebuild, and a place for each replica to fail, but none for data
pub record IsOpenedOn (size : ℕ) (opening : Opening) (nodes : List Node) (streams : ℕ) (s : State) : Type 0 where
  pub source : ℕ
  pub first : IsSource opening.modes source
  pub state : s ≡ record {
    size = size;
    first = node_at nodes source;
    nodes = nodes;
    tickets = [];
    calls = [];
    whole = None;
    maint = [];
    commands = [];
    rebuild = None;
    ended = None;
    gave_up = replicate streams false;
    indices = replicate streams 0;
    book = record { opening = opening; entries = []; spare = length nodes; spare_data = 0 };
  }

-- how a run on so many blank replicas begins
abbrev pub blank_opening : ℕ → Opening
blank_opening replicas = record { modes = replicate replicas Rw; layers = 1; names = [] }
