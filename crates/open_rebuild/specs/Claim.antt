-- What is true of a volume while one of its replicas is rebuilt, at every moment, as Longhorn's documentation of
-- rebuilding tells it: of the modes, of what has started, and of what the replica has of its source.
use Rattle.std.specs.Prelude.{◌≡◌, ◌≢◌, ℕ, ◌+◌, ◌-◌, ◌*◌, ◌<◌, Bool, true, false, List, length, replicate, slice_set}
use Rattle.std.specs.Prelude.{Contains, Option, None, Some}
use Rattle.vol_units.specs.declared.size.TheConstants.{PAGE_BYTES}
use Rattle.volume_model.specs.declared.mode.Mode.{Mode}
use Rattle.volume_model.specs.declared.mode.Mode.TheVariants.{Rw, Wo}
use Rattle.volume_model.specs.Modes.{mode_of}
use Rattle.range_turns.specs.declared.ticket.Ticket.{Ticket}
use Rattle.range_turns.specs.Order.{ticket_at}
use Rattle.replica_node.specs.Node.{Node, layer_names, snapped_node}
use Rattle.open_calls.specs.declared.open_call.OpenCall.{OpenCall}
use Rattle.step_answers.specs.declared.whole_op.WholeOp.{WholeOp}
use Rattle.step_answers.specs.declared.whole_op.WholeOp.TheVariants as whole
use Rattle.open_calls.specs.Calls.{open_at, node_at, whole_of}
use Rattle.open_calls.specs.Clients.{IsWriting}
use Rattle.step_answers.specs.Parts.{part_at, IsTaken}
use Rattle.open_calls.specs.declared.whole.Whole.{Whole}
use Rattle.open_calls.specs.Due.{forms, part_on}
use Rattle.open_rebuild.specs.Listed.{place_of, is_listed_in}
use Rattle.open_rebuild.specs.Rebuild.{IsRebuilt, IsFreeBlock, HasPut}
use Rattle.open_rebuild.specs.declared.rebuilding.Rebuilding.{Rebuilding}
use Rattle.open_rebuild.specs.Frozen.{AreFrozen, IsInByteOrder}

-- ---- the modes

-- one replica is written and not read, the one that is rebuilt, and its source is read and written
pub record HasRoles (modes : List Mode) (b : Rebuilding) : Type 0 where
  pub target : mode_of modes b.target ≡ Wo
  pub source : mode_of modes b.source ≡ Rw
  pub only : (r : ℕ) → mode_of modes r ≡ Wo → r ≡ b.target

-- and none is where no rebuild is open
abbrev pub AreRoles : List Mode → Option Rebuilding → Type 0
AreRoles modes None = (r : ℕ) → mode_of modes r ≢ Wo
AreRoles modes (Some b) = HasRoles modes b

-- ---- the pages that are copied

-- whether a page of the layer of a name is listed
abbrev pub listed_of : Rebuilding → List ℕ → ℕ → Bool
listed_of b = is_listed_in b.frozen b.pages b.listed

-- there is a bit for each page of each layer
abbrev pub HasBits : Rebuilding → Type 0
HasBits b = length b.listed ≡ length b.frozen * b.pages

-- one more is
abbrev pub with_page : Rebuilding → List ℕ → ℕ → Rebuilding
with_page b name page = record b { listed = slice_set b.listed (place_of b.frozen name * b.pages + page) true }

-- ---- what has started

-- the head itself has the blocks of the write
abbrev pub HasWrite : Ticket → OpenCall → Node → Type 0
HasWrite t c node = HasPut node t.range.first (t.range.end - t.range.first) (whole_of c)

-- the head of each replica that has taken the write, once it has started, has them
abbrev pub IsKeptBy : List Node → Ticket → OpenCall → Type 0
IsKeptBy nodes t c = IsWriting t → (r : ℕ) → IsTaken (part_at c.parts r) → HasWrite t c (node_at nodes r)

-- so it is with each started write
abbrev pub AreWritesKept : List Ticket → List OpenCall → List Node → Type 0
AreWritesKept tickets calls nodes = (i : ℕ) → i < length tickets → IsKeptBy nodes (ticket_at tickets i) (open_at calls i)

-- beside a rebuild only a snapshot is taken, under a name that no frozen layer has
abbrev pub IsBesideThese : List (List ℕ) → WholeOp → Type 0
IsBesideThese frozen (whole.Snapshot name) = Contains frozen name → ⊥
IsBesideThese frozen (whole.Remove name) = ⊥
IsBesideThese frozen (whole.Revert name) = ⊥
IsBesideThese frozen (whole.Purge f) = ⊥
IsBesideThese frozen (whole.Barrier r) = ⊥

-- an operation that may start, where a rebuild may be open
abbrev pub IsBeside : Option Rebuilding → WholeOp → Type 0
IsBeside None op = Unit {0}
IsBeside (Some b) op = IsBesideThese b.frozen op

-- what has started, if anything has
abbrev pub IsBesideStarted : Rebuilding → Option Whole → Type 0
IsBesideStarted b None = Unit {0}
IsBesideStarted b (Some w) = IsBesideThese b.frozen w.op

-- ---- the claim

-- Of the replicas in due form: the source has each frozen layer, the target is rebuilt as far as pages are listed, of
-- which there is a bit for each, and both heads have the blocks of the started writes that they took.
pub record IsUnderWay (size : ℕ) (tickets : List Ticket) (calls : List OpenCall) (nodes : List Node) (b : Rebuilding)
    : Type 0 where
  pub pages : b.pages * PAGE_BYTES ≡ size
  pub bits : HasBits b
  pub frozen : (name : List ℕ) → Contains b.frozen name → Contains (layer_names (node_at nodes b.source).layers) name
  pub rebuilt : IsRebuilt b.frozen (listed_of b) (IsFreeBlock tickets) (node_at nodes b.source) (node_at nodes b.target)
  pub writes : AreWritesKept tickets calls nodes

-- and once its barrier has ended, nothing has started that may not start beside it
pub record IsClaimed (size : ℕ) (tickets : List Ticket) (calls : List OpenCall) (whole : Option Whole)
    (nodes : List Node) (b : Rebuilding) : Type 0 where
  pub under_way : IsUnderWay size tickets calls (forms whole nodes) b
  pub beside : b.may_copy ≡ true → IsBesideStarted b whole

abbrev pub IsClaim : ℕ → List Ticket → List OpenCall → Option Whole → List Node → Option Rebuilding → Type 0
IsClaim size tickets calls whole nodes None = Unit {0}
IsClaim size tickets calls whole nodes (Some b) = IsClaimed size tickets calls whole nodes b

-- ---- all of it

-- a rebuild is open, or none is
pub record IsRebuilding (size : ℕ) (modes : List Mode) (tickets : List Ticket) (calls : List OpenCall)
    (whole : Option Whole) (nodes : List Node) (rebuild : Option Rebuilding) : Type 0 where
  pub roles : AreRoles modes rebuild
  pub claim : IsClaim size tickets calls whole nodes rebuild

-- ---- how steps find it

-- the operation takes a snapshot of that name on each replica whose head has that number
abbrev pub Snaps : WholeOp → ℕ → List ℕ → Type 0
Snaps op number name = (node : Node) → node.number ≡ number → part_on op node ≡ snapped_node node name

-- its barrier leaves these layers of the source, and closes its head under the name, and no page is listed
pub record IsNew (size : ℕ) (source : Node) (name : List ℕ) (b : Rebuilding) : Type 0 where
  pub frozen : AreFrozen (layer_names source.layers) name b.frozen
  pub order : IsInByteOrder b.frozen
  pub pages : b.pages * PAGE_BYTES ≡ size
  pub listed : b.listed ≡ replicate (length b.frozen * b.pages) false
  pub waits : b.may_copy ≡ false

-- the replica has no part in a rebuild
abbrev pub IsApart : Option Rebuilding → ℕ → Type 0
IsApart None r = Unit {0}
IsApart (Some b) r = (r ≢ b.target) × (r ≢ b.source)
