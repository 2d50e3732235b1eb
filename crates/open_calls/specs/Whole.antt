-- The call on the whole volume that has started.
use Rattle.std.specs.Prelude.{◌≡◌, ◌≢◌, ℕ, ◌+◌, ◌<◌, ◌^◌, List, length, slice_set, slice_index_or, Option, None, Some, true, false}
use Rattle.vol_units.specs.Name.{begins_sys, sys_name}
use Rattle.vol_units.specs.declared.limits.TheConstants.{MOST_LAYERS}
use Rattle.sparse_image.specs.Image.{Tables}
use Rattle.volume_model.specs.declared.mark.FoldOrDrop.{FoldOrDrop}
use Rattle.volume_model.specs.declared.mark.FoldOrDrop.TheVariants as part
use Rattle.volume_model.specs.declared.mode.Mode.{Mode}
use Rattle.volume_model.specs.declared.mode.Mode.TheVariants.{Err}
use Rattle.volume_model.specs.Modes.{mode_of}
use Rattle.volume_model.specs.PlainState.{PlainState, is_used, copy_of}
use Rattle.volume_model.specs.Purge.{CanBeDone}
use Rattle.volume_model.specs.Snapshots.{Snapshots, is_live, layer_count}
use Rattle.range_turns.specs.declared.ticket.Kind.TheVariants as kind
use Rattle.range_turns.specs.declared.ticket.Ticket.{Ticket}
use Rattle.range_turns.specs.Order.{ticket_at, StandsAt}
use Rattle.replica_node.specs.Node.{Node, IsFree, IsSpareOf}
use Rattle.replica_node.specs.Fold.{IsBare, tree_of, snapshots_of}
use Rattle.step_answers.specs.declared.parts.Part.TheVariants.{Apart, Owed, Taken, Acked}
use Rattle.open_calls.specs.declared.open_call.OpenCall.{OpenCall}
use Rattle.step_answers.specs.declared.whole_op.WholeOp.{WholeOp}
use Rattle.step_answers.specs.declared.whole_op.WholeOp.TheVariants as whole
use Rattle.step_answers.specs.Parts.{part_at}
use Rattle.open_calls.specs.Calls.{open_at, node_at}
use Rattle.open_calls.specs.declared.whole.Whole.{Whole}
use Rattle.open_calls.specs.Due.{part_on}

-- ---- what has to be so of the volume

-- The operation can be done: a snapshot of a user's name, which is new, has room; what is reverted to or removed is
-- there. A barrier's snapshot is the volume's already.
abbrev pub MayBeDone : WholeOp → PlainState → Type 0
MayBeDone (whole.Snapshot name) p =
    (begins_sys name ≡ false) × (is_used p.used name ≡ false) × (layer_count p.volume.snapshots < MOST_LAYERS)
MayBeDone (whole.Remove name) p = is_live p.volume.snapshots.tree name ≡ true
MayBeDone (whole.Revert name) p =
    (is_live p.volume.snapshots.tree name ≡ true) × (length (copy_of p.volume.copies name) ≡ length p.volume.disk)
MayBeDone (whole.Purge f) p = CanBeDone p.volume.snapshots.tree p.volume.snapshots.on f
MayBeDone (whole.Barrier r) p = Unit {0}

-- ---- what has to be so of a replica

-- the child has no block any more that is to be folded
abbrev pub IsFolded : FoldOrDrop → Node → Type 0
IsFolded (part.Fold p c) node = IsBare node.layers c
IsFolded (part.Drop p) node = Unit {0}

-- the spare head of a replica, if it has one
abbrev pub spare_at : List (Option Tables) → ℕ → Option Tables
spare_at spares r = slice_index_or spares r None

-- one is there, and fits the replica
abbrev pub HasSpare : Node → Option Tables → Type 0
HasSpare node None = ⊥
HasSpare node (Some spare) = IsSpareOf node spare

-- it is there where the operation uses one
abbrev pub IsSpared : WholeOp → Node → Option Tables → Type 0
IsSpared (whole.Snapshot name) node spare = HasSpare node spare
IsSpared (whole.Remove name) node spare = Unit {0}
IsSpared (whole.Revert name) node spare = HasSpare node spare
IsSpared (whole.Purge f) node spare = Unit {0}
IsSpared (whole.Barrier r) node spare = HasSpare node spare

-- the operation finds no block of a child that is to be folded
abbrev pub IsFoldedFor : WholeOp → Node → Type 0
IsFoldedFor (whole.Snapshot name) node = Unit {0}
IsFoldedFor (whole.Remove name) node = Unit {0}
IsFoldedFor (whole.Revert name) node = Unit {0}
IsFoldedFor (whole.Purge f) node = IsFolded f node
IsFoldedFor (whole.Barrier r) node = Unit {0}

-- a snapshot of the replica can be taken under the name
pub record CanSnap (n : Node) (name : List ℕ) : Type 0 where
  pub layers : length n.layers + 1 < MOST_LAYERS
  pub free : IsFree n name
  pub number : n.number + 1 < 2 ^ 64

-- the replica, which owes its part, has the volume's snapshots still; of a barrier it has them once it took its part
abbrev pub StandsFor : WholeOp → Snapshots → Node → Type 0
StandsFor (whole.Barrier r) s node =
    (snapshots_of (part_on (whole.Barrier r) node) ≡ s) × CanSnap node (sys_name node.number)
StandsFor op s node = snapshots_of node ≡ s

-- the replica, which owes its part, stands so, and has all that the part takes
pub record CanTake (op : WholeOp) (s : Snapshots) (node : Node) (spare : Option Tables) : Type 0 where
  pub still : StandsFor op s node
  pub spared : IsSpared op node spare
  pub folded : IsFoldedFor op node

-- the replica can go back to the snapshot of the name
pub record CanRevert (n : Node) (name : List ℕ) : Type 0 where
  pub live : is_live (tree_of n) name ≡ true
  pub number : n.number + 1 < 2 ^ 64

-- a layer of the replica can go
pub record CanPurge (n : Node) (f : FoldOrDrop) : Type 0 where
  pub can : CanBeDone (tree_of n) n.on f
  pub folded : IsFolded f n

-- nothing in the replica is against the operation
abbrev pub IsFit : WholeOp → Node → Type 0
IsFit (whole.Snapshot name) n = CanSnap n name
IsFit (whole.Remove name) n = is_live (tree_of n) name ≡ true
IsFit (whole.Revert name) n = CanRevert n name
IsFit (whole.Purge f) n = CanPurge n f
IsFit (whole.Barrier r) n = CanSnap n (sys_name n.number)

-- a spare head for each replica that has not failed, where the operation uses one
abbrev pub AreSpared : WholeOp → List Mode → List Node → List (Option Tables) → Type 0
AreSpared op modes nodes spares = (r : ℕ) → mode_of modes r ≢ Err → IsSpared op (node_at nodes r) (spare_at spares r)

-- ---- the call

-- It has started by its ticket, each replica that has not failed has a part of it, it can be done, and each that owes its
-- part can take it.
pub record IsStarted (p : PlainState) (modes : List Mode) (tickets : List Ticket) (calls : List OpenCall)
    (nodes : List Node) (w : Whole) : Type 0 where
  pub place : ℕ
  pub stands : StandsAt tickets w.number place
  pub kind : (ticket_at tickets place).kind ≡ kind.Whole
  pub started : (ticket_at tickets place).started ≡ true
  pub op : (open_at calls place).op ≡ Some w.op
  pub parts : length w.parts ≡ length nodes
  pub owes : (r : ℕ) → mode_of modes r ≢ Err → part_at w.parts r ≢ Apart
  pub may : MayBeDone w.op p
  pub takes : (r : ℕ) → mode_of modes r ≢ Err → part_at w.parts r ≡ Owed
      → CanTake w.op p.volume.snapshots (node_at nodes r) (spare_at w.spares r)

-- no ticket for the whole volume has started, or that call has
abbrev pub IsWhole : PlainState → List Mode → List Ticket → List OpenCall → List Node → Option Whole → Type 0
IsWhole p modes tickets calls nodes None =
    (i : ℕ) → i < length tickets → (ticket_at tickets i).kind ≡ kind.Whole → (ticket_at tickets i).started ≡ false
IsWhole p modes tickets calls nodes (Some w) = IsStarted p modes tickets calls nodes w

-- ---- what its steps make of it

-- the replica has taken its part, and used its spare head
abbrev pub parted : Whole → ℕ → Whole
parted w r = record w { parts = slice_set w.parts r Taken; spares = slice_set w.spares r None }

-- the replica has acknowledged its part
abbrev pub part_acked : Whole → ℕ → Whole
part_acked w r = record w { parts = slice_set w.parts r Acked }
