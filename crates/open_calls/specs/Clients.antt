-- What is true of the open calls and of the replicas, at every moment: of the plain volume as the journal tells it.
use Rattle.std.specs.Prelude.{◌≡◌, ◌≢◌, ℕ, suc, ◌+◌, ◌-◌, ◌<◌, ◌≤◌, List, [], ◌∷◌, length, true, slice_index_or}
use Rattle.vol_units.specs.Bytes.{bytes_at, with_bytes_at}
use Rattle.vol_units.specs.Range.{blocks_around}
use Rattle.volume_model.specs.declared.entry.Answer.{Answer}
use Rattle.volume_model.specs.declared.entry.Entry.{Entry}
use Rattle.volume_model.specs.declared.mode.Mode.{Mode}
use Rattle.volume_model.specs.declared.mode.Mode.TheVariants.{Rw, Err}
use Rattle.volume_model.specs.PlainState.{Volume}
use Rattle.volume_model.specs.PlainStep.{longest_call}
use Rattle.volume_model.specs.Modes.{mode_of}
use Rattle.volume_model.specs.History.{answers_of}
use Rattle.range_turns.specs.declared.ticket.Ticket.{Ticket}
use Rattle.range_turns.specs.declared.ticket.Kind.TheVariants as kind
use Rattle.range_turns.specs.Order.{ticket_at, from_of, until_of, AreInOrder}
use Rattle.replica_node.specs.Node.{Node}
use Rattle.replica_node.specs.Fold.{snapshots_of}
use Rattle.replica_node.specs.Room.{HasRoom}
use Rattle.replica_node.specs.Volume.{copies_in}
use Rattle.step_answers.specs.declared.parts.Part.TheVariants.{Apart}
use Rattle.open_calls.specs.declared.open_call.OpenCall.{OpenCall}
use Rattle.step_answers.specs.Parts.{part_at, IsTaken}
use Rattle.open_calls.specs.Calls.{open_at, node_at, whole_of}

-- the byte of a disk at a place
abbrev pub byte_of : List ℕ → ℕ → ℕ
byte_of disk k = slice_index_or disk k 0

-- ---- a ticket and its call

-- a write that has started
pub record IsWriting (t : Ticket) : Type 0 where
  pub started : t.started ≡ true
  pub writes : t.kind ≡ kind.Write

-- a read that has started
pub record IsReading (t : Ticket) : Type 0 where
  pub started : t.started ≡ true
  pub reads : t.kind ≡ kind.Read

-- the bytes of the call lie on the disk, and in the blocks of its ticket, which are those around them
pub record Lies (size : ℕ) (t : Ticket) (c : OpenCall) : Type 0 where
  pub around : t.range ≡ blocks_around c.at c.length
  pub up : from_of t ≤ until_of t
  pub within : until_of t ≤ size
  pub good : c.at + c.length ≤ size
  pub covers : (k : ℕ) → c.at ≤ k → k < c.at + c.length → (from_of t ≤ k) × (k < until_of t)
  pub empty : c.length ≡ 0 → from_of t ≡ until_of t

-- the call is as it was enrolled, and once it has started it has a part for each replica and its buffer or its edges
pub record Fits (size streams replicas : ℕ) (t : Ticket) (c : OpenCall) : Type 0 where
  pub lies : Lies size t c
  pub stream : c.stream < streams
  pub short : t.kind ≡ kind.Read → c.length ≤ longest_call
  pub count : t.kind ≡ kind.Write → length c.bytes ≡ c.length
  pub parts : t.started ≡ true → t.kind ≢ kind.Whole → length c.parts ≡ replicas
  pub buffer : IsReading t → length c.buffer ≡ c.length
  pub whole : IsWriting t → from_of t + length (whole_of c) ≡ until_of t

-- ---- the replicas

-- no write that has started holds the byte
abbrev pub IsUnheld : List Ticket → ℕ → Type 0
IsUnheld tickets k = (i : ℕ) → i < length tickets → IsWriting (ticket_at tickets i)
    → from_of (ticket_at tickets i) ≤ k → until_of (ticket_at tickets i) ≤ k

-- The volume has the size. Each replica that has not failed has it too, and the volume's snapshots. Each that is read
-- and written has the volume's copies, and reads as its disk but for bytes that are held.
pub record Agree (volume : Volume) (size : ℕ) (modes : List Mode) (tickets : List Ticket) (nodes : List Node)
    : Type 0 where
  pub disk : length volume.disk ≡ size
  pub as_many : length modes ≡ length nodes
  pub sizes : (r : ℕ) → mode_of modes r ≢ Err → length (node_at nodes r).disk ≡ size
  pub tree : (r : ℕ) → mode_of modes r ≢ Err → snapshots_of (node_at nodes r) ≡ volume.snapshots
  pub copies : (r : ℕ) → mode_of modes r ≡ Rw → copies_in (node_at nodes r).layers ≡ volume.copies
  pub bytes : (r k : ℕ) → mode_of modes r ≡ Rw → IsUnheld tickets k
      → byte_of (node_at nodes r).disk k ≡ byte_of volume.disk k

-- ---- started calls

-- a replica that has taken the write reads in its blocks as the write's bytes
abbrev pub HasBytes : Ticket → OpenCall → Node → Type 0
HasBytes t c node = (k : ℕ) → from_of t ≤ k → k < until_of t
    → byte_of node.disk k ≡ byte_of (whole_of c) (k - from_of t)

-- these are, in its blocks, what the write makes of the disk
abbrev pub IsMerged : List ℕ → Ticket → OpenCall → Type 0
IsMerged disk t c = (k : ℕ) → from_of t ≤ k → k < until_of t
    → byte_of (whole_of c) (k - from_of t) ≡ byte_of (with_bytes_at disk c.at c.bytes) k

-- what a started write has of its replicas, and they of it
pub record WritesOn (disk : List ℕ) (modes : List Mode) (nodes : List Node) (t : Ticket) (c : OpenCall) : Type 0 where
  pub owed : (r : ℕ) → mode_of modes r ≢ Err → part_at c.parts r ≢ Apart
  pub room : (r : ℕ) → mode_of modes r ≢ Err → HasRoom (node_at nodes r) t.range
  pub taken : (r : ℕ) → IsTaken (part_at c.parts r) → HasBytes t c (node_at nodes r)
  pub merged : IsMerged disk t c

-- what a started read has of its replicas: once one gave its bytes, these are the disk's
pub record ReadsFrom (disk : List ℕ) (modes : List Mode) (c : OpenCall) : Type 0 where
  pub owed : (r : ℕ) → mode_of modes r ≢ Err → part_at c.parts r ≢ Apart
  pub read : (r : ℕ) → IsTaken (part_at c.parts r) → c.buffer ≡ bytes_at disk c.at c.length

-- ---- the streams

-- the place behind the last of these answers, each with its place, and where there is none the one before them
abbrev pub place_behind : ℕ → List (ℕ × Answer) → ℕ
place_behind place [] = place
place_behind place (p ∷ more) = place_behind (suc p.0) more

-- the place behind the last answer of a stream
abbrev pub behind_last : ℕ → List Entry → ℕ
behind_last stream entries = place_behind 0 (answers_of stream entries)

-- no open call is the stream's
abbrev pub IsIdle : ℕ → List OpenCall → Type 0
IsIdle stream calls = (i : ℕ) → i < length calls → (open_at calls i).stream ≢ stream

-- each stream has one open call at most, which has seen the stream's last answer, and no more than there is
pub record AreSeen (entries : List Entry) (calls : List OpenCall) : Type 0 where
  pub alone : (i k : ℕ) → i < k → k < length calls → (open_at calls i).stream ≢ (open_at calls k).stream
  pub past : (i : ℕ) → i < length calls → behind_last (open_at calls i).stream entries ≤ (open_at calls i).saw
  pub saw : (i : ℕ) → i < length calls → (open_at calls i).saw ≤ length entries

-- ---- all of it

-- the calls on ranges, and what the replicas owe them: of a volume and replicas that may be in due form
pub record AreClients (volume : Volume) (size streams : ℕ) (entries : List Entry) (modes : List Mode)
    (tickets : List Ticket) (calls : List OpenCall) (nodes : List Node) : Type 0 where
  pub paired : length calls ≡ length tickets
  pub order : AreInOrder tickets
  pub fits : (i : ℕ) → i < length tickets → Fits size streams (length nodes) (ticket_at tickets i) (open_at calls i)
  pub agree : Agree volume size modes tickets nodes
  pub writes : (i : ℕ) → i < length tickets → IsWriting (ticket_at tickets i)
      → WritesOn volume.disk modes nodes (ticket_at tickets i) (open_at calls i)
  pub reads : (i : ℕ) → i < length tickets → IsReading (ticket_at tickets i)
      → ReadsFrom volume.disk modes (open_at calls i)
  pub seen : AreSeen entries calls
