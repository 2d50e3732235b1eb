-- What is true of a World before and after each step: the invariant.
use Rattle.std.specs.Prelude.{◌≡◌, ◌⊎◌, ℕ, ◌+◌, ◌<◌, ◌≤◌, ◌==◌, List, length, Any, Bool, true, false, count_by, Option, None}
use Rattle.std.specs.Prelude.{Some, is_some, IfSome, if◌then◌else◌}
use Rattle.volume_model.specs.declared.command.Command.{Command}
use Rattle.volume_model.specs.declared.command.Command.TheVariants as command
use Rattle.volume_model.specs.declared.mode.Mode.{Mode}
use Rattle.volume_model.specs.declared.mode.Mode.TheVariants.{Rw, Wo, Err}
use Rattle.volume_model.specs.Copies.{HasCopies}
use Rattle.volume_model.specs.Faults.{CountsRise}
use Rattle.volume_model.specs.History.{Spot, IsLegal, SeenInOrder, answers_of, command_behind, EndsCommand}
use Rattle.volume_model.specs.Names.{TellOf, AreNamed, AreOwnFree}
use Rattle.volume_model.specs.PlainState.{Volume}
use Rattle.volume_model.specs.Rebuilds.{rebuild_of, AreBehindFalls}
use Rattle.volume_model.specs.Replay.{replay}
use Rattle.volume_model.specs.Snapshots.{layer_count}
use Rattle.volume_model.specs.Standing.{Place, EachStands}
use Rattle.journal_book.specs.declared.opening.Opening.{Opening}
use Rattle.volume_model.specs.declared.entry.Entry.{Entry}
use Rattle.volume_model.specs.declared.entry.Entry.TheVariants as entry
use Rattle.volume_model.specs.declared.mark.Rebuild.{Rebuild}
use Rattle.volume_model.specs.declared.mark.Rebuild.TheVariants as rebuild
use Rattle.replica_node.specs.Node.{Node}
use Rattle.open_calls.specs.Clients.{AreClients}
use Rattle.open_calls.specs.Due.{due, forms}
use Rattle.open_calls.specs.Whole.{IsWhole}
use Rattle.range_turns.specs.declared.ticket.Ticket.{Ticket}
use Rattle.open_calls.specs.declared.maint.MaintCall.{MaintCall}
use Rattle.open_calls.specs.Maint.{AreMaint, HasTurn, command_at}
use Rattle.open_rebuild.specs.declared.rebuilding.Rebuilding.{Rebuilding}
use Rattle.open_rebuild.specs.Claim.{IsRebuilding}
use Rattle.volume_core.specs.declared.world.EndedRebuild.{EndedRebuild}
use Rattle.volume_core.specs.Data.{owed_data}
use Rattle.volume_core.specs.State.{State, opening_of, told_of, modes_in, index_at, gave_up_at}

-- the largest number that a volume's head may begin with
abbrev pub largest_number : ℕ
largest_number = 999999

-- What the journal was told of how the run began is so; no two snapshots had one name, and each name was taken. Each
-- snapshot that could be used had a copy as long as the disk.
pub record IsOpened (o : Spot) (opening : Opening) : Type 0 where
  pub layers : opening.layers ≡ layer_count o.state.volume.snapshots
  pub names : TellOf opening.names o.state
  pub named : AreNamed o.state
  pub copies : HasCopies (length o.state.volume.disk) o.state.volume
  pub number : o.state.volume.snapshots.number ≤ largest_number

-- How far the rebuild of a replica is: open for the target of the one that is open, aborted for the target of the one
-- that ended, and else not asked for.
abbrev pub how_far : Option Rebuilding → Option EndedRebuild → ℕ → Rebuild
how_far (Some b) ended q = if b.target == q then rebuild.Open b.source else rebuild.Unasked
how_far None (Some e) q = if e.target == q then rebuild.Aborted e.place else rebuild.Unasked
how_far None None q = rebuild.Unasked

-- Faults rise in the journal, and each stream's calls stand in their order; as many are counted of it as it has
-- answers. The engine's own names are free from the head's number on. The journal tells of each rebuild how far it is.
pub record IsOrdered (o : Spot) (entries : List Entry) (indices : List ℕ) (begun : Option Rebuilding)
    (ended : Option EndedRebuild) : Type 0 where
  pub rise : CountsRise entries
  pub order : SeenInOrder entries
  pub index : (stream : ℕ) → stream < length indices → index_at indices stream ≡ length (answers_of stream entries)
  pub few : (stream : ℕ) → stream < length indices → index_at indices stream ≤ length entries
  pub own : AreOwnFree (replay o.state entries)
  pub rebuild : (q : ℕ) → rebuild_of q entries ≡ how_far begun ended q

-- the journal is one legal history so far
pub record IsTold (o : Spot) (entries : List Entry) (indices : List ℕ) (begun : Option Rebuilding)
    (ended : Option EndedRebuild) : Type 0 where
  pub legal : IsLegal o entries
  pub ordered : IsOrdered o entries indices begun ended

-- the replica has not failed
abbrev pub is_up : Mode → Bool
is_up Rw = true
is_up Wo = true
is_up Err = false

-- one place for the end of the rebuild that is open
abbrev pub owed_end : Option Rebuilding → ℕ
owed_end begun = if is_some begun then 1 else 0

-- The entries that may come without places being made: one for each started call, one for each command that has the
-- maintenance turn or waits for it, one for each replica to fail, and one for the end of a rebuild that is open.
abbrev pub owed_entries : State → ℕ
owed_entries s =
    count_by (λ t. t.started) s.tickets + length s.commands + count_by is_up (modes_in s) + owed_end s.rebuild

-- an add of the replica has the maintenance turn
pub record HasAdd (maint : List Ticket) (commands : List MaintCall) (r : ℕ) : Type 0 where
  pub stream : ℕ
  pub turn : HasTurn maint commands stream (command.Add r)

-- A rebuild that is open, and one that was aborted, is of the command that has the turn, and not both are there.
pub record AreAdds (maint : List Ticket) (commands : List MaintCall) (begun : Option Rebuilding)
    (ended : Option EndedRebuild) : Type 0 where
  pub of_begun : IfSome begun (λ b. HasAdd maint commands b.target)
  pub of_ended : IfSome ended (λ e. HasAdd maint commands e.target)
  pub one : IfSome begun (λ b. ended ≡ None)

-- ---- what caused the marks of a journal

-- the command has the maintenance turn, and saw no more than that many entries
pub record IsAsking (maint : List Ticket) (commands : List MaintCall) (c : Command) (place : ℕ) : Type 0 where
  pub stream : ℕ
  pub turn : HasTurn maint commands stream c
  pub saw : (command_at commands 0).saw ≤ place

-- a mark that has a command behind it stands in that command so far: it is answered, or has the turn
abbrev pub StandsSoFar : List Ticket → List MaintCall → Place
StandsSoFar maint commands before (entry.Answer a) after = Unit {0}
StandsSoFar maint commands before (entry.Mark m) after = IfSome (command_behind m)
    (λ c. Any (EndsCommand c (length before)) after ⊎ IsAsking maint commands c (length before))

-- what aborted a rebuild was a fall, and what a command does is done while it is open
pub record AreCaused (maint : List Ticket) (commands : List MaintCall) (entries : List Entry) : Type 0 where
  pub fell : AreBehindFalls entries
  pub within : EachStands (StandsSoFar maint commands) entries

-- no stream gave a command up that had the turn
abbrev pub NoneGaveUp : List Bool → Type 0
NoneGaveUp gave_up = (stream : ℕ) → gave_up_at gave_up stream ≡ false

-- what is true of a World whose replicas, taken as these, agree with that volume
pub record IsSoundOn (volume : Volume) (nodes : List Node) (s : State) : Type 0 where
  pub opened : IsOpened (opening_of s) s.book.opening
  pub told : IsTold (opening_of s) s.book.entries s.indices s.rebuild s.ended
  pub clients : AreClients volume s.size (length s.indices) s.book.entries (modes_in s) s.tickets s.calls nodes
  pub spare : owed_entries s ≤ s.book.spare
  pub spare_data : owed_data s.calls ≤ s.book.spare_data

-- while no call on the whole volume is started: the replicas as they are, and the plain volume
abbrev pub IsCalm : State → Type 0
IsCalm s = IsSoundOn (told_of s).volume s.nodes s

-- The invariant. The replicas in due form agree with the due volume: with what the plain volume is once the call on the
-- whole volume is done that has started, if one has.
pub record IsSound (s : State) : Type 0 where
  pub on : IsSoundOn (due s.whole (told_of s).volume) (forms s.whole s.nodes) s
  pub whole : IsWhole (told_of s) (modes_in s) s.tickets s.calls s.nodes s.whole
  pub maint : AreMaint (told_of s).volume.snapshots (length s.indices) s.book.entries (modes_in s) s.tickets s.calls
      s.nodes s.maint s.commands
  pub disk : length (told_of s).volume.disk ≡ s.size
  pub rebuild : IsRebuilding s.size (modes_in s) s.tickets s.calls s.whole s.nodes s.rebuild
  pub adds : AreAdds s.maint s.commands s.rebuild s.ended
  pub caused : NoneGaveUp s.gave_up → AreCaused s.maint s.commands s.book.entries
  pub streams : length s.gave_up ≡ length s.indices
