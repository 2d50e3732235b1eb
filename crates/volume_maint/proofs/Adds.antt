-- The command of a rebuild in the maintenance turn, and what is so while no rebuild is open.
use Rattle.std.proofs.Common.{◌≡◌, ◌≢◌, ℕ, List, refl, sym, subst}
use Rattle.std.specs.Prelude.{Option, None, Some}
use Rattle.volume_model.specs.declared.command.Command.{Command}
use Rattle.volume_model.specs.declared.command.Command.TheVariants as command
use Rattle.volume_model.specs.declared.mode.Mode.{Mode}
use Rattle.volume_model.specs.declared.mode.Mode.TheVariants.{Wo}
use Rattle.volume_model.specs.Modes.{mode_of, HasNoSource}
use Rattle.range_turns.specs.declared.ticket.Ticket.{Ticket}
use Rattle.replica_node.specs.Node.{Node}
use Rattle.open_calls.specs.declared.open_call.OpenCall.{OpenCall}
use Rattle.step_answers.specs.declared.whole_op.WholeOp.{WholeOp}
use Rattle.step_answers.specs.declared.whole_op.WholeOp.TheVariants as whole
use Rattle.step_answers.specs.Asked.{command_of}
use Rattle.open_calls.specs.declared.maint.MaintCall.{MaintCall}
use Rattle.open_calls.specs.declared.whole.Whole.{Whole}
use Rattle.open_calls.specs.Maint.{command_at, HasTurn}
use Rattle.open_calls.proofs.Ops.{IsPlain}
use Rattle.open_calls.proofs.Turns.{FirstStays, turn_still}
use Rattle.open_rebuild.specs.declared.rebuilding.Rebuilding.{Rebuilding}
use Rattle.open_rebuild.specs.Claim.{AreRoles, IsClaim, IsRebuilding}
use Rattle.volume_core.specs.declared.world.EndedRebuild.{EndedRebuild}
use Rattle.volume_core.specs.Sound.{HasAdd, AreAdds}

-- ---- who has the turn has it still

module _ (maint maint2 : List Ticket) (commands commands2 : List MaintCall) (stays : FirstStays maint commands maint2 commands2) where
  still : (r : ℕ) → HasAdd maint commands r → HasAdd maint2 commands2 r
  still r add = record {
    stream = add.stream;
    turn = turn_still maint maint2 commands commands2 add.stream (command.Add r) add.turn (stays add.turn.some add.turn.started);
  }

  pub adds_still : (b : Option Rebuilding) (g : Option EndedRebuild) → AreAdds maint commands b g → AreAdds maint2 commands2 b g
  adds_still None None adds = record { of_begun = tt; of_ended = tt; one = tt }
  adds_still (Some b) None adds = record { of_begun = still b.target adds.of_begun; of_ended = tt; one = adds.one }
  adds_still None (Some g) adds = record { of_begun = tt; of_ended = still g.target adds.of_ended; one = tt }
  adds_still (Some b) (Some g) adds =
      record { of_begun = still b.target adds.of_begun; of_ended = still g.target adds.of_ended; one = adds.one }

-- ---- no rebuild is open

-- nor was one aborted, where the command that has the turn is no add
pub no_rebuild : (maint : List Ticket) (commands : List MaintCall) (b : Option Rebuilding) (g : Option EndedRebuild)
    → AreAdds maint commands b g → ((r : ℕ) → (command_at commands 0).command ≢ command.Add r)
    → (b ≡ None) × (g ≡ None)
no_rebuild maint commands None None adds other = (refl, refl)
no_rebuild maint commands (Some b) g adds other = absurd (other b.target adds.of_begun.turn.command)
no_rebuild maint commands None (Some g) adds other = absurd (other g.target adds.of_ended.turn.command)

-- the command of an operation that is no barrier is no add
other_command : (op : WholeOp) (c : Command) (r : ℕ) → IsPlain op → c ≡ command_of op → c ≢ command.Add r
other_command (whole.Snapshot name) c r other e f = cc
other_command (whole.Remove name) c r other e f = cc
other_command (whole.Revert name) c r other e f = cc
other_command (whole.Purge p) c r other e f = cc
other_command (whole.Barrier q) c r other e f = absurd other

pub turn_no_add : (maint : List Ticket) (commands : List MaintCall) (stream : ℕ) (op : WholeOp) → IsPlain op
    → HasTurn maint commands stream (command_of op) → (r : ℕ) → (command_at commands 0).command ≢ command.Add r
turn_no_add maint commands stream op other has r = other_command op (command_at commands 0).command r other has.command

pub purge_no_add : (c : Command) → c ≡ command.Purge → (r : ℕ) → c ≢ command.Add r
purge_no_add c e r f = cc

-- nor is one open where no replica is read
pub none_read : (modes : List Mode) (b : Option Rebuilding) → AreRoles modes b → HasNoSource modes → b ≡ None
none_read modes None roles none = refl
none_read modes (Some b) roles none = absurd (none b.source roles.source)

-- then no replica is written and not read
pub settled : (modes : List Mode) (b : Option Rebuilding) → b ≡ None → AreRoles modes b → (r : ℕ) → mode_of modes r ≢ Wo
settled modes b none roles = subst (AreRoles modes) none roles

-- and calls and replicas are free
pub free_claim : (size : ℕ) (modes : List Mode) (ts us : List Ticket) (cs ds : List OpenCall) (w x : Option Whole)
    (ns ms : List Node) (b : Option Rebuilding) → b ≡ None
    → IsRebuilding size modes ts cs w ns b → IsRebuilding size modes us ds x ms b
free_claim size modes ts us cs ds w x ns ms b none k = record { roles = k.roles; claim = subst (IsClaim size us ds x ms) (sym none) tt }
