-- What is done to the whole volume, a part on each replica. A replica in due form is what it is once it has taken its
-- part. So long as a call on the whole volume is started, replicas in due form are compared with the due volume, which is
-- the volume once that call is done.
use Rattle.std.specs.Prelude.{List, [], ◌∷◌, Option, None, Some}
use Rattle.vol_units.specs.Name.{sys_name}
use Rattle.volume_model.specs.PlainState.{Volume, snapped, removed, reverted, purged}
use Rattle.volume_model.specs.declared.mark.FoldOrDrop.{FoldOrDrop}
use Rattle.volume_model.specs.declared.mark.FoldOrDrop.TheVariants as part
use Rattle.replica_node.specs.Node.{Node, snapped_node, reverted_node, marked}
use Rattle.replica_node.specs.Fold.{replaced_node, dropped_node}
use Rattle.step_answers.specs.declared.parts.Part.{Part}
use Rattle.step_answers.specs.declared.parts.Part.TheVariants.{Apart, Owed, Taken, Acked}
use Rattle.step_answers.specs.declared.whole_op.WholeOp.{WholeOp}
use Rattle.step_answers.specs.declared.whole_op.WholeOp.TheVariants as whole
use Rattle.open_calls.specs.declared.whole.Whole.{Whole}

-- ---- one replica, and the volume

-- the replica once the last step of a fold is done on it, or a layer dropped
abbrev pub purged_node : FoldOrDrop → Node → Node
purged_node (part.Fold p c) node = replaced_node node p c
purged_node (part.Drop p) node = dropped_node node p

-- the replica once its part is done: a rebuild's barrier closes the head under the engine's own name
abbrev pub part_on : WholeOp → Node → Node
part_on (whole.Snapshot name) node = snapped_node node name
part_on (whole.Remove name) node = marked node name
part_on (whole.Revert name) node = reverted_node node name
part_on (whole.Purge f) node = purged_node f node
part_on (whole.Barrier r) node = snapped_node node (sys_name node.number)

-- the volume once it is done: a barrier's snapshot is the volume's from its start on, by the mark that it begins with
abbrev pub due_of : WholeOp → Volume → Volume
due_of (whole.Snapshot name) volume = snapped volume name
due_of (whole.Remove name) volume = removed volume name
due_of (whole.Revert name) volume = reverted volume name
due_of (whole.Purge f) volume = purged volume f
due_of (whole.Barrier r) volume = volume

-- the due volume, where that call has started, or none
abbrev pub due : Option Whole → Volume → Volume
due None volume = volume
due (Some w) volume = due_of w.op volume

-- ---- replicas in due form

-- the replica once it has taken what it owes
abbrev pub form_part : WholeOp → Part → Node → Node
form_part op Owed node = part_on op node
form_part op Taken node = node
form_part op Acked node = node
form_part op Apart node = node

abbrev pub formed : WholeOp → List Part → List Node → List Node
formed op parts [] = []
formed op [] (n ∷ ns) = n ∷ ns
formed op (p ∷ ps) (n ∷ ns) = form_part op p n ∷ formed op ps ns

abbrev pub forms : Option Whole → List Node → List Node
forms None nodes = nodes
forms (Some w) nodes = formed w.op w.parts nodes
