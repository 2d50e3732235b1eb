-- What the steps of a rebuild past its barrier make of a World.
use Rattle.std.specs.Prelude.{ℕ, slice_set, None, Some}
use Rattle.vol_units.specs.declared.page_ref.PageRef.{PageRef}
use Rattle.volume_model.specs.declared.call.Reply.TheVariants as reply
use Rattle.volume_model.specs.declared.mark.Mark.TheVariants as mark
use Rattle.replica_node.specs.Node.{Node}
use Rattle.open_rebuild.specs.declared.rebuilding.Rebuilding.{Rebuilding}
use Rattle.open_rebuild.specs.Claim.{with_page}
use Rattle.volume_core.specs.State.{State}
use Rattle.volume_core.specs.Steps.{marked}
use Rattle.volume_core.specs.Turn.{turn_ended}

-- the target is that now, and the page is listed
abbrev pub copied_to : State → Rebuilding → PageRef → Node → State
copied_to s b page after = record s {
  nodes = slice_set s.nodes b.target after;
  rebuild = Some (with_page b page.layer page.page);
}

-- the mark that promotes the replica stands in the journal, and no rebuild is open
abbrev pub closed : State → ℕ → State
closed s target = record (marked s (mark.Promoted target)) { rebuild = None }

-- and behind it the answer of the command that has the turn, which ends
abbrev pub promoted : State → ℕ → State
promoted s target = turn_ended (closed s target) reply.Done
