use Rattle.std.proofs.Common.{take}
use Rattle.serde_json.specs.View.{items_view}
use Rattle.script_head.specs.Members.{IsCarryItem}
use Rattle.script_head.specs.Values.{AreItems}
use Rattle.script_head.proofs.LinePlansLemmas.{RisesTo}
use Rattle.script_head.proofs.lines.carries_from.Given as goal

abbrev pub invariant-loop-item : goal.invariant-loop-item
invariant-loop-item l = record {
  read : AreItems IsCarryItem (items_view (take l.item-index l.items)) l.carries.items;
  rises : RisesTo 0 l.carries.items l.last;
}
