use Rattle.std.proofs.Common.{take}
use Rattle.serde_json.specs.View.{items_view}
use Rattle.script_head.specs.Members.{IsStreamItem}
use Rattle.script_head.specs.Values.{AreItems}
use Rattle.script_head.proofs.streams.streams_from.Given as goal

abbrev pub invariant-loop-item : goal.invariant-loop-item
invariant-loop-item l = AreItems (IsStreamItem l.replicas) (items_view (take l.item-index l.items)) l.streams.items
