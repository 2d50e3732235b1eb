use Rattle.std.proofs.Common.{take}
use Rattle.serde_json.specs.View.{items_view}
use Rattle.script_head.specs.LinePlans.{NoPairTwice}
use Rattle.script_head.specs.Members.{IsLinePlan}
use Rattle.script_head.specs.Values.{AreItems}
use Rattle.script_head.proofs.lines.plans_from.Given as goal

abbrev pub invariant-loop-item : goal.invariant-loop-item
invariant-loop-item l = record {
  read : AreItems (IsLinePlan l.streams l.replicas) (items_view (take l.item-index l.items)) l.plans.items;
  apart : NoPairTwice l.plans.items;
}
