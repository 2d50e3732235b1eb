use Rattle.std.proofs.Common.{◌≡◌, Some, rules}
use Rattle.serde_json.specs.Find.{as_array}
use Rattle.serde_json.specs.View.{view, items_view}
use Rattle.script_head.specs.declared.member.Member.TheVariants.{Lines}
use Rattle.script_head.specs.LinePlans.{NoPairTwice}
use Rattle.script_head.specs.Members.{IsLinePlan}
use Rattle.script_head.specs.Values.{AreItems, HasItems}
use Rattle.script_head.proofs.Lists.{items_there}
use Rattle.script_head.proofs.Readers.{Reads-along}
use Rattle.script_head.proofs.lines.plans_in.Goals as goal

pub returns : goal.returns
returns c =
    let vs = c.in_ok-items.items.now.items in
    let IsPlan = IsLinePlan c.args.streams c.args.replicas in
    let there : as_array (view c.args.value.now) ≡ Some (items_view vs) = search rules in
    Reads-along Lines (λ plans. AreItems IsPlan (items_view vs) plans × NoPairTwice plans)
    (λ plans. HasItems IsPlan (Some (view c.args.value.now)) plans × NoPairTwice plans)
    c.plans_from.result
    (λ plans are. ((items_view vs, there, are.0), are.1))
    (λ plans has. (items_there IsPlan (Some (view c.args.value.now)) vs plans there has.0, has.1))
    (rw (← c.deref.ensures.value) c.plans_from.ensures)
