use Rattle.std.proofs.Common.{◌≡◌, ◌≤◌, Some, length, arith, refl, rules}
use Rattle.serde_json.specs.Find.{as_array}
use Rattle.serde_json.specs.View.{view, items_view}
use Rattle.script_head.specs.Limits.{most_calls}
use Rattle.script_head.specs.declared.member.Member.TheVariants.{Streams}
use Rattle.script_head.specs.Members.{IsCommandItem}
use Rattle.script_head.specs.Values.{AreItems, HasItems}
use Rattle.script_head.proofs.Lists.{items_there, length-AreItems}
use Rattle.script_head.proofs.Readers.{Reads-along}
use Rattle.script_head.proofs.streams.commands_in.Goals as goal

pub returns-then-len-gt-MOST_CALLS : goal.returns-then-len-gt-MOST_CALLS
returns-then-len-gt-MOST_CALLS c =
    let vs = c.in_ok-items.items.now.items in
    let there : as_array (view c.args.control.now) ≡ Some (items_view vs) = search rules in (
      refl,
      λ commands has. omega (
        arith,
        length-AreItems (IsCommandItem c.args.replicas) vs commands
            (items_there (IsCommandItem c.args.replicas) (Some (view c.args.control.now)) vs commands there has.0),
      ),
    )

pub returns : goal.returns
returns c =
    let vs = c.in_ok-items.items.now.items in
    let there : as_array (view c.args.control.now) ≡ Some (items_view vs) = search rules in
    Reads-along Streams (AreItems (IsCommandItem c.args.replicas) (items_view vs))
    (λ commands. HasItems (IsCommandItem c.args.replicas) (Some (view c.args.control.now)) commands
    × (length commands ≤ most_calls))
    c.commands_from.result
    (λ commands are. ((items_view vs, there, are), omega (arith, length-AreItems (IsCommandItem c.args.replicas) vs commands are)))
    (λ commands has. items_there (IsCommandItem c.args.replicas) (Some (view c.args.control.now)) vs commands there has.0)
    (rw (← c.deref.ensures.value) c.commands_from.ensures)
