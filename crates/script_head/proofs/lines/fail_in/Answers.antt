use Rattle.std.proofs.Common.{◌≡◌, Some, arith, refl, rules}
use Rattle.serde_json.specs.Find.{as_array}
use Rattle.serde_json.specs.View.{view, items_view}
use Rattle.script_head.specs.declared.member.Member.TheVariants.{Lines}
use Rattle.script_head.specs.LinePlans.{RisesAbove}
use Rattle.script_head.specs.Members.{IsCarryItem, HasFail}
use Rattle.script_head.specs.Values.{AreItems}
use Rattle.script_head.proofs.Lists.{items_there, length-AreItems}
use Rattle.script_head.proofs.Readers.{Reads-along}
use Rattle.script_head.proofs.lines.fail_in.Goals as goal

pub returns-then-len-gt-MOST_FAILURES : goal.returns-then-len-gt-MOST_FAILURES
returns-then-len-gt-MOST_FAILURES c =
    let vs = c.in_ok-items.items.now.items in
    let there : as_array (view c.args.fail.now) ≡ Some (items_view vs) = search rules in (
      refl,
      λ fail has. omega (
        arith,
        length-AreItems IsCarryItem vs fail
            (items_there IsCarryItem (Some (view c.args.fail.now)) vs fail there has.0),
      ),
    )

pub returns : goal.returns
returns c =
    let vs = c.in_ok-items.items.now.items in
    let there : as_array (view c.args.fail.now) ≡ Some (items_view vs) = search rules in
    Reads-along Lines (λ fail. AreItems IsCarryItem (items_view vs) fail × RisesAbove 0 fail) (HasFail (Some (view c.args.fail.now)))
    c.carries_from.result
    (λ fail are. ((items_view vs, there, are.0), omega (arith, length-AreItems IsCarryItem vs fail are.0), are.1))
    (λ fail has. (items_there IsCarryItem (Some (view c.args.fail.now)) vs fail there has.0, has.2))
    (rw (← c.deref.ensures.value) c.carries_from.ensures)
