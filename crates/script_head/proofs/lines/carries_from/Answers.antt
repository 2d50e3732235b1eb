use Rattle.std.proofs.Common.{refl, subst}
use Rattle.std.proofs.lemmas.List.{take_all}
use Rattle.std.proofs.lemmas.Result.{err_from_is_err_and}
use Rattle.serde_json.specs.View.{items_view}
use Rattle.script_head.specs.declared.member.Member.TheVariants.{Lines}
use Rattle.script_head.specs.LinePlans.{RisesAbove}
use Rattle.script_head.specs.Members.{IsCarryItem}
use Rattle.script_head.specs.Values.{AreItems}
use Rattle.script_head.proofs.LinePlansLemmas.{RisesAbove-of_to, RisesTo-push, RisesAbove-front, not_above}
use Rattle.script_head.proofs.Lists.{one_more, one_refused_of, none_behind}
use Rattle.script_head.proofs.OneValue.{one_carry}
use Rattle.script_head.proofs.lines.carries_from.Goals as goal

pub returns-in_err-carry : goal.returns-in_err-carry
returns-in_err-carry c =
    let p = err_from_is_err_and c.from_residual.result c.from_residual.ensures.1 in
    rw (p.1, p.2)
    (one_refused_of Lines IsCarryItem (RisesAbove 0) c.args.items.now c.loop-item.item-index c.item-item.result _
    c.loop-item-test.true c.item-item.is c.in_err-carry.ensures)

pub returns-then-carry-last : goal.returns-then-carry-last
returns-then-carry-last c =
    let so_far = c.loop-item.invariant in (
      refl,
      none_behind IsCarryItem one_carry (RisesAbove 0) (RisesAbove-front 0) c.args.items.now c.loop-item.item-index
          c.item-item.result c.loop-item.carries.items c.in_ok-carry.carry
          c.loop-item-test.true c.item-item.is so_far.read c.in_ok-carry.ensures
          (not_above 0 c.loop-item.carries.items c.loop-item.last c.in_ok-carry.carry so_far.rises c.if-carry-last.true),
    )

pub loop-item-preserved : goal.loop-item-preserved
loop-item-preserved c =
    let so_far = c.loop-item.invariant in
    rw c.in_ok-push.ensures.items (record {
      read = one_more IsCarryItem c.args.items.now c.loop-item.item-index c.item-item.result c.loop-item.carries.items
          c.in_ok-carry.carry c.loop-item-test.true c.item-item.is so_far.read c.in_ok-carry.ensures;
      rises = RisesTo-push 0 c.loop-item.carries.items c.loop-item.last c.in_ok-carry.carry so_far.rises c.if-carry-last.false;
    })

pub returns : goal.returns
returns c =
    let so_far = c.loop-item.invariant in
    let carries = c.loop-item.carries.items in
    rw c.of.ensures (
      subst (λ vs. AreItems IsCarryItem (items_view vs) carries)
          (take_all c.loop-item.item-index c.args.items.now c.loop-item-test.false) so_far.read,
      RisesAbove-of_to 0 carries c.loop-item.last so_far.rises,
    )
