use Rattle.std.proofs.Common.{refl}
use Rattle.std.proofs.lemmas.Result.{err_from_is_err_and}
use Rattle.script_head.specs.declared.member.Member.TheVariants.{Lines}
use Rattle.script_head.specs.LinePlans.{NoPairTwice}
use Rattle.script_head.specs.Members.{IsLinePlan}
use Rattle.script_head.proofs.LinePlansLemmas.{NoPairTwice-push, NoPairTwice-front, last_apart}
use Rattle.script_head.proofs.Lists.{one_more, one_refused_of, none_behind}
use Rattle.script_head.proofs.OneValue.{one_plan}
use Rattle.script_head.proofs.lines.plans_from.Goals as goal

pub returns-in_err-plan : goal.returns-in_err-plan
returns-in_err-plan c =
    let p = err_from_is_err_and c.from_residual.result c.from_residual.ensures.1 in
    rw (p.1, p.2)
    (one_refused_of Lines (IsLinePlan c.args.streams c.args.replicas) NoPairTwice c.args.items.now c.loop-item.item-index
    c.item-item.result _ c.loop-item-test.true c.item-item.is c.in_err-plan.ensures)

pub returns-then-has_plan : goal.returns-then-has_plan
returns-then-has_plan c =
    let so_far = c.loop-item.invariant in
    let plans = c.loop-item.plans.items in
    let plan = c.in_ok-plan.plan in
    let twice = rw c.deref.ensures.value at c.if-has_plan.ensures.twice in (
      refl,
      none_behind (IsLinePlan c.args.streams c.args.replicas) (one_plan c.args.streams c.args.replicas) NoPairTwice NoPairTwice-front
          c.args.items.now c.loop-item.item-index c.item-item.result plans plan
          c.loop-item-test.true c.item-item.is so_far.read c.in_ok-plan.ensures (λ none. twice (last_apart plans plan none)),
    )

pub loop-item-preserved : goal.loop-item-preserved
loop-item-preserved c =
    let so_far = c.loop-item.invariant in
    let plans = c.loop-item.plans.items in
    let plan = c.in_ok-plan.plan in
    let apart = rw c.deref.ensures.value at c.if-has_plan.ensures.apart in
    rw c.in_ok-push.ensures.items (record {
      read = one_more (IsLinePlan c.args.streams c.args.replicas) c.args.items.now c.loop-item.item-index c.item-item.result
          plans plan c.loop-item-test.true c.item-item.is so_far.read c.in_ok-plan.ensures;
      apart = NoPairTwice-push plans plan so_far.apart apart;
    })
