use Rattle.std.proofs.lemmas.Result.{err_from_is_err_and}
use Rattle.script_head.specs.declared.member.Member.TheVariants.{Streams}
use Rattle.script_head.specs.Members.{IsStreamItem}
use Rattle.script_head.proofs.Lists.{one_more, one_refused}
use Rattle.script_head.proofs.streams.streams_from.Goals as goal

pub returns-in_err-stream_of : goal.returns-in_err-stream_of
returns-in_err-stream_of c =
    let p = err_from_is_err_and c.from_residual.result c.from_residual.ensures.1 in
    rw (p.1, p.2)
    (one_refused Streams (IsStreamItem c.args.replicas) c.args.items.now c.loop-item.item-index c.item-item.result _
    c.loop-item-test.true c.item-item.is c.in_err-stream_of.ensures)

pub loop-item-preserved : goal.loop-item-preserved
loop-item-preserved c =
    rw c.in_ok-push.ensures.items
    (one_more (IsStreamItem c.args.replicas) c.args.items.now c.loop-item.item-index c.item-item.result
    c.loop-item.streams.items c.in_ok-stream_of.field-0 c.loop-item-test.true c.item-item.is c.loop-item.invariant
    c.in_ok-stream_of.ensures)
