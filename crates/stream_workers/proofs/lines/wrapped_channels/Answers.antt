use Rattle.stream_turns.proofs.Asks.{one_line_more}
use Rattle.stream_turns.proofs.Channels.{more_channels}
use Rattle.stream_workers.proofs.Wrapped.{same_new}
use Rattle.stream_workers.proofs.lines.wrapped_channels.Goals as goal

pub loop-replica-preserved : goal.loop-replica-preserved
loop-replica-preserved g c = record {
  new = more_channels _ _ (λ c. c.line) g.V.Wrapped.Line.ends g.V.Wrapped.Line.count g.V.Wrapped.Line.carried c.args.worker
      c.loop-replica.replica c.loop-replica.channels.items c.push.new.self.items c.new.result c.wrap.result
      c.in_ok-push.ensures.items c.new.ensures c.loop-replica.invariant.new
      (same_new _ _ _ _ _ _ _ _ c.wrap.ensures.ends c.wrap.ensures.count c.wrap.ensures.carried c.in_ok-line.ensures.fresh);
  asked = one_line_more c.args.plans.now c.args.worker c.loop-replica.replica c.plan_of.result.now _ _ _
      c.loop-replica.invariant.asked c.in_ok-line.ensures.asked c.plan_of.ensures;
}
