use Rattle.stream_turns.proofs.Asks.{one_line_more}
use Rattle.stream_turns.proofs.Channels.{more_channels, tells_on}
use Rattle.stream_turns.proofs.lines.channels_of.Goals as goal

pub loop-replica-preserved : goal.loop-replica-preserved
loop-replica-preserved g c = record {
  new = more_channels _ _ (λ c. c.line) g.W.L.Line.ends g.W.L.Line.count g.W.L.Line.carried c.args.worker
      c.loop-replica.replica c.loop-replica.channels.items c.push.new.self.items c.new.result c.in_ok-line.line
      c.in_ok-push.ensures.items c.new.ensures c.loop-replica.invariant.new c.in_ok-line.ensures.fresh;
  counts = tells_on _ _ _ c.loop-replica.invariant.counts c.line.ensures.counts;
  carried = tells_on _ _ _ c.loop-replica.invariant.carried c.line.ensures.carried;
  asked = one_line_more c.args.plans.now c.args.worker c.loop-replica.replica c.plan_of.result.now _ _ _
      c.loop-replica.invariant.asked c.in_ok-line.ensures.asked c.plan_of.ensures;
}

pub returns-in_err-line-clause-counts : goal.returns-in_err-line-clause-counts
returns-in_err-line-clause-counts g c = tells_on _ _ _ c.loop-replica.invariant.counts c.line.ensures.counts

pub returns-in_err-line-clause-carried : goal.returns-in_err-line-clause-carried
returns-in_err-line-clause-carried g c = tells_on _ _ _ c.loop-replica.invariant.carried c.line.ensures.carried
