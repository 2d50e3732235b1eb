use Rattle.std.proofs.Common.{refl}
use Rattle.std.proofs.Math.Seq.{map-set_same}
use Rattle.client_worker.proofs.channel.next_exchange.Goals as goal

pub returns-clause-faults : goal.returns-clause-faults
returns-clause-faults g c = map-set_same (λ x. g.L.Line.count x.line) c.args.channels.now c.args.replica _
    c.index-channels-replica.result refl

pub returns-clause-carried : goal.returns-clause-carried
returns-clause-carried g c = map-set_same (λ x. g.L.Line.carried x.line) c.args.channels.now c.args.replica _
    c.index-channels-replica.result refl

pub returns-clause-ends : goal.returns-clause-ends
returns-clause-ends g c = map-set_same (λ x. g.L.Line.ends x.line) c.args.channels.now c.args.replica _ c.index-channels-replica.result refl
