use Rattle.client_worker.proofs.Writing.{reads_or}
use Rattle.client_worker.proofs.carrier.Carrier.begin_read.Goals as goal

pub returns-clause-ok : goal.returns-clause-ok
returns-clause-ok g c = reads_or c.start.result c.args.read.now.ticket c.args.read.now.offset c.args.read.now.count
    (g.C.ClientSteps.mine c.args.self.now.steps) (g.C.ClientSteps.mine c.start.new.self.steps) c.start.ensures.ok
