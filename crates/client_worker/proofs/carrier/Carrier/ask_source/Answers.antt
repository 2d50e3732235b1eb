use Rattle.std.proofs.Common.{refl}
use Rattle.client_worker.proofs.Going.{goes_same}
use Rattle.client_worker.proofs.carrier.Carrier.ask_source.Goals as goal

pub returns-in-None-clause-goes : goal.returns-in-None-clause-goes
returns-in-None-clause-goes g c = λ e.
    goes_same (g.C.ClientSteps.mine c.args.self.now.steps) (g.C.ClientSteps.mine c.args.self.now.steps) refl
