use Rattle.stream_steps.specs.Mine.{OwnCall, IsOwn}
use Rattle.client_worker.proofs.Going.{goes_same, goes_then, own_of}
use Rattle.client_worker.proofs.Served.{ends_by}
use Rattle.client_worker.proofs.Writing.{read_started, still_read}
use Rattle.client_worker.proofs.carrier.Carrier.read_round.Goals as goal

pub finish-requires : goal.finish-requires
finish-requires g c = record {
  own = read_started c.args.read.now (g.C.ClientSteps.mine c.args.self.now.steps) (g.C.ClientSteps.mine c.ask_source.new.self.steps)
      c.args.reply.now (c.ask_source.ensures.goes c.if-ask_source.false) c.requires.own;
}

pub returns-else-ask_source-clause-done : goal.returns-else-ask_source-clause-done
returns-else-ask_source-clause-done g c = λ yes o run.
    let first = g.C.ClientSteps.mine c.args.self.now.steps in
    let after = g.C.ClientSteps.mine c.ask_source.new.self.steps in
    let op : (x : OwnCall) × IsOwn c.args.read.now.ticket x first = (c.requires.own.own, c.requires.own.is) in
    ends_by c.args.read.now.ticket first after (g.C.ClientSteps.mine c.finish.new.self.steps)
    (c.ask_source.ensures.goes c.if-ask_source.false) op (c.finish.ensures.done yes) o (own_of c.args.read.now.ticket first o op run)

pub returns-else-ask_source-clause-goes : goal.returns-else-ask_source-clause-goes
returns-else-ask_source-clause-goes g c = λ no.
    let first = g.C.ClientSteps.mine c.args.self.now.steps in
    let after = g.C.ClientSteps.mine c.ask_source.new.self.steps in
    let last = g.C.ClientSteps.mine c.finish.new.self.steps in
    let goes = c.ask_source.ensures.goes c.if-ask_source.false in (
      goes_then first after last goes (goes_same after last (c.finish.ensures.open no)),
      c.finish.ensures.none no (still_read c.args.read.now first after c.args.reply.now goes c.requires.own),
    )
