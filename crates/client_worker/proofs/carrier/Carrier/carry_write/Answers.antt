use Rattle.std.proofs.Common.{length}
use Rattle.client_worker.proofs.Served.{ends_by, ends_own}
use Rattle.client_worker.proofs.Writing.{write_started}
use Rattle.client_worker.proofs.carrier.Carrier.carry_write.Goals as goal

pub await_end-requires : goal.await_end-requires
await_end-requires g c =
    let op = c.requires.own in
    record {
      own = write_started op.0 c.args.t c.args.job.now.range.first (length c.args.self.now.channels)
          (g.C.ClientSteps.mine c.args.self.now.steps) (g.C.ClientSteps.mine c.ask_all.new.self.steps) c.args.rooms.now op.1 op.2
          (c.ask_all.ensures.goes c.if-not-ask_all.true);
    }

pub returns-then-not-ask_all-clause-done : goal.returns-then-not-ask_all-clause-done
returns-then-not-ask_all-clause-done g c = ends_by c.args.t (g.C.ClientSteps.mine c.args.self.now.steps)
    (g.C.ClientSteps.mine c.ask_all.new.self.steps) (g.C.ClientSteps.mine c.await_end.new.self.steps)
    (c.ask_all.ensures.goes c.if-not-ask_all.true) (c.requires.own.0, c.requires.own.1) c.await_end.ensures.done

pub returns-else-not-ask_all-clause-done : goal.returns-else-not-ask_all-clause-done
returns-else-not-ask_all-clause-done g c = ends_own c.args.t (g.C.ClientSteps.mine c.args.self.now.steps)
    (g.C.ClientSteps.mine c.ask_all.new.self.steps) (c.ask_all.ensures.done c.if-not-ask_all.false)
