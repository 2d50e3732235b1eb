use Rattle.std.proofs.Common.{rules, length, refl, subst, sym}
use Rattle.stream_steps.specs.Seen.{TellsSource}
use Rattle.client_worker.specs.Ends.{NoneAcked}
use Rattle.client_worker.proofs.Carrying.{stays_home, stays_then}
use Rattle.client_worker.proofs.Going.{goes_same, goes_then}
use Rattle.client_worker.proofs.Served.{ends_then, ends_own}
use Rattle.client_worker.proofs.Writing.{reads_on}
use Rattle.client_worker.proofs.carrier.Carrier.carry_read.Goals as goal

pub loop-init : goal.loop-init
loop-init g c = record {
  stays = record { home = refl; lines = record { count = refl; ends = refl } };
  room = search rules;
  goes = goes_same (g.C.ClientSteps.mine c.args.self.now.steps) (g.C.ClientSteps.mine c.args.self.now.steps) refl;
  none = c.requires.own.none;
  source = c.requires.source;
}

pub read_round-requires-clause-own : goal.read_round-requires-clause-own
read_round-requires-clause-own g c = reads_on c.args.read.now (g.C.ClientSteps.mine c.args.self.now.steps)
    (g.C.ClientSteps.mine c.loop.self.steps) c.args.reply.now c.loop.invariant.goes c.requires.own c.loop.reply
    c.loop.invariant.none (search rules)

pub returns-then-read_round-clause-done : goal.returns-then-read_round-clause-done
returns-then-read_round-clause-done g c = ends_own c.args.read.now.ticket (g.C.ClientSteps.mine c.args.self.now.steps)
    (g.C.ClientSteps.mine c.read_round.new.self.steps) (ends_then (g.C.ClientSteps.mine c.args.self.now.steps)
    (g.C.ClientSteps.mine c.loop.self.steps) (g.C.ClientSteps.mine c.read_round.new.self.steps) c.loop.invariant.goes
    (c.read_round.ensures.done c.if-read_round.true))

pub loop-preserved : goal.loop-preserved
loop-preserved g c =
    let first = g.C.ClientSteps.mine c.args.self.now.steps in
    let after = g.C.ClientSteps.mine c.read_round.new.self.steps in
    let last = g.C.ClientSteps.mine c.source-source.new.self.steps in
    let on = c.read_round.ensures.goes c.if-read_round.false in
    let goes = goes_then first (g.C.ClientSteps.mine c.loop.self.steps) after c.loop.invariant.goes on.0 in
    record {
      stays = stays_then c.args.self.now c.read_round.new.self c.source-source.new.self
          (stays_then c.args.self.now c.loop.self c.read_round.new.self c.loop.invariant.stays c.read_round.ensures.stays)
          (stays_home c.read_round.new.self c.source-source.new.self c.source-source.ensures.stays);
      room = search rules;
      goes = goes_then first after last goes (goes_same after last c.source-source.ensures.same);
      none = subst NoneAcked (sym c.source-source.ensures.same) on.1;
      source = subst (λ cs. TellsSource (g.C.ClientSteps.modes c.source-source.new.self.steps) (length cs) c.source-source.result)
          (sym c.source-source.ensures.stays.lines) c.source-source.ensures.is;
    }
