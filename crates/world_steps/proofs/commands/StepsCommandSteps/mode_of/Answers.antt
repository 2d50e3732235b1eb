use Rattle.std.proofs.Common.{refl}
use Rattle.world_steps.proofs.Begun.{begun_over}
use Rattle.world_steps.proofs.FrameTurns.{look_owes, look_same}
use Rattle.world_steps.proofs.GaveUp.{flag_kept, home_kept}
use Rattle.world_steps.proofs.commands.StepsCommandSteps.mode_of.Goals as goal

pub put-requires-clause-owes : goal.put-requires-clause-owes
put-requires-clause-owes g c =
    look_owes g.H.Holder.alone c.args.self.now.stream _ _ _ c.take-world.ensures.seen c.take-world.ensures.found

pub returns-clause-stands : goal.returns-clause-stands
returns-clause-stands g c =
    let found = c.take-world.ensures.found in
    record {
      ready = c.put.ensures.rests;
      home = home_kept c.take-world.ensures.home c.put.ensures.home
          (flag_kept g.H.Holder.alone c.args.self.now.stream _ _ _ _ found c.put.ensures.seen refl);
      same = look_same _ _ _ _ _ found c.put.ensures.seen;
    }

pub returns-clause-begun : goal.returns-clause-begun
returns-clause-begun g c = λ past source r.
    begun_over g.H.Holder.alone c.args.self.now.stream _ _ _ _ c.take-world.ensures.found c.put.ensures.seen past
    source r (λ begun. begun)
