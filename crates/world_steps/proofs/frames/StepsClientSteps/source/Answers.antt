use Rattle.std.proofs.Common.{refl}
use Rattle.world_holder.proofs.Leaves.{may_stay}
use Rattle.world_holder.proofs.Taken.{found_as, seen_as}
use Rattle.world_steps.proofs.Does.{home_free}
use Rattle.world_steps.proofs.FrameTurns.{look_owes, look_free, look_same, tells_source}
use Rattle.world_steps.proofs.frames.StepsClientSteps.source.Goals as goal

pub put-requires-clause-owes : goal.put-requires-clause-owes
put-requires-clause-owes g c =
    look_owes g.H.Holder.alone c.args.self.now.stream _ _ _ c.take-world.ensures.seen c.take-world.ensures.found

pub returns-clause-stands : goal.returns-clause-stands
returns-clause-stands g c =
    let found = c.take-world.ensures.found in
    record {
      ready = (c.put.ensures.rests, look_free _ _ _ _ _ found c.put.ensures.seen c.requires.ready.1);
      home = home_free c.take-world.ensures.home c.put.ensures.home;
      same = look_same _ _ _ _ _ found c.put.ensures.seen;
    }

pub returns-clause-is : goal.returns-clause-is
returns-clause-is g c =
    tells_source g.H.Holder.alone c.args.self.now.stream _ _ _ (found_as c.deref.ensures c.take-world.ensures.found)
    (may_stay _ _ (found_as c.deref.ensures c.take-world.ensures.found).sound) _ _ refl (seen_as c.deref.ensures c.put.ensures.seen)
    c.source-source.result c.source-source.ensures.found c.source-source.ensures.within
