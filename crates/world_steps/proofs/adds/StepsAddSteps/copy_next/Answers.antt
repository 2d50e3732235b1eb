use Rattle.world_holder.proofs.Taken.{found_as, seen_as}
use Rattle.world_steps.proofs.GaveUp.{home_kept}
use Rattle.world_steps.proofs.FrameTurns.{look_owes}
use Rattle.world_steps.proofs.AddTurns.{look_still, look_next}
use Rattle.world_steps.proofs.adds.StepsAddSteps.copy_next.Goals as goal

pub put-requires-clause-owes : goal.put-requires-clause-owes
put-requires-clause-owes g c =
    look_owes g.H.Holder.alone c.args.self.now.stream _ _ _ c.take-world.ensures.seen c.take-world.ensures.found

pub returns-clause-stands : goal.returns-clause-stands
returns-clause-stands g c =
    let found = found_as c.deref.ensures c.take-world.ensures.found in
    let still = look_still _ _ c.args.t _ _ found c.requires.turn _ (seen_as c.deref.ensures c.put.ensures.seen) in
    record {
      ready = c.put.ensures.rests;
      home = home_kept c.take-world.ensures.home c.put.ensures.home still.gave_up;
      same = still.same;
    }

pub returns-clause-kept : goal.returns-clause-kept
returns-clause-kept g c =
    let found = found_as c.deref.ensures c.take-world.ensures.found in
    let seen = seen_as c.deref.ensures c.put.ensures.seen in
    let known = (look_still _ _ c.args.t _ _ found c.requires.turn _ seen).known.rebuild in
    record { ended = known.ended; pages = known.pages; begun = known.begun; fewer = known.fewer }

pub returns-clause-takes : goal.returns-clause-takes
returns-clause-takes g c =
    let found = found_as c.deref.ensures c.take-world.ensures.found in
    let seen = seen_as c.deref.ensures c.put.ensures.seen in
    look_next _ _ c.args.t _ _ found c.requires.turn _ seen c.next_in-next.result c.next_in-next.ensures
