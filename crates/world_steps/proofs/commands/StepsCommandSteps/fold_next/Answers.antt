use Rattle.std.proofs.Common.{refl, subst, sym}
use Rattle.volume_core.specs.State.{State, state_of}
use Rattle.stream_steps.specs.Seen.{FindsNext}
use Rattle.world_steps.proofs.FrameTurns.{look_owes, look_same}
use Rattle.world_steps.proofs.GaveUp.{flag_kept, home_kept}
use Rattle.world_steps.proofs.NextPart.{looks_next, finds_next}
use Rattle.world_holder.proofs.Taken.{found_as, seen_as}
use Rattle.world_steps.specs.Seen.{seen_of}
use Rattle.world_steps.proofs.commands.StepsCommandSteps.fold_next.Goals as goal

pub put-requires-clause-owes : goal.put-requires-clause-owes
put-requires-clause-owes g c =
    look_owes g.H.Holder.alone c.args.self.now.stream _ _ _ c.take-world.ensures.seen c.take-world.ensures.found

pub returns-clause-stands : goal.returns-clause-stands
returns-clause-stands g c =
    let found = c.take-world.ensures.found in
    record {
      ready = c.put.ensures.rests;
      home = home_kept c.take-world.ensures.home c.put.ensures.home
          (flag_kept g.H.Holder.alone c.args.self.now.stream _ _ _ _ found c.put.ensures.seen refl);
      same = look_same _ _ _ _ _ found c.put.ensures.seen;
    }

pub returns-clause-is : goal.returns-clause-is
returns-clause-is g c =
    looks_next g.H.Holder.alone c.args.self.now.stream _ _ (found_as c.deref.ensures c.take-world.ensures.found)
    c.args.t c.fold_next-next.result c.fold_next-next.ensures c.requires.turn

pub returns-clause-found : goal.returns-clause-found
returns-clause-found g c =
    subst (λ (z : State). FindsNext c.fold_next-next.result (seen_of z)) (sym (seen_as c.deref.ensures
    c.put.ensures.seen))
    (finds_next (state_of c.deref.result.now) c.fold_next-next.result c.fold_next-next.ensures)
