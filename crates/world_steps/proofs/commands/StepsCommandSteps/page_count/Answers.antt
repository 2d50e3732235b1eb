use Rattle.std.proofs.Common.{length, refl, sym, ap, ◌∙◌}
use Rattle.volume_core.specs.State.{State, told_of}
use Rattle.world_holder.proofs.Taken.{found_as, seen_as}
use Rattle.world_steps.proofs.FrameTurns.{look_owes, look_same}
use Rattle.world_steps.proofs.GaveUp.{flag_kept, home_kept}
use Rattle.world_steps.proofs.commands.StepsCommandSteps.page_count.Goals as goal

pub put-requires-clause-owes : goal.put-requires-clause-owes
put-requires-clause-owes g c =
    look_owes g.H.Holder.alone c.args.self.now.stream _ _ _ c.take-world.ensures.seen c.take-world.ensures.found

pub returns-clause-stands : goal.returns-clause-stands
returns-clause-stands g c =
    let found = c.take-world.ensures.found in
    record {
      ready = c.put.ensures.rests;
      home = home_kept c.take-world.ensures.home c.put.ensures.home
          (flag_kept g.H.Holder.alone c.args.self.now.stream _ _ _ _ found c.put.ensures.seen refl);
      same = look_same _ _ _ _ _ found c.put.ensures.seen;
    }

pub returns-clause-is : goal.returns-clause-is
returns-clause-is g c =
    c.page_count-count.ensures ∙ sym (found_as c.deref.ensures c.take-world.ensures.found).sound.disk
    ∙ ap (λ (z : State). length (told_of z).volume.disk) (sym (seen_as c.deref.ensures c.put.ensures.seen))
