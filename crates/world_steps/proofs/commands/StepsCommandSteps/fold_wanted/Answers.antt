use Rattle.std.proofs.Common.{refl, subst, sym}
use Rattle.volume_core.specs.State.{State}
use Rattle.volume_maint.specs.Answers.{WantsFold}
use Rattle.world_holder.proofs.Taken.{seen_as}
use Rattle.world_steps.proofs.FrameTurns.{look_owes, look_same}
use Rattle.world_steps.proofs.GaveUp.{flag_kept, home_kept}
use Rattle.world_steps.proofs.commands.StepsCommandSteps.fold_wanted.Goals as goal

pub put-requires-clause-owes : goal.put-requires-clause-owes
put-requires-clause-owes g c =
    look_owes g.H.Holder.alone c.args.self.now.stream _ _ _ c.take-world.ensures.seen c.take-world.ensures.found

pub returns-clause-stands : goal.returns-clause-stands
returns-clause-stands g c =
    let found = c.take-world.ensures.found in
    record {
      ready = c.put.ensures.rests;
      home = home_kept c.take-world.ensures.home c.put.ensures.home
          (flag_kept g.H.Holder.alone c.args.self.now.stream _ _ _ _ found c.put.ensures.seen refl);
      same = look_same _ _ _ _ _ found c.put.ensures.seen;
    }

pub returns-clause-wanted : goal.returns-clause-wanted
returns-clause-wanted g c = λ yes.
    subst (λ (z : State). WantsFold z c.args.replica c.args.parent.now c.args.page)
    (sym (seen_as c.deref.ensures c.put.ensures.seen))
    (c.fold_wanted-wanted.ensures.wanted yes)

pub returns-clause-not : goal.returns-clause-not
returns-clause-not g c = λ no.
    subst (λ (z : State). ¬ WantsFold z c.args.replica c.args.parent.now c.args.page)
    (sym (seen_as c.deref.ensures c.put.ensures.seen))
    (c.fold_wanted-wanted.ensures.not no)
