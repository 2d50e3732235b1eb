use Rattle.world_holder.proofs.Taken.{found_as, owes_as}
use Rattle.world_steps.proofs.MaintTurns.{found_free_turn, gone_owes, gone_to}
use Rattle.world_steps.proofs.commands.StepsCommandSteps.abandon.Goals as goal

pub abandon-requires-clause-turn : goal.abandon-requires-clause-turn
abandon-requires-clause-turn g c =
    found_free_turn g.H.Holder.alone c.args.self.now.stream c.args.t _ _
    (found_as c.deref_mut.ensures.value c.take-world.ensures.found) c.requires.turn

pub put-requires-clause-owes : goal.put-requires-clause-owes
put-requires-clause-owes g c =
    owes_as c.deref_mut.ensures.value c.take-world.ensures.seen
    (gone_owes g.H.Holder.alone c.args.self.now.stream c.args.t _ _ _
    (found_as c.deref_mut.ensures.value c.take-world.ensures.found) c.requires.turn c.abandon.ensures.may
    c.abandon.ensures.gone)

pub returns-clause-gone : goal.returns-clause-gone
returns-clause-gone g c =
    gone_to g.H.Holder.alone c.args.self.now.stream c.args.t _ _ _
    (found_as c.deref_mut.ensures.value c.take-world.ensures.found) c.requires.turn c.abandon.ensures.may
    c.abandon.ensures.gone _ c.put.ensures.seen
