use Rattle.world_holder.proofs.Taken.{found_as, owes_as}
use Rattle.world_steps.proofs.AddTurns.{add_free}
use Rattle.world_steps.proofs.EndTurns.{abandon_owes, abandon_left}
use Rattle.world_steps.proofs.adds.StepsAddSteps.abandon_add.Goals as goal

pub abandon-requires-clause-turn : goal.abandon-requires-clause-turn
abandon-requires-clause-turn g c =
    add_free g.H.Holder.alone c.args.self.now.stream c.args.t _ _
    (found_as c.deref_mut.ensures.value c.take-world.ensures.found) c.requires.turn

pub put-requires-clause-owes : goal.put-requires-clause-owes
put-requires-clause-owes g c =
    owes_as c.deref_mut.ensures.value c.take-world.ensures.seen
    (abandon_owes g.H.Holder.alone c.args.self.now.stream c.args.t _ _ _
    (found_as c.deref_mut.ensures.value c.take-world.ensures.found) c.requires.turn c.abandon.ensures.may
    c.abandon.ensures.gone)

pub returns-clause-left : goal.returns-clause-left
returns-clause-left g c =
    abandon_left g.H.Holder.alone c.args.self.now.stream c.args.t _ _ _
    (found_as c.deref_mut.ensures.value c.take-world.ensures.found) c.requires.turn c.abandon.ensures.may
    c.abandon.ensures.gone _
    c.put.ensures.seen
