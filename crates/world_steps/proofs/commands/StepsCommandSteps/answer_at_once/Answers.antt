use Rattle.world_holder.proofs.Taken.{found_as, owes_as}
use Rattle.world_steps.proofs.FrameTurns.{found_idle}
use Rattle.world_steps.proofs.MaintTurns.{found_there, found_unasked, once_flag, once_owes, once_same, once_to}
use Rattle.world_steps.proofs.GaveUp.{home_kept}
use Rattle.world_steps.proofs.commands.StepsCommandSteps.answer_at_once.Goals as goal

pub answer_now-answer-requires-clause-idle : goal.answer_now-answer-requires-clause-idle
answer_now-answer-requires-clause-idle g c =
    found_idle _ _ _ _ (found_as c.deref_mut.ensures.value c.take-world.ensures.found) c.requires.idle

pub answer_now-answer-requires-clause-free : goal.answer_now-answer-requires-clause-free
answer_now-answer-requires-clause-free g c =
    found_unasked _ _ _ _ (found_as c.deref_mut.ensures.value c.take-world.ensures.found) c.requires.idle

pub answer_now-answer-requires-clause-there : goal.answer_now-answer-requires-clause-there
answer_now-answer-requires-clause-there g c =
    found_there _ _ _ _ (found_as c.deref_mut.ensures.value c.take-world.ensures.found) c.args.command.now
    c.requires.asks.there

pub put-requires-clause-owes : goal.put-requires-clause-owes
put-requires-clause-owes g c =
    owes_as c.deref_mut.ensures.value c.take-world.ensures.seen
    (once_owes g.H.Holder.alone c.args.self.now.stream c.args.command.now _ _ _
    (found_as c.deref_mut.ensures.value c.take-world.ensures.found) c.answer_now-answer.result
    c.answer_now-answer.ensures.may c.answer_now-answer.ensures.ok c.answer_now-answer.ensures.err)

pub returns-clause-stands : goal.returns-clause-stands
returns-clause-stands g c =
    record {
      ready = c.put.ensures.rests;
      home = home_kept c.take-world.ensures.home c.put.ensures.home
          (once_flag g.H.Holder.alone c.args.self.now.stream c.args.command.now _ _ _
          (found_as c.deref_mut.ensures.value c.take-world.ensures.found) c.answer_now-answer.result
          c.answer_now-answer.ensures.may c.answer_now-answer.ensures.ok c.answer_now-answer.ensures.err _
          c.put.ensures.seen);
    }

pub returns-clause-ok : goal.returns-clause-ok
returns-clause-ok g c =
    once_to g.H.Holder.alone c.args.self.now.stream c.args.command.now _ _ _
    (found_as c.deref_mut.ensures.value c.take-world.ensures.found) c.answer_now-answer.result
    c.answer_now-answer.ensures.may c.answer_now-answer.ensures.ok c.answer_now-answer.ensures.err _
    c.put.ensures.seen c.requires.asks.is c.requires.idle c.answer_now-answer.ensures.sees

pub returns-clause-err : goal.returns-clause-err
returns-clause-err g c =
    once_same g.H.Holder.alone c.args.self.now.stream c.args.command.now _ _ _
    (found_as c.deref_mut.ensures.value c.take-world.ensures.found) c.answer_now-answer.result
    c.answer_now-answer.ensures.may c.answer_now-answer.ensures.ok c.answer_now-answer.ensures.err _
    c.put.ensures.seen
