use Rattle.world_holder.proofs.Taken.{found_as, owes_as}
use Rattle.world_steps.proofs.FrameTurns.{found_idle}
use Rattle.world_steps.proofs.MaintTurns.{found_there, found_unasked, asks_flag, asks_owes, asks_same, asks_to}
use Rattle.world_steps.proofs.Turns.{wants_maint}
use Rattle.world_steps.proofs.GaveUp.{home_kept}
use Rattle.world_steps.proofs.commands.StepsCommandSteps.enrol_maint.Goals as goal

pub enrol_maint-answer-requires-clause-idle : goal.enrol_maint-answer-requires-clause-idle
enrol_maint-answer-requires-clause-idle g c =
    found_idle _ _ _ _ (found_as c.deref_mut.ensures.value c.take-world.ensures.found) c.requires.idle

pub enrol_maint-answer-requires-clause-free : goal.enrol_maint-answer-requires-clause-free
enrol_maint-answer-requires-clause-free g c =
    found_unasked _ _ _ _ (found_as c.deref_mut.ensures.value c.take-world.ensures.found) c.requires.idle

pub enrol_maint-answer-requires-clause-wants : goal.enrol_maint-answer-requires-clause-wants
enrol_maint-answer-requires-clause-wants g c =
    wants_maint c.args.command.now c.requires.asks.is

pub enrol_maint-answer-requires-clause-there : goal.enrol_maint-answer-requires-clause-there
enrol_maint-answer-requires-clause-there g c =
    found_there _ _ _ _ (found_as c.deref_mut.ensures.value c.take-world.ensures.found) c.args.command.now
    c.requires.asks.there

pub put-requires-clause-owes : goal.put-requires-clause-owes
put-requires-clause-owes g c =
    owes_as c.deref_mut.ensures.value c.take-world.ensures.seen
    (asks_owes g.H.Holder.alone c.args.self.now.stream c.args.command.now _ _ _
    (found_as c.deref_mut.ensures.value c.take-world.ensures.found) c.enrol_maint-answer.result
    c.enrol_maint-answer.ensures.may c.enrol_maint-answer.ensures.ok c.enrol_maint-answer.ensures.err)

pub returns-clause-stands : goal.returns-clause-stands
returns-clause-stands g c =
    record {
      ready = c.put.ensures.rests;
      home = home_kept c.take-world.ensures.home c.put.ensures.home
          (asks_flag g.H.Holder.alone c.args.self.now.stream c.args.command.now _ _ _
          (found_as c.deref_mut.ensures.value c.take-world.ensures.found) c.enrol_maint-answer.result
          c.enrol_maint-answer.ensures.may c.enrol_maint-answer.ensures.ok c.enrol_maint-answer.ensures.err _
          c.put.ensures.seen);
    }

pub returns-clause-ok : goal.returns-clause-ok
returns-clause-ok g c =
    asks_to g.H.Holder.alone c.args.self.now.stream c.args.command.now _ _ _
    (found_as c.deref_mut.ensures.value c.take-world.ensures.found) c.enrol_maint-answer.result
    c.enrol_maint-answer.ensures.may c.enrol_maint-answer.ensures.ok c.enrol_maint-answer.ensures.err _
    c.put.ensures.seen c.requires.idle

pub returns-clause-err : goal.returns-clause-err
returns-clause-err g c =
    asks_same g.H.Holder.alone c.args.self.now.stream c.args.command.now _ _ _
    (found_as c.deref_mut.ensures.value c.take-world.ensures.found) c.enrol_maint-answer.result
    c.enrol_maint-answer.ensures.may c.enrol_maint-answer.ensures.ok c.enrol_maint-answer.ensures.err _
    c.put.ensures.seen
