use Rattle.world_holder.proofs.Taken.{found_as, owes_as}
use Rattle.world_steps.proofs.Does.{home_free}
use Rattle.world_steps.proofs.FrameTurns.{now_owes, now_free, now_to, now_same, found_idle, found_free}
use Rattle.world_steps.proofs.FrameRows.{frame_there}
use Rattle.world_steps.proofs.frames.StepsClientSteps.answer_now.Goals as goal

pub answer_now-answer-requires-clause-idle : goal.answer_now-answer-requires-clause-idle
answer_now-answer-requires-clause-idle g c =
    found_idle _ _ _ _ (found_as c.deref_mut.ensures.value c.take-world.ensures.found) c.requires.idle

pub answer_now-answer-requires-clause-free : goal.answer_now-answer-requires-clause-free
answer_now-answer-requires-clause-free g c =
    found_free _ _ _ _ (found_as c.deref_mut.ensures.value c.take-world.ensures.found) c.requires.ready.1

pub answer_now-answer-requires-clause-there : goal.answer_now-answer-requires-clause-there
answer_now-answer-requires-clause-there g c = frame_there _ c.args.call.now c.requires.asks.frame

pub put-requires-clause-owes : goal.put-requires-clause-owes
put-requires-clause-owes g c =
    let step = c.answer_now-answer in
    let found = found_as c.deref_mut.ensures.value c.take-world.ensures.found in
    owes_as c.deref_mut.ensures.value c.take-world.ensures.seen (now_owes _ _ c.args.call.now _ _ _ found step.result
    step.ensures.may step.ensures.ok step.ensures.err)

pub returns-clause-stands : goal.returns-clause-stands
returns-clause-stands g c =
    let step = c.answer_now-answer in
    let found = found_as c.deref_mut.ensures.value c.take-world.ensures.found in
    record {
      ready = (
        c.put.ensures.rests,
        now_free _ _ c.args.call.now _ _ _ found step.result step.ensures.may
            step.ensures.ok step.ensures.err _ c.put.ensures.seen c.requires.ready.1,
      );
      home = home_free c.take-world.ensures.home c.put.ensures.home;
    }

pub returns-clause-ok : goal.returns-clause-ok
returns-clause-ok g c =
    let step = c.answer_now-answer in
    let found = found_as c.deref_mut.ensures.value c.take-world.ensures.found in
    now_to _ _ c.args.call.now _ _ _ found step.result step.ensures.may step.ensures.ok step.ensures.err _
    c.put.ensures.seen c.requires.asks.now c.requires.asks.frame
    c.requires.idle step.ensures.sees

pub returns-clause-err : goal.returns-clause-err
returns-clause-err g c =
    let step = c.answer_now-answer in
    let found = found_as c.deref_mut.ensures.value c.take-world.ensures.found in
    now_same _ _ c.args.call.now _ _ _ found step.result step.ensures.may step.ensures.ok step.ensures.err _
    c.put.ensures.seen
