use Rattle.world_holder.proofs.Taken.{found_as, owes_as}
use Rattle.world_steps.proofs.GaveUp.{home_kept}
use Rattle.world_steps.proofs.AddTurns.{add_known}
use Rattle.world_steps.proofs.PageTurns.{put_owes, put_same, put_gave, put_kept, put_puts}
use Rattle.world_steps.proofs.adds.StepsAddSteps.copy_in.Goals as goal

pub put_in-answer-requires-clause-page : goal.put_in-answer-requires-clause-page
put_in-answer-requires-clause-page g c =
    let found = found_as c.deref_mut.ensures.value c.take-world.ensures.found in
    (add_known _ _ c.args.t _ _ found c.requires.turn).awaits c.args.page.now c.requires.page.awaits

pub put_in-answer-requires-clause-blocks : goal.put_in-answer-requires-clause-blocks
put_in-answer-requires-clause-blocks g c =
    let found = found_as c.deref_mut.ensures.value c.take-world.ensures.found in
    (add_known _ _ c.args.t _ _ found c.requires.turn).rebuild.pages c.args.page.now c.args.with.now
    c.requires.page.blocks

pub put-requires-clause-owes : goal.put-requires-clause-owes
put-requires-clause-owes g c =
    let step = c.put_in-answer in
    let found = found_as c.deref_mut.ensures.value c.take-world.ensures.found in
    owes_as c.deref_mut.ensures.value c.take-world.ensures.seen
    (put_owes _ _ c.args.t _ _ _ c.args.page.now c.args.with.now step.new.with step.result found c.requires.turn
    step.ensures.puts step.ensures.may)

pub returns-clause-stands : goal.returns-clause-stands
returns-clause-stands g c =
    let step = c.put_in-answer in
    let found = found_as c.deref_mut.ensures.value c.take-world.ensures.found in
    record {
      ready = c.put.ensures.rests;
      home = home_kept c.take-world.ensures.home c.put.ensures.home
          (put_gave _ _ c.args.t _ _ _ c.args.page.now c.args.with.now step.new.with step.result found c.requires.turn
          step.ensures.puts step.ensures.may _ c.put.ensures.seen);
      same = put_same _ _ c.args.t _ _ _ c.args.page.now c.args.with.now step.new.with step.result found c.requires.turn
          step.ensures.puts step.ensures.may _ c.put.ensures.seen;
    }

pub returns-clause-kept : goal.returns-clause-kept
returns-clause-kept g c =
    let step = c.put_in-answer in
    let found = found_as c.deref_mut.ensures.value c.take-world.ensures.found in
    let known = put_kept _ _ c.args.t _ _ _ c.args.page.now c.args.with.now step.new.with step.result found
    c.requires.turn
    step.ensures.puts step.ensures.may _ c.put.ensures.seen in
    record { ended = known.ended; pages = known.pages; begun = known.begun; fewer = known.fewer }

pub returns-clause-puts : goal.returns-clause-puts
returns-clause-puts g c =
    let step = c.put_in-answer in
    let found = found_as c.deref_mut.ensures.value c.take-world.ensures.found in
    put_puts _ _ c.args.t _ _ _ c.args.page.now c.args.with.now step.new.with step.result found c.requires.turn
    step.ensures.puts step.ensures.may _ c.put.ensures.seen
