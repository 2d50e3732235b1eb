use Rattle.std.proofs.Common.{subst, sym}
use Rattle.world_holder.proofs.Taken.{found_as, owes_as}
use Rattle.volume_core.specs.State.{State}
use Rattle.world_steps.specs.Rebuild.{IsEndedAt}
use Rattle.world_steps.proofs.GaveUp.{home_kept}
use Rattle.world_steps.proofs.PageTurns.{fall_owes, fall_fell, fall_gave, fall_still, fall_part, fall_above}
use Rattle.world_steps.proofs.adds.StepsAddSteps.copy_fault.Goals as goal

pub fall_in-place-requires-clause-part : goal.fall_in-place-requires-clause-part
fall_in-place-requires-clause-part g c =
    let found = found_as c.deref_mut.ensures.value c.take-world.ensures.found in
    fall_part _ _ c.args.replica c.args.count _ _ found c.requires.fault.end

pub fall_in-place-requires-clause-above : goal.fall_in-place-requires-clause-above
fall_in-place-requires-clause-above g c =
    let found = found_as c.deref_mut.ensures.value c.take-world.ensures.found in
    fall_above _ _ c.args.replica c.args.count _ _ found c.requires.fault.above

pub put-requires-clause-owes : goal.put-requires-clause-owes
put-requires-clause-owes g c =
    let found = found_as c.deref_mut.ensures.value c.take-world.ensures.found in
    owes_as c.deref_mut.ensures.value c.take-world.ensures.seen
    (fall_owes _ _ c.args.t c.args.replica c.args.count _ _ _ found c.requires.turn
    c.fall_in-place.ensures.may c.fall_in-place.ensures.fell)

pub returns-clause-stands : goal.returns-clause-stands
returns-clause-stands g c =
    let found = found_as c.deref_mut.ensures.value c.take-world.ensures.found in
    record {
      ready = c.put.ensures.rests;
      home = home_kept c.take-world.ensures.home c.put.ensures.home
          (fall_gave _ _ c.args.t c.args.replica c.args.count _ _ _ found c.requires.turn
          c.fall_in-place.ensures.may c.fall_in-place.ensures.fell _ c.put.ensures.seen);
    }

pub returns-clause-kept : goal.returns-clause-kept
returns-clause-kept g c =
    let found = found_as c.deref_mut.ensures.value c.take-world.ensures.found in
    let still = fall_still _ _ c.args.t c.args.replica c.args.count _ _ _ found c.requires.turn
    c.fall_in-place.ensures.may c.fall_in-place.ensures.fell _ c.put.ensures.seen in
    let known = still.rebuild in
    record {
      rebuild = record { ended = known.ended; pages = known.pages; begun = known.begun; fewer = known.fewer };
      awaits = still.awaits;
    }

pub returns-clause-fell : goal.returns-clause-fell
returns-clause-fell g c =
    let found = found_as c.deref_mut.ensures.value c.take-world.ensures.found in
    record {
      fell = fall_fell _ _ c.args.t c.args.replica c.args.count _ _ _ found c.requires.turn
          c.fall_in-place.ensures.may c.fall_in-place.ensures.fell _ c.put.ensures.seen;
      is = subst (λ (z : State). IsEndedAt z c.fall_in-place.result) (sym c.put.ensures.seen)
          c.fall_in-place.ensures.is;
    }
