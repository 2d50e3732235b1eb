use Rattle.std.proofs.Common.{refl, arith, ◌≡◌, ◌<◌, ◌∙◌}
use Rattle.std.proofs.lemmas.Grind.{common_steps}
use Rattle.volume_model.specs.declared.command.Command.TheVariants as command
use Rattle.volume_model.specs.Modes.{mode_of}
use Rattle.control_worker.specs.Purges.{IsFolded}
use Rattle.control_worker.proofs.CarrierLemmas.{stays_both}
use Rattle.control_worker.proofs.RoundLemmas.{below_next}
use Rattle.control_worker.proofs.Goes.{goes_same, goes_on, turn_kept}
use Rattle.control_worker.proofs.carrier.Carrier.fold_all.Goals as goal

pub loop-r-init : goal.loop-r-init
loop-r-init g c = record {
  stays = record { home = refl; lines = record { count = refl; ends = refl } };
  text = record { is = c.requires.request; text = refl };
  goes = goes_same _ _ refl;
  folded = λ r below. absurd (omega (arith, below));
}

pub fold_one-requires-clause-turn : goal.fold_one-requires-clause-turn
fold_one-requires-clause-turn g c = turn_kept c.args.fold.now.turn command.Purge _ _ c.loop-r.invariant.goes c.requires.turn

pub loop-r-preserved : goal.loop-r-preserved
loop-r-preserved g c = record {
  stays = stays_both _ _ _ c.loop-r.invariant.stays c.fold_one.ensures.stays;
  text = record { is = c.fold_one.ensures.text.is; text = c.fold_one.ensures.text.text ∙ c.loop-r.invariant.text.text };
  goes = goes_on _ _ _ c.loop-r.invariant.goes c.fold_one.ensures.goes;
  folded = below_next
      (λ r. (seen : g.row.C.Denot) × (g.C.CommandSteps.home seen ≡ g.C.CommandSteps.home c.args.self.now.steps)
      × IsFolded (g.C.CommandSteps.wants_fold seen r c.args.fold.now.parent c.args.fold.now.page)
      (mode_of (g.C.CommandSteps.modes seen) r) c.args.fold.now.parent c.args.fold.now.page (g.C.CommandSteps.seen seen))
      c.loop-r.r c.loop-r.invariant.folded
      (c.fold_one.new.self.steps, c.fold_one.ensures.stays.home ∙ c.loop-r.invariant.stays.home, c.fold_one.ensures.folded);
}

pub returns-clause-folded : goal.returns-clause-folded
returns-clause-folded g c = λ r below.
    let low : r < c.loop-r.r = grind (arith, common_steps) in
    c.loop-r.invariant.folded r low
