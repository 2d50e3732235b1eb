use Rattle.std.proofs.Common.{refl, arith, ◌≡◌, ◌<◌, ◌∙◌, sym, subst}
use Rattle.std.proofs.lemmas.Grind.{common_steps}
use Rattle.volume_model.specs.declared.command.Command.TheVariants as command
use Rattle.volume_model.specs.Modes.{mode_of}
use Rattle.control_worker.specs.Purges.{IsFolded}
use Rattle.control_worker.proofs.CarrierLemmas.{stays_both}
use Rattle.control_worker.proofs.RoundLemmas.{below_next}
use Rattle.control_worker.proofs.Goes.{goes_same, goes_on, turn_kept}
use Rattle.control_worker.proofs.carrier.Carrier.fold_pages.Goals as goal

pub loop-page-init : goal.loop-page-init
loop-page-init g c = record {
  stays = record { home = refl; lines = record { count = refl; ends = refl } };
  text = record { is = c.requires.request; text = refl };
  goes = goes_same _ _ refl;
  folded = λ page r below. absurd (omega (arith, below));
}

pub fold_all-requires-clause-turn : goal.fold_all-requires-clause-turn
fold_all-requires-clause-turn g c = turn_kept c.args.t command.Purge _ _ c.loop-page.invariant.goes c.requires.turn

pub loop-page-preserved : goal.loop-page-preserved
loop-page-preserved g c = record {
  stays = stays_both _ _ _ c.loop-page.invariant.stays c.fold_all.ensures.stays;
  text = record { is = c.fold_all.ensures.text.is; text = c.fold_all.ensures.text.text ∙ c.loop-page.invariant.text.text };
  goes = goes_on _ _ _ c.loop-page.invariant.goes c.fold_all.ensures.goes;
  folded = λ page r below there.
      below_next
      (λ q. (seen : g.row.C.Denot) × (g.C.CommandSteps.home seen ≡ g.C.CommandSteps.home c.args.self.now.steps)
      × IsFolded (g.C.CommandSteps.wants_fold seen r c.args.parent.now q) (mode_of (g.C.CommandSteps.modes seen) r)
      c.args.parent.now q (g.C.CommandSteps.seen seen))
      c.loop-page.page (λ q low. c.loop-page.invariant.folded q r low there)
      (let h = c.fold_all.ensures.folded r (subst (λ n. r < n) (sym c.loop-page.invariant.stays.lines.count) there) in
      (h.0, h.1 ∙ c.loop-page.invariant.stays.home, h.2))
      page below;
}

pub returns-clause-folded : goal.returns-clause-folded
returns-clause-folded g c = λ page r below there.
    let low : page < c.loop-page.page = grind (arith, common_steps) in
    c.loop-page.invariant.folded page r low there
