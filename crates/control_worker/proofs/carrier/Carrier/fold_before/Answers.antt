use Rattle.std.proofs.Common.{rules, refl, ◌≡◌, ◌∙◌, subst}
use Rattle.volume_model.specs.declared.command.Command.TheVariants as command
use Rattle.volume_model.specs.Modes.{mode_of}
use Rattle.control_worker.specs.Purges.{IsFolded}
use Rattle.control_worker.proofs.RoundLemmas.{page_below}
use Rattle.control_worker.proofs.Goes.{goes_same, turn_kept}
use Rattle.control_worker.proofs.carrier.Carrier.fold_before.Goals as goal

pub fold_pages-requires-clause-turn : goal.fold_pages-requires-clause-turn
fold_pages-requires-clause-turn g c =
    turn_kept c.args.t command.Purge (g.C.CommandSteps.mine c.args.self.now.steps) _
    (rw (← c.self.view_is) (goes_same _ _ c.page_count-pages.ensures.stands.same)) c.requires.turn

pub returns-in_default-clause-goes : goal.returns-in_default-clause-goes
returns-in_default-clause-goes g c = goes_same _ _ refl

pub returns-clause-folded : goal.returns-clause-folded
returns-clause-folded g c = rw (← c.self.view_is) (λ parent child is.
    let same : c.in-Fold.parent ≡ parent = search rules in (
      c.page_count-pages.new.self,
      c.page_count-pages.ensures.stands.home,
      λ page r within there.
          let h = c.fold_pages.ensures.folded page r (page_below page c.page_count-pages.result _ c.page_count-pages.ensures.is within)
          there in (
            h.0,
            h.1 ∙ c.page_count-pages.ensures.stands.home,
            subst (λ p. IsFolded (g.C.CommandSteps.wants_fold h.0 r p page) (mode_of (g.C.CommandSteps.modes h.0) r) p page
                (g.C.CommandSteps.seen h.0)) same h.2,
          ),
    ))
