use Rattle.std.proofs.Common.{◌∙◌, ap, sym}
use Rattle.layer_chain.specs.declared.layer.LayerMeta.{LayerMeta}
use Rattle.coalesce.specs.Search.{goes_before}
use Rattle.coalesce.proofs.FirstLemmas.{best_stays, best_before, best_found}
use Rattle.coalesce.proofs.next.best_from.Goals as goal

pub returns-then-not-goes_before : goal.returns-then-not-goes_before
returns-then-not-goes_before c =
    best_before c.args.tree.now c.args.place c.args.best
    (ap (λ (m : LayerMeta). goes_before m.name c.args.best) (sym c.meta.ensures) ∙ sym c.if-not-goes_before.ensures) c.requires.best

pub returns-in-Some : goal.returns-in-Some
returns-in-Some c =
    best_found c.args.tree.now c.args.place c.in-Some.found c.in-Some.ensures c.args.best
    (ap (λ (m : LayerMeta). goes_before m.name c.args.best) (sym c.meta.ensures) ∙ sym c.if-not-goes_before.ensures) c.requires.best

pub returns-in-None : goal.returns-in-None
returns-in-None c = best_stays c.args.tree.now c.args.place c.args.best c.in-None.ensures c.requires.best
