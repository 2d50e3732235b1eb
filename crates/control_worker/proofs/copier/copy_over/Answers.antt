use Rattle.std.proofs.Common.{rules, refl}
use Rattle.control_worker.proofs.Goes.{goes_same}
use Rattle.control_worker.proofs.CopierLemmas.{ends_as, serving_on}
use Rattle.control_worker.proofs.copier.copy_over.Goals as goal

pub returns-clause-serving : goal.returns-clause-serving
returns-clause-serving g c =
    let serving = serving_on g.C.CommandSteps.mine _ c.copy_all.new.steps.steps.now c.copy_all.new.steps.channels.now
    c.requires.serving c.copy_all.ensures.keeps.ready.0 (search rules) (c.copy_all.ensures.keeps.stays _ (goes_same _ _ refl))
    c.copy_all.ensures.keeps.ready.1.shown in
    search rules

pub returns-clause-goes : goal.returns-clause-goes
returns-clause-goes g c =
    let before = g.C.CommandSteps.mine c.args.steps.now in
    let goes = c.copy_all.ensures.keeps.stays before (goes_same before before refl) in
    search rules

pub returns-clause-ended : goal.returns-clause-ended
returns-clause-ended g c =
    let ended = ends_as c.copy_all.result _ _ _ _ c.copy_all.ensures.ok in
    search rules
