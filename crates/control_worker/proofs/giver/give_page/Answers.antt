use Rattle.control_worker.specs.Giver.{GivesOn}
use Rattle.control_worker.proofs.GiverLemmas.{gives_none, gives_step, gives_then, kept_of, still_live}
use Rattle.control_worker.proofs.giver.give_page.Given.{Over}
use Rattle.control_worker.proofs.giver.give_page.Goals as goal
use Rattle.control_worker.proofs.giver.give_page.Goals.{After-lowest}

-- the lowest was asked for
looked : (g : Over) (c : After-lowest g) → GivesOn g.C.CommandSteps.home g.C.CommandSteps.mine g.C.BackupSteps.copies g.L.Line.ends
    (record { steps = c.args.steps.now; channels = c.args.channels.now })
    (record { steps = c.lowest.new.self; channels = c.loop.channels })
looked g c = gives_then _ (record { steps = c.loop.steps; channels = c.loop.channels }) _ c.loop.invariant.keeps
    (gives_step (record { steps = c.loop.steps; channels = c.loop.channels }) c.lowest.new.self
    c.lowest.ensures.stands.home c.lowest.ensures.stands.same c.lowest.ensures.kept)

pub loop-init : goal.loop-init
loop-init g c = record { serving = c.requires.serving; keeps = gives_none _ }

pub returns-in_default-clause-keeps : goal.returns-in_default-clause-keeps
returns-in_default-clause-keeps g c = looked g (goal.at.returns-in_default-clause-keeps g c).After-lowest

pub page_from-requires-clause-live : goal.page_from-requires-clause-live
page_from-requires-clause-live g c =
    still_live _ _ c.args.snapshot.now (looked g (goal.at.page_from-requires-clause-live g c).After-lowest).kept c.requires.live

pub page_from-requires-clause-page : goal.page_from-requires-clause-page
page_from-requires-clause-page g c =
    kept_of _ _ c.args.snapshot.now _ (looked g (goal.at.page_from-requires-clause-page g c).After-lowest).kept c.requires.live
    c.requires.page

pub returns-in-Ok-true-clause-keeps : goal.returns-in-Ok-true-clause-keeps
returns-in-Ok-true-clause-keeps g c =
    gives_then _ _ _ (looked g (goal.at.returns-in-Ok-true-clause-keeps g c).After-lowest) c.page_from.ensures.keeps

pub loop-preserved : goal.loop-preserved
loop-preserved g c = record {
  serving = c.page_from.ensures.serving;
  keeps = gives_then _ _ _ (looked g (goal.at.loop-preserved g c).After-lowest) c.page_from.ensures.keeps;
}

pub returns-in-Err-clause-keeps : goal.returns-in-Err-clause-keeps
returns-in-Err-clause-keeps g c =
    gives_then _ _ _ (looked g (goal.at.returns-in-Err-clause-keeps g c).After-lowest) c.page_from.ensures.keeps
