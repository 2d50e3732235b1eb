use Rattle.std.proofs.Common.{rules, refl, sym, subst, ◌≡◌, ◌∙◌, ℕ, List, Option, is_some, true}
use Rattle.backup_make.specs.Giving.{HasCopy}
use Rattle.control_worker.specs.Giver.{copies_of}
use Rattle.control_worker.proofs.BackupLemmas.{base_is, live_of, made_same, makes_same}
use Rattle.control_worker.proofs.CarrierLemmas.{serves_step}
use Rattle.control_worker.proofs.GiverLemmas.{backup_same, copies_asked, gives_step, gives_then, live_kept, still_live}
use Rattle.control_worker.proofs.Goes.{goes_same}
use Rattle.control_worker.proofs.ShownLemmas.{stays_same}
use Rattle.control_worker.proofs.backup.make_over.Given.{Over}
use Rattle.control_worker.proofs.backup.make_over.Goals as goal
use Rattle.control_worker.proofs.backup.make_over.Goals.{After-base_of-base}

-- the copy that is asked for is the snapshot's
same : (g : Over) (c : After-base_of-base g)
    → copies_of (g.C.BackupSteps.copies c.base_of-base.new.steps) c.args.snapshot.now c.base_of-base.result c.args.snapshot.now
    ≡ g.C.BackupSteps.copies c.args.steps.now c.args.snapshot.now
same g c = copies_asked (g.C.BackupSteps.copies c.base_of-base.new.steps) c.args.snapshot.now c.base_of-base.result
    ∙ live_kept _ _ c.args.snapshot.now c.base_of-base.ensures.kept (live_of _ c.args.size c.requires.copy)

pub make_with-requires-clause-ready : goal.make_with-requires-clause-ready
make_with-requires-clause-ready g c = (
  serves_step g.C.CommandSteps.mine (record { steps = c.args.steps.now; channels = c.args.channels.now }) c.base_of-base.new.steps
      c.base_of-base.ensures.stands.ready (stays_same _ _ c.base_of-base.ensures.stands.same) c.requires.serving,
  record {
    turn = backup_same c.args.t _ _ c.base_of-base.ensures.stands.same c.requires.turn;
    live = still_live _ _ c.args.snapshot.now c.base_of-base.ensures.kept (live_of _ c.args.size c.requires.copy);
    base = c.base_of-base.ensures.live;
  },
)

pub make_with-requires-clause-copy : goal.make_with-requires-clause-copy
make_with-requires-clause-copy g c =
    subst (λ (o : Option (List ℕ)). HasCopy o c.args.size) (sym (same g (goal.at.make_with-requires-clause-copy g c).After-base_of-base))
    c.requires.copy

pub make_with-requires-clause-base : goal.make_with-requires-clause-base
make_with-requires-clause-base g c = λ e.
    let is : is_some c.base_of-base.result ≡ true = search rules in
    base_is g.T.Target.tells (g.T.Target.holds c.args.target.now) c.args.volume.now (g.C.CommandSteps.mine c.args.steps.now)
    (g.C.CommandSteps.mine c.base_of-base.new.steps) (g.C.BackupSteps.copies c.base_of-base.new.steps) c.args.snapshot.now
    c.base_of-base.result c.args.last.now c.base_of-base.ensures.stands.same c.requires.last c.base_of-base.ensures.told is

pub returns-clause-serving : goal.returns-clause-serving
returns-clause-serving g c =
    let serving = c.make_with.ensures.giver.ready.0 in
    search rules

pub returns-clause-keeps : goal.returns-clause-keeps
returns-clause-keeps g c =
    let home = c.make_with.ensures.giver.home in
    let facts = c.make_with.ensures.giver.facts
    (record {
      mine = g.C.CommandSteps.mine c.base_of-base.new.steps;
      copies = g.C.BackupSteps.copies c.base_of-base.new.steps;
    })
    (record { goes = goes_same _ _ refl; kept = λ name disk is. is }) in
    let keeps = gives_then {at = g.C.CommandSteps.home} {mine = g.C.CommandSteps.mine} {copies = g.C.BackupSteps.copies}
    {between = g.L.Line.ends}
    (record { steps = c.args.steps.now; channels = c.args.channels.now })
    (record { steps = c.base_of-base.new.steps; channels = c.args.channels.now })
    (record { steps = c.make_with.new.pages.steps.now; channels = c.make_with.new.pages.channels.now })
    (gives_step (record { steps = c.args.steps.now; channels = c.args.channels.now }) c.base_of-base.new.steps
    c.base_of-base.ensures.stands.home c.base_of-base.ensures.stands.same c.base_of-base.ensures.kept)
    (record {
      stays = record { home = λ j. (home j).0; lines = record { count = λ j. (home j).3; ends = λ j. (home j).4 } };
      goes = facts.goes;
      kept = facts.kept;
    }) in
    search rules

pub returns-clause-made : goal.returns-clause-made
returns-clause-made g c =
    made_same g.T.Target.tells _ c.args.volume.now c.args.snapshot.now _ _ c.make_with.result
    (same g (goal.at.returns-clause-made g c).After-base_of-base) c.make_with.ensures.made

pub returns-clause-store : goal.returns-clause-store
returns-clause-store g c tells =
    makes_same c.args.volume.now c.args.backup.now _ _ c.make_with.result _ _
    (same g (goal.at.returns-clause-store g c).After-base_of-base) (c.make_with.ensures.store tells)
