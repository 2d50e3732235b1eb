use Rattle.std.proofs.Common.{refl, map, length, option_map}
use Rattle.control_worker.specs.Giver.{GivesOn, same_base}
use Rattle.control_worker.proofs.CarrierLemmas.{serves_step}
use Rattle.control_worker.proofs.ShownLemmas.{stays_same}
use Rattle.control_worker.proofs.GiverLemmas.{base_cases, can_goes, covers_of, drops_none, gives_step, known_goes, same_copies, weaker}
use Rattle.control_worker.proofs.giver.GiverPageGiver.pages.Given.{Over}
use Rattle.control_worker.proofs.giver.GiverPageGiver.pages.Goals as goal
use Rattle.control_worker.proofs.giver.GiverPageGiver.pages.Goals.{After-ask_pages}

-- the step changes nothing for the stream
asked : (g : Over) (c : After-ask_pages g) → GivesOn g.C.CommandSteps.home g.C.CommandSteps.mine g.C.BackupSteps.copies g.L.Line.ends
    (record { steps = c.args.self.now.steps.now; channels = c.args.self.now.channels.now })
    (record { steps = c.ask_pages.new.steps; channels = c.args.self.now.channels.now })
asked g c = gives_step (record { steps = c.args.self.now.steps.now; channels = c.args.self.now.channels.now }) c.ask_pages.new.steps
    c.ask_pages.ensures.stands.home c.ask_pages.ensures.stands.same c.ask_pages.ensures.kept

pub returns-clause-keeps : goal.returns-clause-keeps
returns-clause-keeps g c =
    let k = asked g (goal.at.returns-clause-keeps g c).After-ask_pages in
    let s = c.args.self.now in
    record {
      ready = (
        serves_step g.C.CommandSteps.mine (record { steps = s.steps.now; channels = s.channels.now }) c.ask_pages.new.steps
            c.ask_pages.ensures.stands.ready (stays_same _ _ c.ask_pages.ensures.stands.same) c.requires.ready.0,
        can_goes s.turn s.snapshot s.base _ _ _ _ k.goes k.kept c.requires.ready.1,
      );
      home = λ j. (
        k.stays.home j,
        s.steps.ghost_name,
        s.channels.ghost_name,
        length s.channels.now,
        map (λ x. g.L.Line.ends x.line) s.channels.now,
        s.turn,
        s.snapshot,
        s.base,
      );
      facts = λ known h. known_goes known _ _ _ _ k.goes k.kept h;
    }

pub returns-clause-stays : goal.returns-clause-stays
returns-clause-stays g c =
    let s = c.args.self.now in
    let can = c.requires.ready.1 in
    record { name = refl; copy = same_copies _ _ s.snapshot s.base c.ask_pages.ensures.kept can.live can.base s.snapshot }

pub returns-clause-base : goal.returns-clause-base
returns-clause-base g c =
    let s = c.args.self.now in
    let can = c.requires.ready.1 in
    drops_none _ _ _ (same_copies _ _ s.snapshot s.base c.ask_pages.ensures.kept can.live can.base)

pub returns-clause-ok : goal.returns-clause-ok
returns-clause-ok g c =
    let s = c.args.self.now in
    let given = option_map (λ n. n.now) c.args.base in
    weaker _ _ c.ask_pages.result
    (λ pages covers. covers_of (g.C.BackupSteps.copies c.ask_pages.new.steps) s.snapshot s.base (same_base s.base given) given pages
    (base_cases s.base given) covers) c.ask_pages.ensures.covers
