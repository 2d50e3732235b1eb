use Rattle.std.proofs.Common.{refl, subst, length, ℕ, List, ◌*◌, ◌<◌}
use Rattle.std.specs.Prelude.{Option, IfSome}
use Rattle.control_worker.proofs.GiverLemmas.{can_goes, copies_asked, known_goes, page_told, same_copies, still_live}
use Rattle.control_worker.proofs.giver.GiverPageGiver.page.Goals as goal

pub give_page-requires-clause-page : goal.give_page-requires-clause-page
give_page-requires-clause-page g c =
    let s = c.args.self.now in
    subst (λ (o : Option (List ℕ)). IfSome o (λ disk. c.args.page * 2097152 < length disk))
    (copies_asked (g.C.BackupSteps.copies s.steps.now) s.snapshot s.base) c.requires.page

pub returns-clause-keeps : goal.returns-clause-keeps
returns-clause-keeps g c =
    let k = c.give_page.ensures.keeps in
    let s = c.args.self.now in
    record {
      ready = (c.give_page.ensures.serving, can_goes s.turn s.snapshot s.base _ _ _ _ k.goes k.kept c.requires.ready.1);
      home = λ j. (
        k.stays.home j,
        s.steps.ghost_name,
        s.channels.ghost_name,
        k.stays.lines.count j,
        k.stays.lines.ends j,
        s.turn,
        s.snapshot,
        s.base,
      );
      facts = λ known h. known_goes known _ _ _ _ k.goes k.kept h;
    }

pub returns-clause-stays : goal.returns-clause-stays
returns-clause-stays g c =
    let s = c.args.self.now in
    let can = c.requires.ready.1 in
    record { name = refl; copy = same_copies _ _ s.snapshot s.base c.give_page.ensures.keeps.kept can.live can.base s.snapshot }

pub returns-clause-ok : goal.returns-clause-ok
returns-clause-ok g c =
    let s = c.args.self.now in
    page_told c.give_page.result (g.C.BackupSteps.copies c.give_page.new.steps) s.snapshot s.base c.args.page _
    (still_live _ _ s.snapshot c.give_page.ensures.keeps.kept c.requires.ready.1.live) c.give_page.ensures.ok
