use Rattle.std.proofs.Common.{rules, ◌≡◌, true, false}
use Rattle.client_worker.specs.Working.{told_by}
use Rattle.control_worker.proofs.CommandLemmas.{taken_started, taken_refused, starts_so}
use Rattle.control_worker.proofs.PartLemmas.{starts_shown}
use Rattle.control_worker.proofs.carrier.Carrier.take_up.Goals as goal

pub carry_whole-requires : goal.carry_whole-requires
carry_whole-requires g c =
    let yes : c.in_ok-start.field-0 ≡ true = search rules in
    let w = c.requires.waits in
    let mine_before = g.C.CommandSteps.mine c.args.self.now.steps in
    let mine_started = g.C.CommandSteps.mine c.start.new.self.steps in
    record {
      shown = starts_shown _ c.args.whole.now.op w.0 w.1 _ _ (told_by g.L.Line.carried c.start.new.self) w.2
          (starts_so _ c.args.whole.now.op c.in_ok-start.field-0 _ _ yes c.in_ok-start.ensures.ok w);
    }

pub returns-then-branch-clause-ok : goal.returns-then-branch-clause-ok
returns-then-branch-clause-ok g c =
    let yes : c.in_ok-start.field-0 ≡ true = search rules in
    taken_started _ c.args.whole.now.op c.requires.answered c.in_ok-start.field-0 _ _ _ yes c.in_ok-start.ensures.ok
    c.carry_whole.ensures.done

pub returns-else-branch-clause-ok : goal.returns-else-branch-clause-ok
returns-else-branch-clause-ok g c =
    let no : c.in_ok-start.field-0 ≡ false = search rules in
    taken_refused _ c.args.whole.now.op c.in_ok-start.field-0 _ _ no c.in_ok-start.ensures.ok
