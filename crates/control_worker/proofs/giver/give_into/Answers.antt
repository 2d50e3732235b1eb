use Rattle.std.proofs.Common.{◌≡◌, List, ℕ, ◌*◌, length, sym, subst, arith, rules}
use Rattle.std.proofs.lemmas.Result.{on_ok_weaker}
use Rattle.client_worker.proofs.Told.{body_put}
use Rattle.control_worker.specs.Giver.{IsPageOf}
use Rattle.control_worker.proofs.giver.give_into.Goals as goal

pub returns-clause-ok : goal.returns-clause-ok
returns-clause-ok g c =
    let before = c.args.reply.now in
    let into = c.snap_page.new.into in
    on_ok_weaker c.snap_page.result
    (λ gave. subst (IsPageOf (g.C.BackupSteps.copies c.snap_page.new.self c.args.snapshot.now) c.args.page)
    (sym (body_put before into (omega arith) (search rules))) gave.bytes) c.snap_page.ensures.ok
