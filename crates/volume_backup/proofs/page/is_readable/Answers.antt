use Rattle.std.proofs.Common.{sym, ◌∙◌, arith}
use Rattle.volume_core.specs.State.{State, state_of}
use Rattle.volume_core.proofs.Copies.{told_copies}
use Rattle.volume_backup.specs.Copies.{IsLive}
use Rattle.volume_backup.proofs.page.is_readable.Goals as goal

pub returns-then-page-page_count-clause-no : goal.returns-then-page-page_count-clause-no
returns-then-page-page_count-clause-no c = λ e can.
    let s : State = state_of c.args.world.now in
    absurd (omega (arith, (told_copies s c.requires).copy c.args.name.now can.live))

pub returns-clause-yes : goal.returns-clause-yes
returns-clause-yes c = λ e.
    let s : State = state_of c.args.world.now in
    let live : IsLive s c.args.name.now = sym c.is_live.ensures ∙ e in
    record {
      calm = c.is_calm.ensures.yes c.if-not-is_calm.false;
      live = live;
      inside = omega (arith, (told_copies s c.requires).copy c.args.name.now live);
    }
