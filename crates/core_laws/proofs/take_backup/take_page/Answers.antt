use Rattle.volume_core.specs.State.{state_of}
use Rattle.core_laws.proofs.Pages.{page_made}
use Rattle.core_laws.proofs.take_backup.take_page.Goals as goal

pub returns-clause-ok : goal.returns-clause-ok
returns-clause-ok c =
    let read = c.snap_page.ensures in
    page_made (state_of c.args.world.now) (state_of c.snap_page.new.world) c.args.replica c.args.page c.args.name.now
    c.snap_page.new.into c.snap_page.result read.same read.ok read.why
