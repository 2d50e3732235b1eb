use Rattle.backup_make.specs.declared.giver.Pages.TheVariants as found
use Rattle.volume_core.specs.State.{State, state_of, told_of}
use Rattle.volume_core.proofs.Copies.{told_copies}
use Rattle.volume_backup.proofs.Covers.{covers_all}
use Rattle.volume_backup.proofs.pages.backup_pages.Goals as goal

pub returns-in_ok-all_pages-in-None-clause-covers : goal.returns-in_ok-all_pages-in-None-clause-covers
returns-in_ok-all_pages-in-None-clause-covers c =
    let s : State = state_of c.args.world.now in
    covers_all (told_of s).volume s.size c.args.name.now c.args.base.now (found.All c.in_ok-all_pages-in-None.field-0)
    (told_copies s c.requires.sound) c.in_ok-all_pages-in-None.ensures
