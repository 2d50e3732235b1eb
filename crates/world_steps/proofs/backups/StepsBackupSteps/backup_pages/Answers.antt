use Rattle.std.proofs.Common.{IfOk, refl}
use Rattle.backup_make.specs.Giving.{Covers}
use Rattle.volume_core.specs.State.{State}
use Rattle.volume_backup.specs.Answers.{AsksPages}
use Rattle.volume_backup.specs.Copies.{copies_told}
use Rattle.world_holder.proofs.Taken.{found_as, seen_as}
use Rattle.world_steps.proofs.BackupTurns.{calm_found, live_found, look_kept, look_so}
use Rattle.world_steps.proofs.FrameTurns.{look_owes, look_same}
use Rattle.world_steps.proofs.GaveUp.{flag_kept, home_kept}
use Rattle.world_steps.proofs.backups.StepsBackupSteps.backup_pages.Goals as goal

pub put-requires-clause-owes : goal.put-requires-clause-owes
put-requires-clause-owes g c =
    look_owes g.H.Holder.alone c.args.self.now.stream _ _ _ c.take-world.ensures.seen c.take-world.ensures.found

pub returns-clause-stands : goal.returns-clause-stands
returns-clause-stands g c =
    let found = c.take-world.ensures.found in
    record {
      ready = c.put.ensures.rests;
      home = home_kept c.take-world.ensures.home c.put.ensures.home
          (flag_kept g.H.Holder.alone c.args.self.now.stream _ _ _ _ found c.put.ensures.seen refl);
      same = look_same _ _ _ _ _ found c.put.ensures.seen;
    }

pub returns-clause-kept : goal.returns-clause-kept
returns-clause-kept g c =
    look_kept g.H.Holder.alone c.args.self.now.stream c.args.t _ _ (found_as c.deref.ensures c.take-world.ensures.found)
    c.requires.turn _ (seen_as c.deref.ensures c.put.ensures.seen)

pub backup_pages-pages-requires-clause-calm : goal.backup_pages-pages-requires-clause-calm
backup_pages-pages-requires-clause-calm g c =
    calm_found g.H.Holder.alone c.args.self.now.stream c.args.t _ _ (found_as c.deref.ensures c.take-world.ensures.found)
    c.requires.turn

pub backup_pages-pages-requires-clause-live : goal.backup_pages-pages-requires-clause-live
backup_pages-pages-requires-clause-live g c =
    live_found g.H.Holder.alone c.args.self.now.stream c.args.t _ _ (found_as c.deref.ensures c.take-world.ensures.found)
    c.requires.turn c.args.name.now c.requires.live

pub returns-clause-asks : goal.returns-clause-asks
returns-clause-asks g c =
    look_so (λ (z : State). IfOk c.backup_pages-pages.result (AsksPages z c.args.name.now c.args.base.now)) _ _
    (seen_as c.deref.ensures c.put.ensures.seen) c.backup_pages-pages.ensures.ok

pub returns-clause-covers : goal.returns-clause-covers
returns-clause-covers g c =
    look_so (λ (z : State). IfOk c.backup_pages-pages.result (Covers (copies_told z) c.args.name.now c.args.base.now)) _ _
    (seen_as c.deref.ensures c.put.ensures.seen) c.backup_pages-pages.ensures.covers
