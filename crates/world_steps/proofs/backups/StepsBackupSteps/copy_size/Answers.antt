use Rattle.std.proofs.Common.{◌≡◌, refl, None}
use Rattle.std.specs.Option.{MatchOption}
use Rattle.backup_make.specs.Giving.{HasCopy}
use Rattle.volume_core.specs.State.{State}
use Rattle.volume_backup.specs.Copies.{copies_told}
use Rattle.world_holder.proofs.Taken.{found_as, seen_as}
use Rattle.world_steps.proofs.BackupTurns.{look_kept, look_told, look_so}
use Rattle.world_steps.proofs.FrameTurns.{look_owes, look_same}
use Rattle.world_steps.proofs.GaveUp.{flag_kept, home_kept}
use Rattle.world_steps.proofs.backups.StepsBackupSteps.copy_size.Goals as goal

pub put-requires-clause-owes : goal.put-requires-clause-owes
put-requires-clause-owes g c =
    look_owes g.H.Holder.alone c.args.self.now.stream _ _ _ c.take-world.ensures.seen c.take-world.ensures.found

pub returns-clause-stands : goal.returns-clause-stands
returns-clause-stands g c =
    let found = c.take-world.ensures.found in
    record {
      ready = c.put.ensures.rests;
      home = home_kept c.take-world.ensures.home c.put.ensures.home
          (flag_kept g.H.Holder.alone c.args.self.now.stream _ _ _ _ found c.put.ensures.seen refl);
      same = look_same _ _ _ _ _ found c.put.ensures.seen;
    }

pub returns-clause-kept : goal.returns-clause-kept
returns-clause-kept g c =
    look_kept g.H.Holder.alone c.args.self.now.stream c.args.t _ _ (found_as c.deref.ensures c.take-world.ensures.found)
    c.requires.turn _ (seen_as c.deref.ensures c.put.ensures.seen)

pub returns-clause-told : goal.returns-clause-told
returns-clause-told g c =
    look_told g.H.Holder.alone c.args.self.now.stream c.args.t _ _ (found_as c.deref.ensures c.take-world.ensures.found)
    c.requires.turn _ (seen_as c.deref.ensures c.put.ensures.seen)

pub returns-clause-is : goal.returns-clause-is
returns-clause-is g c =
    look_so (λ (z : State). MatchOption c.size_in-size.result (copies_told z c.args.name.now ≡ None)
    (HasCopy (copies_told z c.args.name.now))) _ _ (seen_as c.deref.ensures c.put.ensures.seen) c.size_in-size.ensures
