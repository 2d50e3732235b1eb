use Rattle.std.proofs.Common.{refl}
use Rattle.std.specs.Option.{MatchOption}
use Rattle.volume_model.specs.Modes.{IsSource, HasNoSource}
use Rattle.world_holder.proofs.Taken.{found_as, seen_as}
use Rattle.world_steps.proofs.BackupTurns.{look_kept, log_modes}
use Rattle.world_steps.proofs.FrameTurns.{look_owes, look_same, look_modes, look_inside}
use Rattle.world_steps.proofs.GaveUp.{flag_kept, home_kept}
use Rattle.world_steps.proofs.backups.StepsBackupSteps.lowest.Goals as goal

pub put-requires-clause-owes : goal.put-requires-clause-owes
put-requires-clause-owes g c =
    look_owes g.H.Holder.alone c.args.self.now.stream _ _ _ c.take-world.ensures.seen c.take-world.ensures.found

pub returns-clause-stands : goal.returns-clause-stands
returns-clause-stands g c =
    let found = c.take-world.ensures.found in
    record {
      ready = c.put.ensures.rests;
      home = home_kept c.take-world.ensures.home c.put.ensures.home
          (flag_kept g.H.Holder.alone c.args.self.now.stream _ _ _ _ found c.put.ensures.seen refl);
      same = look_same _ _ _ _ _ found c.put.ensures.seen;
    }

pub returns-clause-kept : goal.returns-clause-kept
returns-clause-kept g c =
    look_kept g.H.Holder.alone c.args.self.now.stream c.args.t _ _ (found_as c.deref.ensures c.take-world.ensures.found)
    c.requires.turn _ (seen_as c.deref.ensures c.put.ensures.seen)

pub returns-clause-is : goal.returns-clause-is
returns-clause-is g c =
    look_modes (λ modes. MatchOption c.source-source.result (HasNoSource modes) (IsSource modes)) _ _
    (seen_as c.deref.ensures c.put.ensures.seen) c.source-source.ensures.found

pub returns-clause-inside : goal.returns-clause-inside
returns-clause-inside g c =
    look_inside g.H.Holder.alone c.args.self.now.stream _ _ _ (found_as c.deref.ensures c.take-world.ensures.found)
    (seen_as c.deref.ensures c.put.ensures.seen) c.source-source.result c.source-source.ensures.within

pub returns-clause-here : goal.returns-clause-here
returns-clause-here g c =
    log_modes (λ modes. MatchOption c.source-source.result (HasNoSource modes) (IsSource modes)) g.H.Holder.alone _
    (returns-clause-is g c)
