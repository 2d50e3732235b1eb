use Rattle.std.proofs.Common.{rules, refl, ap, subst, ◌≡◌, ◌∙◌, ◌∷◌, [], is_ok, true, false}
use Rattle.volume_model.specs.declared.command.Command.TheVariants as command
use Rattle.stream_steps.specs.Mine.{Mine, OwnCall, entries_in, answer_placed}
use Rattle.stream_steps.specs.Backup.{EndsBackup, HasBackup, RefusesEndBackup}
use Rattle.control_worker.specs.Giver.{GivesOn}
use Rattle.control_worker.proofs.BackupLemmas.{adds_none, adds_then, backs_up, count_kept, last_ends, last_still, retried, turn_at}
use Rattle.control_worker.proofs.CarrierLemmas.{serves_step}
use Rattle.control_worker.proofs.CommandLemmas.{on_err}
use Rattle.control_worker.proofs.GiverLemmas.{gives_none, gives_step, gives_then}
use Rattle.control_worker.proofs.Goes.{turn_kept}
use Rattle.control_worker.proofs.PartLemmas.{ok_of, err_of}
use Rattle.control_worker.proofs.ShownLemmas.{stays_answer, stays_same}
use Rattle.control_worker.proofs.backup.back_up.Given.{Over}
use Rattle.control_worker.proofs.backup.back_up.Goals as goal
use Rattle.control_worker.proofs.backup.back_up.Goals.{After-try_backup, After-end_backup}

-- a try more was made
on : (g : Over) (c : After-try_backup g) → GivesOn g.C.CommandSteps.home g.C.CommandSteps.mine g.C.BackupSteps.copies g.L.Line.ends
    (record { steps = c.args.steps.now; channels = c.args.channels.now })
    (record { steps = c.try_backup.new.steps; channels = c.try_backup.new.channels })
on g c = gives_then _ _ _ c.loop.invariant.keeps c.try_backup.ensures.keeps

-- it has the turn still
turn : (g : Over) (c : After-try_backup g)
    → (o : OwnCall) × HasBackup c.args.t c.args.backup.now c.args.snapshot.now o (g.C.CommandSteps.mine c.try_backup.new.steps)
turn g c = turn_kept c.args.t (command.Backup c.args.backup.now c.args.snapshot.now) _ _ (on g c).goes c.requires.turn

pub loop-init : goal.loop-init
loop-init g c = record {
  serving = c.requires.serving;
  keeps = gives_none _;
  adds = λ tells. adds_none c.args.volume.now (g.T.Target.holds c.args.target.now);
  count = refl;
  last = refl;
}

pub try_backup-requires-clause-turn : goal.try_backup-requires-clause-turn
try_backup-requires-clause-turn g c =
    let k = turn_kept c.args.t (command.Backup c.args.backup.now c.args.snapshot.now) _ _ c.loop.invariant.keeps.goes c.requires.turn in
    (c.args.backup.now, c.args.snapshot.now, k.0, k.1)

pub try_backup-requires-clause-last : goal.try_backup-requires-clause-last
try_backup-requires-clause-last g c =
    last_still g.T.Target.tells _ _ c.args.volume.now _ _ c.loop.invariant.keeps.goes.own _ _ c.loop.invariant.last
    (ap (λ (m : Mine). m.entries) c.loop.invariant.keeps.goes.is) (λ tells. (c.loop.invariant.adds tells).blocks) c.requires.last

pub returns-in_err-tried-clause-err : goal.returns-in_err-tried-clause-err
returns-in_err-tried-clause-err g c =
    on_err c.from_residual.result (on g (goal.at.returns-in_err-tried-clause-err g c).After-try_backup).goes

pub end_backup-requires-clause-turn : goal.end_backup-requires-clause-turn
end_backup-requires-clause-turn g c =
    let k = turn g (goal.at.end_backup-requires-clause-turn g c).After-try_backup in
    (c.args.backup.now, c.args.snapshot.now, k.0, k.1)

-- it was answered
ends : (g : Over) (c : After-end_backup g) → is_ok c.end_backup.result ≡ true → (o : OwnCall)
    → HasBackup c.args.t c.args.backup.now c.args.snapshot.now o (g.C.CommandSteps.mine c.try_backup.new.steps)
    → EndsBackup c.args.snapshot.now o c.reply_of.result (g.C.BackupSteps.copies c.try_backup.new.steps)
    (g.C.CommandSteps.mine c.try_backup.new.steps) (g.C.CommandSteps.mine c.end_backup.new.self)
ends g c done o h = ok_of c.end_backup.result done c.end_backup.ensures.does.ok c.args.backup.now c.args.snapshot.now o h

pub returns-then-is_ok-clause-serving : goal.returns-then-is_ok-clause-serving
returns-then-is_ok-clause-serving g c =
    let at = goal.at.returns-then-is_ok-clause-serving g c in
    let done : is_ok c.end_backup.result ≡ true = search rules in
    let k = turn g at.After-try_backup in
    let s = (ends g at.After-end_backup done k.0 k.1).answers in
    serves_step g.C.CommandSteps.mine (record { steps = c.try_backup.new.steps; channels = c.try_backup.new.channels })
    c.end_backup.new.self c.end_backup.ensures.stands.ready
    (stays_answer (command.Backup c.args.backup.now c.args.snapshot.now) s.spot s.answer
    (entries_in (answer_placed s.spot s.answer ∷ [])) _ _ s.is (s.call ∙ k.1.call)) c.try_backup.ensures.serving

pub returns-then-is_ok-clause-ok : goal.returns-then-is_ok-clause-ok
returns-then-is_ok-clause-ok g c = λ o h.
    let at = goal.at.returns-then-is_ok-clause-ok g c in
    let done : is_ok c.end_backup.result ≡ true = search rules in
    let k = turn_at c.args.t (command.Backup c.args.backup.now c.args.snapshot.now) o _ _ (on g at.After-try_backup).goes h in
    backs_up g.T.Target.tells c.args.volume.now c.args.backup.now c.args.snapshot.now o c.in_ok-tried.tried c.reply_of.result
    c.finish.result _ _ _ _ _ _ _ _ _ _ (g.C.BackupSteps.copies c.try_backup.new.steps) c.reply_of.ensures c.finish.ensures.failed
    c.loop.invariant.adds c.loop.invariant.count c.loop.invariant.keeps.goes c.try_backup.ensures.keeps.goes
    c.in_ok-tried.ensures.ok (ends g at.After-end_backup done o k)

pub returns-then-is_ok-clause-last : goal.returns-then-is_ok-clause-last
returns-then-is_ok-clause-last g c =
    let at = goal.at.returns-then-is_ok-clause-last g c in
    let done : is_ok c.end_backup.result ≡ true = search rules in
    let k = turn g at.After-try_backup in
    let tries = c.in_ok-tried.ensures.ok in
    let goes = (on g at.After-try_backup).goes in
    last_ends g.T.Target.tells (g.T.Target.holds c.loop.target) (g.T.Target.holds c.try_backup.new.target) c.args.volume.now
    c.args.snapshot.now k.0 c.in_ok-tried.tried c.reply_of.result (g.C.BackupSteps.copies c.try_backup.new.steps)
    (g.C.CommandSteps.mine c.try_backup.new.steps) (g.C.CommandSteps.mine c.end_backup.new.self) c.loop.last c.finish.new.last
    c.finish.ensures.last tries.live tries.list (ends g at.After-end_backup done k.0 k.1)
    (λ so. (tries.store so).keeps.blocks)
    (last_still g.T.Target.tells _ _ c.args.volume.now _ _ goes.own _ _ c.loop.invariant.last
    (ap (λ (m : Mine). m.entries) goes.is) (λ tells. (c.loop.invariant.adds tells).blocks) c.requires.last)

pub loop-preserved-else-is_ok : goal.loop-preserved-else-is_ok
loop-preserved-else-is_ok g c =
    let at = goal.at.loop-preserved-else-is_ok g c in
    let failed : is_ok c.end_backup.result ≡ false = search rules in
    let k = turn g at.After-try_backup in
    let tries = c.in_ok-tried.ensures.ok in
    let same = err_of c.end_backup.result failed c.end_backup.ensures.does.err in
    let against = err_of c.end_backup.result failed c.end_backup.ensures.does.why c.args.backup.now c.args.snapshot.now k.0 k.1 in
    let not = retried c.in_ok-tried.tried c.args.snapshot.now (g.C.BackupSteps.copies c.try_backup.new.steps)
    (g.C.BackupSteps.copies c.end_backup.new.self) (g.C.CommandSteps.modes c.end_backup.new.self) c.end_backup.ensures.kept tries.live
    (subst (λ r. RefusesEndBackup c.args.snapshot.now r (g.C.BackupSteps.copies c.end_backup.new.self)
    (g.C.CommandSteps.modes c.end_backup.new.self)) c.reply_of.ensures against) in
    record {
      serving = serves_step g.C.CommandSteps.mine (record { steps = c.try_backup.new.steps; channels = c.try_backup.new.channels })
          c.end_backup.new.self c.end_backup.ensures.stands.ready (stays_same _ _ same) c.try_backup.ensures.serving;
      keeps = gives_then _ _ _ (on g at.After-try_backup)
          (gives_step (record { steps = c.try_backup.new.steps; channels = c.try_backup.new.channels }) c.end_backup.new.self
          c.end_backup.ensures.stands.home same c.end_backup.ensures.kept);
      adds = λ so. adds_then c.args.volume.now _ _ _ (c.loop.invariant.adds so)
          (record { blocks = (tries.store so).keeps.blocks; others = (tries.store so).unmade not.0 not.1 });
      count = tries.count ∙ count_kept _ _ not.1 ∙ c.loop.invariant.count;
      last = c.loop.invariant.last;
    }

pub loop-preserved : goal.loop-preserved
loop-preserved g c =
    let at = goal.at.loop-preserved g c in
    let failed : is_ok c.end_backup.result ≡ false = search rules in
    let k = turn g at.After-try_backup in
    let tries = c.in_ok-tried.ensures.ok in
    let same = err_of c.end_backup.result failed c.end_backup.ensures.does.err in
    let against = err_of c.end_backup.result failed c.end_backup.ensures.does.why c.args.backup.now c.args.snapshot.now k.0 k.1 in
    let not = retried c.in_ok-tried.tried c.args.snapshot.now (g.C.BackupSteps.copies c.try_backup.new.steps)
    (g.C.BackupSteps.copies c.end_backup.new.self) (g.C.CommandSteps.modes c.end_backup.new.self) c.end_backup.ensures.kept tries.live
    (subst (λ r. RefusesEndBackup c.args.snapshot.now r (g.C.BackupSteps.copies c.end_backup.new.self)
    (g.C.CommandSteps.modes c.end_backup.new.self)) c.reply_of.ensures against) in
    record {
      serving = serves_step g.C.CommandSteps.mine (record { steps = c.try_backup.new.steps; channels = c.try_backup.new.channels })
          c.end_backup.new.self c.end_backup.ensures.stands.ready (stays_same _ _ same) c.try_backup.ensures.serving;
      keeps = gives_then _ _ _ (on g at.After-try_backup)
          (gives_step (record { steps = c.try_backup.new.steps; channels = c.try_backup.new.channels }) c.end_backup.new.self
          c.end_backup.ensures.stands.home same c.end_backup.ensures.kept);
      adds = λ so. adds_then c.args.volume.now _ _ _ (c.loop.invariant.adds so)
          (record { blocks = (tries.store so).keeps.blocks; others = (tries.store so).unmade not.0 not.1 });
      count = tries.count ∙ count_kept _ _ not.1 ∙ c.loop.invariant.count;
      last = c.loop.invariant.last;
    }
