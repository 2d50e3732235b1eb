use Rattle.std.proofs.Common.{rules, arith, refl, ap}
use Rattle.stream_steps.specs.Mine.{Mine}
use Rattle.control_worker.specs.Store.{IsNoBackup}
use Rattle.control_worker.proofs.BackupLemmas.{last_still}
use Rattle.control_worker.proofs.StoreLemmas.{store_other}
use Rattle.control_worker.proofs.carrier.Carrier.answer_next.Goals as goal

pub returns : goal.returns
returns g c =
    let not : IsNoBackup c.args.command.now = search rules in
    let ok = c.in_ok-answer.ensures.ok in
    record {
      home = c.in_ok-answer.ensures.home;
      lines = c.answer.ensures.lines;
      ok = ok;
      last = last_still g.T.Target.tells _ _ c.args.volume.now _ _ ok.own _ _ refl (ap (λ (m : Mine). m.entries) ok.is)
          (λ so sum bytes h. h) c.requires.last;
      store = λ so first from far. store_other c.args.command.now not first from _ _ c.args.volume.now _ _ ok far;
      fault = refl;
      later = omega (arith);
      unasked = λ no. refl;
      err = tt;
    }
