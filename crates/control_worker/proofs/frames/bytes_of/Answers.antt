use Rattle.std.proofs.Common.{◌≤◌, length, subst, sym, ap}
use Rattle.vol_units.proofs.NameLemmas.{IsName-layer}
use Rattle.control_worker.proofs.frames.bytes_of.Goals as goal

pub returns-clause-few : goal.returns-clause-few
returns-clause-few c = subst (λ n. n ≤ 64) (ap length (sym c.as_bytes.ensures.value))
    (IsName-layer c.args.name.now c.as_bytes.ensures.name).most
