use Rattle.std.proofs.Common.{◌≡◌, rules, refl, subst, None}
use Rattle.backup_restore.specs.Errors.{name_of}
use Rattle.backup_restore.specs.ReadCfg.{IsGot}
use Rattle.backup_restore.proofs.CfgLemmas.{not_there, got_held}
use Rattle.backup_restore.proofs.cfg.get_cfg.Goals as goal

pub returns-in-Ok-None-clause-refused : goal.returns-in-Ok-None-clause-refused
returns-in-Ok-None-clause-refused g c t =
    let same : c.deref.result.now ≡ name_of c.args.volume.now c.args.object.now = search rules in (
      refl,
      refl,
      subst (λ name. g.T.Target.holds c.args.target.now name ≡ None) same
          (not_there (g.T.Target.holds c.args.target.now c.deref.result.now) c.in-Ok-None.field-0 (search rules)
          (c.in-Ok-None.ensures.bytes t)),
    )

pub returns-clause-bytes : goal.returns-clause-bytes
returns-clause-bytes g c t =
    let same : c.deref.result.now ≡ name_of c.args.volume.now c.args.object.now = search rules in
    subst (λ name. IsGot (g.T.Target.holds c.args.target.now name) c.in-Ok-Some.bytes.items) same
    (got_held (g.T.Target.holds c.args.target.now c.deref.result.now) c.in-Ok-Some.field-0 c.in-Ok-Some.bytes c.in-Ok-Some.field-0-is
    (c.in-Ok-Some.ensures.bytes t))
