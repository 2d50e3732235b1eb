use Rattle.std.proofs.Common.{◌≡◌, ◌≢◌, rules, sym, subst, Ok, Err, None, Some}
use Rattle.backup_units.specs.Names.{volume_name, cfg_name}
use Rattle.backup_config.specs.BackupCfgs.{SaysBackup}
use Rattle.backup_config.specs.declared.error.CfgError.TheVariants.{Missing}
use Rattle.backup_config.specs.declared.error.CfgMember.TheVariants.{DiskSize}
use Rattle.backup_restore.specs.ReadCfg.{AnswersCfg, AnswersSize, IsGot, error_of_cfg}
use Rattle.backup_restore.specs.declared.error.StoredObject.TheVariants as stored
use Rattle.backup_restore.proofs.CfgLemmas.{told_none, told_size, cfg_answered, cfg_refused}
use Rattle.backup_restore.proofs.cfg.read_cfg.Goals as goal

pub returns-in-Ok-read-clause-answer : goal.returns-in-Ok-read-clause-answer
returns-in-Ok-read-clause-answer g c t =
    let objects = g.T.Target.holds c.args.target.now in
    let volume = c.args.volume.now in
    let backup = c.args.backup.now in
    let first : c.in_ok-bytes.bytes.items ≡ c.deref.result.now = search rules in
    let second : c.in_ok-bytes.bytes.items ≡ c.deref-in-Err-Missing-DiskSize.result.now = search rules in
    let lacks : c.read.result ≡ Err (Missing DiskSize) = search rules in
    let size = c.in_ok-size-in-Err-Missing-DiskSize.size in
    let got = c.in_ok-bytes.ensures.bytes t in
    let is_told = told_size objects volume backup c.deref.result.now size (subst (IsGot (objects (cfg_name volume backup))) first got)
    (subst (SaysBackup volume backup None c.deref.result.now) lacks c.read.ensures.says)
    (subst (λ o. AnswersSize (o (volume_name volume)) volume (Ok size)) c.get_cfg.ensures.same
    (c.in_ok-size-in-Err-Missing-DiskSize.ensures.answer t)) in
    cfg_answered objects volume backup c.deref-in-Err-Missing-DiskSize.result.now (Some size) c.in-Ok-read.cfg
    (subst (IsGot (objects (cfg_name volume backup))) second got) is_told c.in-Ok-read.ensures.says

pub returns-in-Err-Missing-DiskSize-clause-answer :
    goal.returns-in-Err-Missing-DiskSize-clause-answer
returns-in-Err-Missing-DiskSize-clause-answer g c t =
    let objects = g.T.Target.holds c.args.target.now in
    let volume = c.args.volume.now in
    let backup = c.args.backup.now in
    let first : c.in_ok-bytes.bytes.items ≡ c.deref.result.now = search rules in
    let second : c.in_ok-bytes.bytes.items ≡ c.deref-in-Err-Missing-DiskSize.result.now = search rules in
    let lacks : c.read.result ≡ Err (Missing DiskSize) = search rules in
    let size = c.in_ok-size-in-Err-Missing-DiskSize.size in
    let got = c.in_ok-bytes.ensures.bytes t in
    let is_told = told_size objects volume backup c.deref.result.now size (subst (IsGot (objects (cfg_name volume backup))) first got)
    (subst (SaysBackup volume backup None c.deref.result.now) lacks c.read.ensures.says)
    (subst (λ o. AnswersSize (o (volume_name volume)) volume (Ok size)) c.get_cfg.ensures.same
    (c.in_ok-size-in-Err-Missing-DiskSize.ensures.answer t)) in
    subst (λ e. AnswersCfg objects volume backup (Err e)) (sym c.error_of_cfg.ensures)
    (cfg_refused objects volume backup c.deref-in-Err-Missing-DiskSize.result.now (Some size) c.in-Err-read.e
    (subst (IsGot (objects (cfg_name volume backup))) second got) (λ memory. is_told) c.in-Err-read.ensures.says)

pub returns-clause-answer : goal.returns-clause-answer
returns-clause-answer g c t =
    let objects = g.T.Target.holds c.args.target.now in
    let volume = c.args.volume.now in
    let backup = c.args.backup.now in
    let now = c.deref.result.now in
    let first : c.in_ok-bytes.bytes.items ≡ now = search rules in
    let got = subst (IsGot (objects (cfg_name volume backup))) first (c.in_ok-bytes.ensures.bytes t) in
    let another : c.read.result ≢ Err (Missing DiskSize) = search rules in
    let same : error_of_cfg (stored.BackupCfg backup) c.in-Err.e ≡ c.error_of_cfg-in-Err.result = search rules in
    subst (λ e. AnswersCfg objects volume backup (Err e)) same
    (cfg_refused objects volume backup now None c.in-Err.e got
    (λ memory. told_none objects volume backup now c.read.result got c.read.ensures.only another (λ e. memory (search rules)))
    c.in-Err.ensures.says)
