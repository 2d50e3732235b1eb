use Rattle.backup_config.proofs.MemberLemmas.{only_backup}
use Rattle.backup_config.proofs.backup_cfg.BackupCfg.read.Goals as goal

pub returns-clause-only : goal.returns-clause-only
returns-clause-only c =
    only_backup c.args.volume.now c.args.backup.now c.args.disk c.args.bytes.now c.read_backup.result c.read_backup.ensures
