use Rattle.backup_config.proofs.MemberLemmas.{only_volume}
use Rattle.backup_config.proofs.volume_cfg.VolumeCfg.read.Goals as goal

pub returns-clause-only : goal.returns-clause-only
returns-clause-only c = only_volume c.args.volume.now c.args.bytes.now c.read_volume.result c.read_volume.ensures
