use Rattle.chain_meta.proofs.VolumeLemmas.{only_volume}
use Rattle.chain_meta.proofs.volume_meta.VolumeMeta.read.Goals as goal

pub returns-clause-only : goal.returns-clause-only
returns-clause-only c = only_volume c.args.bytes.now c.read_volume.result c.read_volume.ensures
