use Rattle.chain_meta.proofs.DiskLemmas.{only_disk}
use Rattle.chain_meta.proofs.disk_meta.DiskMeta.read.Goals as goal

pub returns-clause-only : goal.returns-clause-only
returns-clause-only c = only_disk c.args.bytes.now c.read_disk.result c.read_disk.ensures
