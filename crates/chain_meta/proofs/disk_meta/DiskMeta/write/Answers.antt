use Rattle.std.proofs.Common.{refl}
use Rattle.chain_meta.specs.DiskMetas.{disk_data}
use Rattle.chain_meta.proofs.DiskLemmas.{says_disk}
use Rattle.chain_meta.proofs.ShortLemmas.{short_disk, short_text}
use Rattle.chain_meta.proofs.disk_meta.DiskMeta.write.Goals as goal

pub returns-clause-reads_back : goal.returns-clause-reads_back
returns-clause-reads_back c =
    let value = c.in_ok-value.ensures in
    says_disk c.args.self.now _ c.to_vec.result value.value value.good c.to_vec.ensures.utf8 c.to_vec.ensures.reads_back

pub returns-clause-short : goal.returns-clause-short
returns-clause-short c =
    let value = c.in_ok-value.ensures in
    short_text _ (disk_data c.args.self.now) c.to_vec.result value.value refl (short_disk c.args.self.now value.good) c.to_vec.ensures.text
