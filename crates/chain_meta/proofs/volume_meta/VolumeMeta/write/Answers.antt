use Rattle.std.proofs.Common.{refl}
use Rattle.chain_meta.specs.VolumeMetas.{volume_data}
use Rattle.chain_meta.proofs.ShortLemmas.{short_volume, short_text}
use Rattle.chain_meta.proofs.VolumeLemmas.{says_volume}
use Rattle.chain_meta.proofs.volume_meta.VolumeMeta.write.Goals as goal

pub returns-clause-reads_back : goal.returns-clause-reads_back
returns-clause-reads_back c =
    let value = c.in_ok-value.ensures in
    says_volume c.args.self.now _ c.to_vec.result value.value value.good.parent c.to_vec.ensures.utf8 c.to_vec.ensures.reads_back

pub returns-clause-short : goal.returns-clause-short
returns-clause-short c =
    let value = c.in_ok-value.ensures in
    let m = c.args.self.now in
    short_text _ (volume_data m) c.to_vec.result value.value refl (short_volume m value.good) c.to_vec.ensures.text
