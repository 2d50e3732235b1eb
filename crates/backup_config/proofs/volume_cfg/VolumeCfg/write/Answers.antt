use Rattle.backup_config.specs.VolumeCfgs.{volume_data}
use Rattle.backup_config.proofs.ShortLemmas.{short_volume, short_written}
use Rattle.backup_config.proofs.VolumeLemmas.{text_of, says_volume}
use Rattle.backup_config.proofs.volume_cfg.VolumeCfg.write.Goals as goal

pub returns-clause-text : goal.returns-clause-text
returns-clause-text c = text_of c.args.self.now _ c.to_vec.result c.in_ok-value.ensures.value c.to_vec.ensures.text

pub returns-clause-short : goal.returns-clause-short
returns-clause-short c =
    let few = short_volume c.args.self.now c.in_ok-value.ensures.good in
    short_written (volume_data c.args.self.now) c.to_vec.result (returns-clause-text c) few

pub returns-clause-reads_back : goal.returns-clause-reads_back
returns-clause-reads_back c =
    let value = c.in_ok-value.ensures in
    says_volume c.args.self.now _ c.to_vec.result value.value value.good c.to_vec.ensures.utf8 (returns-clause-short c)
    c.to_vec.ensures.reads_back
