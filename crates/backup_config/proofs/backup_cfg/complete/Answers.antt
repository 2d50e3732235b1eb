use Rattle.std.proofs.Common.{◌*◌, length, sym, ap, subst, ◌∙◌, rules}
use Rattle.vol_units.specs.Size.{IsVolumeSize}
use Rattle.backup_config.proofs.ListLemmas.{pages_length}
use Rattle.backup_config.proofs.backup_cfg.complete.Goals as goal

pub new-requires : goal.new-requires
new-requires c =
    let count = ap length c.in_ok-blocks.ensures ∙ pages_length c.page_count.result _ in
    subst IsVolumeSize (sym (ap (λ n. n * 2097152) count ∙ c.page_count.ensures)) (c.requires.size c.in_ok-size.size (search rules))
