use Rattle.std.proofs.Common.{◌≡◌, ℕ, ◌<◌, ◌++◌, map, drop, get_or, None}
use Rattle.serde_json.specs.View.{view}
use Rattle.backup_config.specs.Lists.{listed_from, IsEntry}
use Rattle.backup_config.specs.BackupCfgs.{block_data}
use Rattle.backup_config.proofs.backup_cfg.block_values.Given as goal

abbrev pub invariant-loop-page : goal.invariant-loop-page
invariant-loop-page l = record {
  so_far : map view l.values.items ++ map block_data (listed_from l.page (drop l.page l.blocks)) ≡ map block_data (listed_from 0 l.blocks);
  good : (p : ℕ) → p < l.page → IsEntry (get_or l.blocks p None);
}
