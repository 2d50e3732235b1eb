use Rattle.std.proofs.Common.{◌≡◌, drop}
use Rattle.serde_json.specs.View.{items_view}
use Rattle.backup_config.specs.Kinds.{blocks_of}
use Rattle.backup_config.proofs.ListLemmas.{behind}
use Rattle.backup_config.proofs.members.blocks_of.Given as goal

abbrev pub invariant-loop-item : goal.invariant-loop-item
invariant-loop-item l =
    blocks_of (items_view l.items) ≡ behind l.listed.items (blocks_of (items_view (drop l.item-index l.items)))
