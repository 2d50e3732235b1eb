use Rattle.std.proofs.Common.{ap, sym, ◌∙◌, drop, List, ◌+◌}
use Rattle.serde_json.specs.View.{items_view}
use Rattle.backup_config.specs.Kinds.{blocks_of}
use Rattle.backup_config.specs.declared.list.ListedBlock.{ListedBlock}
use Rattle.backup_config.proofs.ListLemmas.{behind, blocks_more, blocks_none, blocks_end}
use Rattle.backup_config.proofs.members.blocks_of.Goals as goal

pub returns-in-None : goal.returns-in-None
returns-in-None c value there =
    blocks_none c.args.items.now c.loop-item.item-index c.item-item.result c.loop-item.listed.items c.loop-item-test.true
    c.item-item.is c.in-None.ensures c.loop-item.invariant value there

pub loop-item-preserved : goal.loop-item-preserved
loop-item-preserved c =
    let i = c.loop-item.item-index in
    blocks_more c.args.items.now i c.item-item.result c.loop-item.listed.items c.in-Some.block c.loop-item-test.true
    c.item-item.is c.in-Some.ensures c.loop-item.invariant
    ∙ ap (λ (front : List ListedBlock). behind front (blocks_of (items_view (drop (i + 1) c.args.items.now))))
    (sym c.in_ok-push-in-Some.ensures.items)

pub returns : goal.returns
returns c = blocks_end c.args.items.now c.loop-item.item-index c.loop-item.listed.items c.loop-item-test.false c.loop-item.invariant
