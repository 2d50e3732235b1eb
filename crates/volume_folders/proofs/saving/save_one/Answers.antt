use Rattle.std.proofs.Common.{◌≡◌, ◌∙◌, sym, ap, arith}
use Rattle.std.proofs.lemmas.List.{get_or_default}
use Rattle.replica_node.specs.Node.{blank}
use Rattle.open_calls.specs.Calls.{node_at}
use Rattle.volume_folders.specs.Saved.{is_failed}
use Rattle.volume_folders.proofs.SavedLemmas.{stamps_are, saved_now}
use Rattle.volume_folders.proofs.saving.save_one.Goals as goal

pub returns-clause-ok : goal.returns-clause-ok
returns-clause-ok g c =
    let nodes = c.args.nodes.now in
    let shelf = c.args.shelf in
    let node = c.index-nodes-from.result in
    let at : node_at nodes shelf ≡ node =
    ap (node_at nodes) (sym c.from.ensures) ∙ get_or_default nodes c.from.result (blank 0) node (omega arith) ∙ sym c.index-nodes-from.is in
    saved_now c.save.result shelf c.args.time.now c.args.heads.now c.args.modes.now nodes _ c.is_failed.result node
    (g.S.Shelves.holds c.args.shelves.now) (g.S.Shelves.holds c.save.new.shelves) at
    (stamps_are _ _ _ _ c.in_ok-same_time.ensures c.in_ok-head_meta.ensures) (c.is_failed.ensures ∙ ap is_failed c.of.ensures)
    c.learn_replica.ensures c.save.ensures.ok c.save.ensures.files
