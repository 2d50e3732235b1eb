use Rattle.std.proofs.Common.{◌≡◌, ◌/◌, IfOk, ap, subst, ◌∙◌}
use Rattle.std.proofs.lemmas.Result.{IfOk-weaker}
use Rattle.layer_chain.specs.Tree.{marked_chain}
use Rattle.volume_model.specs.Snapshots.{chain_of}
use Rattle.replica_node.specs.Fold.{snapshots_of}
use Rattle.replica_node.proofs.ChainLemmas.{chain_told}
use Rattle.replica_node.proofs.node.ReplicaNode.chain.Goals as goal

pub returns : goal.returns
returns c = IfOk-weaker c.chain_of.result _ _
    (λ chain is. is ∙ chain_told c.self.inside.tree (c.self.inside.size / 4096) ∙ ap (λ n. chain_of (snapshots_of n)) c.self.view_is)
    (subst (λ on. IfOk c.chain_of.result (λ x. x.items ≡ marked_chain c.self.inside.tree.layers on))
    c.head_parent.ensures.on c.chain_of.ensures)
