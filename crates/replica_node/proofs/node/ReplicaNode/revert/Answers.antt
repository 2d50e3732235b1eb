use Rattle.std.proofs.Common.{◌/◌, length, sym, ap, subst, ◌∙◌}
use Rattle.replica_node.specs.Node.{node_of, IsNode, reverted_node}
use Rattle.replica_node.proofs.NodeLemmas.{there_in, spare_pages, node_of_reverted, reverted_whole}
use Rattle.replica_node.proofs.node.ReplicaNode.revert.Goals as goal

pub revert-requires-clause-there : goal.revert-requires-clause-there
revert-requires-clause-there c =
    there_in c.self.inside.tree (c.self.inside.size / 4096) c.args.self.now c.args.name c.self.view_is c.requires.kept

pub invariant_of-self : goal.invariant_of-self
invariant_of-self c =
    let count = c.self.inside.size / 4096 in
    subst (λ t. IsNode t count) (sym c.revert.ensures.tree)
    (reverted_whole c.self.inside.tree count c.args.name c.args.spare (length c.args.spare) c.self.invariant c.requires.spare.1
    (spare_pages c.self.inside.tree count c.args.self.now c.args.spare c.self.view_is c.requires.spare))

pub returns : goal.returns
returns c =
    let count = c.self.inside.size / 4096 in
    ap (λ t. node_of t count) c.revert.ensures.tree
    ∙ node_of_reverted c.self.inside.tree count c.args.name c.args.spare (length c.args.spare)
    (there_in c.self.inside.tree count c.args.self.now c.args.name c.self.view_is c.requires.kept) c.requires.spare.1
    ∙ ap (λ n. reverted_node n c.args.name) c.self.view_is
