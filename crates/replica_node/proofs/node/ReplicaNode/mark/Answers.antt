use Rattle.std.proofs.Common.{◌/◌, sym, ap, subst, ◌∙◌}
use Rattle.replica_node.specs.Node.{node_of, IsNode, marked}
use Rattle.replica_node.proofs.NodeLemmas.{there_in, marked_node, marked_whole}
use Rattle.replica_node.proofs.node.ReplicaNode.mark.Goals as goal

pub mark-requires : goal.mark-requires
mark-requires c = there_in c.self.inside.tree (c.self.inside.size / 4096) c.args.self.now c.args.name c.self.view_is c.requires

pub invariant_of-self : goal.invariant_of-self
invariant_of-self c =
    let count = c.self.inside.size / 4096 in
    let m = c.mark.ensures in
    subst (λ t. IsNode t count) (sym m.marked) (marked_whole c.self.inside.tree count m.place m.at.within c.self.invariant)

pub returns : goal.returns
returns c =
    let count = c.self.inside.size / 4096 in
    let m = c.mark.ensures in
    ap (λ t. node_of t count) m.marked
    ∙ marked_node c.self.inside.tree count c.args.name m.place c.count-count.ensures.whole.layers m.at
    ∙ ap (λ n. marked n c.args.name) c.self.view_is
