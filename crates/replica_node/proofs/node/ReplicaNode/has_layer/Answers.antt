use Rattle.std.proofs.Common.{◌/◌}
use Rattle.replica_node.proofs.NodeLemmas.{is_free, is_kept, found_there, not_found}
use Rattle.replica_node.proofs.node.ReplicaNode.has_layer.Goals as goal

pub returns-clause-kept : goal.returns-clause-kept
returns-clause-kept c = λ found.
    let t = c.self.inside.tree in
    is_kept t (c.self.inside.size / 4096) c.args.self.now c.args.name.now c.self.view_is
    (found_there t.layers c.args.name.now c.index_of.result c.is_some.result c.is_some.ensures found c.index_of.ensures.there)

pub returns-clause-free : goal.returns-clause-free
returns-clause-free c = λ absent.
    let t = c.self.inside.tree in
    is_free t (c.self.inside.size / 4096) c.args.self.now c.args.name.now c.self.view_is
    (not_found t.layers c.args.name.now c.index_of.result c.is_some.result c.is_some.ensures absent c.index_of.ensures.place)
