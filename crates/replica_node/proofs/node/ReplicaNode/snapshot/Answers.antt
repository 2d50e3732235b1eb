use Rattle.std.proofs.Common.{◌/◌, length, not, sym, ap, subst, ◌∙◌}
use Rattle.vol_units.specs.Name.{begins_sys}
use Rattle.replica_node.specs.Node.{node_of, IsNode, snapped_node}
use Rattle.replica_node.proofs.NodeLemmas.{free_in, spare_pages, node_of_snapped, snapped_whole}
use Rattle.replica_node.proofs.node.ReplicaNode.snapshot.Goals as goal

pub snapshot-requires-clause-new : goal.snapshot-requires-clause-new
snapshot-requires-clause-new c =
    free_in c.self.inside.tree (c.self.inside.size / 4096) c.args.self.now c.args.name c.self.view_is c.requires.free

pub invariant_of-self : goal.invariant_of-self
invariant_of-self c =
    let count = c.self.inside.size / 4096 in
    subst (λ t. IsNode t count) (sym c.snapshot.ensures.tree)
    (snapped_whole c.self.inside.tree count c.args.name (not (begins_sys c.args.name)) c.args.spare (length c.args.spare)
    c.self.invariant c.requires.spare.1
    (spare_pages c.self.inside.tree count c.args.self.now c.args.spare c.self.view_is c.requires.spare))

pub returns : goal.returns
returns c =
    let count = c.self.inside.size / 4096 in
    ap (λ t. node_of t count) c.snapshot.ensures.tree
    ∙ node_of_snapped c.self.inside.tree count c.args.name c.args.spare (length c.args.spare)
    (free_in c.self.inside.tree count c.args.self.now c.args.name c.self.view_is c.requires.free) c.requires.spare.1
    ∙ ap (λ n. snapped_node n c.args.name) c.self.view_is
