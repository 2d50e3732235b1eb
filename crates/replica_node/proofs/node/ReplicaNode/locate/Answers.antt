use Rattle.std.proofs.Common.{◌/◌, sym, subst, ◌∙◌}
use Rattle.layer_chain.specs.Tree.{Tree}
use Rattle.replica_node.specs.Node.{IsNode}
use Rattle.replica_node.proofs.ReadLemmas.{none_zeros}
use Rattle.replica_node.proofs.node.ReplicaNode.locate.Goals as goal

pub invariant_of-self : goal.invariant_of-self
invariant_of-self c =
    subst (λ (t : Tree). IsNode t (c.self.inside.size / 4096)) (sym c.locate.ensures.same) c.self.invariant

pub returns-in-None-clause-zeros : goal.returns-in-None-clause-zeros
returns-in-None-clause-zeros c = λ none.
    rw c.in-None.is (none_zeros c.self.inside.tree (c.self.inside.size / 4096) c.args.self.now c.args.block c.self.view_is
    c.self.invariant c.requires.inside (sym c.locate.ensures.there ∙ none))
