use Rattle.std.proofs.Common.{◌/◌, ◌<◌, sym, ap, ◌∙◌, arith}
use Rattle.replica_node.specs.Node.{has_own}
use Rattle.replica_node.proofs.OwnLemmas.{own_at}
use Rattle.replica_node.proofs.ReadLemmas.{length-node}
use Rattle.replica_node.proofs.WriteLemmas.{overwritten}
use Rattle.replica_node.proofs.node.ReplicaNode.overwrite.Goals as goal

pub returns-clause-put : goal.returns-clause-put
returns-clause-put c = λ found.
    (overwritten c.self.inside.tree c.overwrite.new.self (c.self.inside.size / 4096) c.args.self.now c.args.block
    c.args.start c.args.bytes.now
    c.overwrite.result c.self.view_is c.self.invariant c.requires.inside c.requires.part c.overwrite.ensures.there found
    c.overwrite.ensures.changes c.overwrite.ensures.rest).1

pub returns-clause-there : goal.returns-clause-there
returns-clause-there c =
    let count = c.self.inside.size / 4096 in
    let within : c.args.block < count =
    omega (
      arith,
      length-node c.self.inside.tree count c.args.self.now c.self.view_is c.self.invariant,
      c.requires.inside,
    ) in
    c.overwrite.ensures.there
    ∙ sym (own_at c.self.inside.tree.head count c.args.block within)
    ∙ ap (λ n. has_own n.own c.args.block) c.self.view_is
