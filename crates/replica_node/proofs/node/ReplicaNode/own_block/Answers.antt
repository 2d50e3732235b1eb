use Rattle.std.proofs.Common.{◌/◌, Some, None, sym, ap, subst, ◌∙◌}
use Rattle.sparse_image.specs.Image.{block_at}
use Rattle.replica_node.specs.Places.{IsPlace, block_of_place}
use Rattle.replica_node.proofs.PlaceLemmas.{own_of_place}
use Rattle.replica_node.proofs.node.ReplicaNode.own_block.Goals as goal

pub returns-in-Some-clause-value : goal.returns-in-Some-clause-value
returns-in-Some-clause-value c =
    let node = c.args.self.now in
    c.get.ensures.value ∙ ap (λ i. block_at i c.args.block) c.image.ensures
    ∙ sym (ap (λ p. block_of_place node p c.args.block) c.in-Some.is
    ∙ own_of_place c.self.inside.tree (c.self.inside.size / 4096) node (Some c.in-Some.place) c.args.block c.self.view_is
    c.self.invariant c.count-count.ensures.whole.layers (subst (IsPlace node) c.in-Some.is c.requires))

pub returns-in-None-clause-value : goal.returns-in-None-clause-value
returns-in-None-clause-value c =
    let node = c.args.self.now in
    c.get-in-None.ensures.value ∙ ap (λ i. block_at i c.args.block) c.head_image.ensures
    ∙ sym (ap (λ p. block_of_place node p c.args.block) c.in-None.is
    ∙ own_of_place c.self.inside.tree (c.self.inside.size / 4096) node None c.args.block c.self.view_is
    c.self.invariant c.count-count.ensures.whole.layers tt)
