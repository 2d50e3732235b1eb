use Rattle.std.proofs.Common.{◌*◌, ◌/◌, ◌^◌, ◌<◌, length, sym, subst, arith}
use Rattle.replica_node.specs.Fold.{HasBlockIn, HasNoBlockIn}
use Rattle.replica_node.proofs.HasLemmas.{bare_absent, few_blocks, has_there, none_there_of}
use Rattle.replica_node.proofs.node.ReplicaNode.has_blocks.Goals as goal

pub has_block_of-requires-clause-few : goal.has_block_of-requires-clause-few
has_block_of-requires-clause-few c =
    subst (λ im. length im * 512 < 2 ^ 32) (sym c.image.ensures)
    (few_blocks c.self.inside.tree (c.self.inside.size / 4096) c.args.self.now c.in-Some.place c.self.view_is
    c.self.invariant c.in-Some.ensures.place.within
    (omega (arith, c.size-size.ensures.value, c.size-size.ensures.most)))

pub returns-in-Some-clause-some : goal.returns-in-Some-clause-some
returns-in-Some-clause-some c = λ found.
    has_there c.self.inside.tree (c.self.inside.size / 4096) c.args.self.now c.args.layer.now c.in-Some.place c.self.view_is
    c.self.invariant
    c.count-count.ensures.whole c.in-Some.ensures.place c.args.page
    (subst (λ im. HasBlockIn im c.args.page) c.image.ensures (c.has_block_of.ensures.some found))

pub returns-in-Some-clause-none : goal.returns-in-Some-clause-none
returns-in-Some-clause-none c = λ none.
    none_there_of c.self.inside.tree (c.self.inside.size / 4096) c.args.self.now c.args.layer.now c.in-Some.place
    c.self.view_is c.self.invariant
    c.count-count.ensures.whole c.in-Some.ensures.place c.args.page
    (subst (λ im. HasNoBlockIn im c.args.page) c.image.ensures (c.has_block_of.ensures.none none))

pub returns-in-None-clause-none : goal.returns-in-None-clause-none
returns-in-None-clause-none c = λ _ block _.
    bare_absent c.self.inside.tree (c.self.inside.size / 4096) c.args.self.now c.args.layer.now c.self.view_is c.in-None.ensures.place block
