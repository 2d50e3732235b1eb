use Rattle.std.proofs.Common.{◌/◌, ◌*◌, ◌<◌, ◌^◌, Some, None, length, sym, subst, arith}
use Rattle.replica_node.specs.Fold.{HasBlockIn, HasNoBlockIn, HasOwnOf, HasNoOwnOf}
use Rattle.replica_node.specs.Places.{IsPlace, own_at}
use Rattle.replica_node.proofs.PlaceLemmas.{few_of_place, has_of_place, has_none_of_place}
use Rattle.replica_node.proofs.node.ReplicaNode.has_blocks_at.Goals as goal

pub has_block_of-requires-clause-few : goal.has_block_of-requires-clause-few
has_block_of-requires-clause-few c =
    let node = c.args.self.now in
    subst (λ im. length im * 512 < 2 ^ 32) (sym c.image.ensures)
    (few_of_place c.self.inside.tree (c.self.inside.size / 4096) node (Some c.in-Some.place) c.self.view_is c.self.invariant
    (subst (IsPlace node) c.in-Some.is c.requires) (omega (arith, c.size-size.ensures)))

pub has_block_of-requires-in-None-clause-few : goal.has_block_of-requires-in-None-clause-few
has_block_of-requires-in-None-clause-few c =
    subst (λ im. length im * 512 < 2 ^ 32) (sym c.head_image.ensures)
    (few_of_place c.self.inside.tree (c.self.inside.size / 4096) c.args.self.now None c.self.view_is c.self.invariant tt
    (omega (arith, c.size-size.ensures)))

pub returns-in-Some-clause-some : goal.returns-in-Some-clause-some
returns-in-Some-clause-some c = λ found.
    let node = c.args.self.now in
    subst (λ p. HasOwnOf (own_at node p) c.args.page) (sym c.in-Some.is)
    (has_of_place c.self.inside.tree (c.self.inside.size / 4096) node (Some c.in-Some.place) c.args.page c.self.view_is
    c.self.invariant (subst (IsPlace node) c.in-Some.is c.requires)
    (subst (λ im. HasBlockIn im c.args.page) c.image.ensures (c.has_block_of.ensures.some found)))

pub returns-in-Some-clause-none : goal.returns-in-Some-clause-none
returns-in-Some-clause-none c = λ none.
    let node = c.args.self.now in
    subst (λ p. HasNoOwnOf (own_at node p) c.args.page) (sym c.in-Some.is)
    (has_none_of_place c.self.inside.tree (c.self.inside.size / 4096) node (Some c.in-Some.place) c.args.page c.self.view_is
    c.self.invariant (subst (IsPlace node) c.in-Some.is c.requires)
    (subst (λ im. HasNoBlockIn im c.args.page) c.image.ensures (c.has_block_of.ensures.none none)))

pub returns-in-None-clause-some : goal.returns-in-None-clause-some
returns-in-None-clause-some c = λ found.
    let node = c.args.self.now in
    subst (λ p. HasOwnOf (own_at node p) c.args.page) (sym c.in-None.is)
    (has_of_place c.self.inside.tree (c.self.inside.size / 4096) node None c.args.page c.self.view_is c.self.invariant tt
    (subst (λ im. HasBlockIn im c.args.page) c.head_image.ensures (c.has_block_of-in-None.ensures.some found)))

pub returns-in-None-clause-none : goal.returns-in-None-clause-none
returns-in-None-clause-none c = λ none.
    let node = c.args.self.now in
    subst (λ p. HasNoOwnOf (own_at node p) c.args.page) (sym c.in-None.is)
    (has_none_of_place c.self.inside.tree (c.self.inside.size / 4096) node None c.args.page c.self.view_is c.self.invariant tt
    (subst (λ im. HasNoBlockIn im c.args.page) c.head_image.ensures (c.has_block_of-in-None.ensures.none none)))
