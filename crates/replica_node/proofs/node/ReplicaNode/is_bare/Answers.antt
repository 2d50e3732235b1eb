use Rattle.std.proofs.Common.{◌≡◌, ℕ, ◌*◌, ◌/◌, ◌^◌, ◌<◌, false, is_some, length, sym, subst, arith}
use Rattle.sparse_image.specs.Image.{block_at}
use Rattle.replica_node.specs.Fold.{HasBlockIn}
use Rattle.replica_node.proofs.HasLemmas.{bare_absent, bare_there, few_blocks, has_there, not_false, not_true}
use Rattle.replica_node.proofs.node.ReplicaNode.is_bare.Goals as goal

pub has_block-requires-clause-few : goal.has_block-requires-clause-few
has_block-requires-clause-few c =
    subst (λ im. length im * 512 < 2 ^ 32) (sym c.image.ensures)
    (few_blocks c.self.inside.tree (c.self.inside.size / 4096) c.args.self.now c.in-Some.place c.self.view_is
    c.self.invariant c.in-Some.ensures.place.within
    (omega (arith, c.size-size.ensures.value, c.size-size.ensures.most)))

pub returns-in-Some-clause-bare : goal.returns-in-Some-clause-bare
returns-in-Some-clause-bare c = λ bare.
    bare_there c.self.inside.tree (c.self.inside.size / 4096) c.args.self.now c.args.layer.now c.in-Some.place
    c.self.view_is c.self.invariant
    c.count-count.ensures.whole c.in-Some.ensures.place
    (subst (λ im. (block : ℕ) → is_some (block_at im block) ≡ false) c.image.ensures
    (c.has_block.ensures.none (not_true c.has_block.result bare)))

pub returns-in-Some-clause-kept : goal.returns-in-Some-clause-kept
returns-in-Some-clause-kept c = λ kept.
    let found = c.has_block.ensures.some (not_false c.has_block.result kept) in (
      found.0,
      has_there c.self.inside.tree (c.self.inside.size / 4096) c.args.self.now c.args.layer.now c.in-Some.place
          c.self.view_is c.self.invariant
          c.count-count.ensures.whole c.in-Some.ensures.place found.0 (subst (λ im. HasBlockIn im found.0) c.image.ensures found.1),
    )

pub returns-in-None-clause-bare : goal.returns-in-None-clause-bare
returns-in-None-clause-bare c = λ _.
    bare_absent c.self.inside.tree (c.self.inside.size / 4096) c.args.self.now c.args.layer.now c.self.view_is c.in-None.ensures.place
