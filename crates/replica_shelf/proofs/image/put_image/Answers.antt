use Rattle.std.proofs.Common.{rules, ◌+◌, arith}
use Rattle.replica_node.specs.Places.{disk_at, own_at}
use Rattle.replica_shelf.proofs.CallLemmas.{both_then, both_map}
use Rattle.replica_shelf.proofs.ImageLemmas.{holds_more, holds_on, image_is}
use Rattle.replica_shelf.proofs.image.put_image.Goals as goal

pub loop-block-preserved : goal.loop-block-preserved
loop-block-preserved g c =
    let disk = disk_at c.args.node.now c.args.place in
    let own = own_at c.args.node.now c.args.place in
    let now = g.S.Shelves.holds c.loop-block.shelves in
    let new = g.S.Shelves.holds c.put_block.new.shelves in
    record {
      held = both_then (g.S.Shelves.holds c.args.shelves.now) now new _ _ _ c.loop-block.invariant.held c.in_ok-put_block.ensures.ok
          (λ x y z before put. holds_on (z c.args.shelf) c.args.image.now disk own (c.loop-block.block + 1)
          c.next_own-block-in-loop-block.result c.next_own-block-in-loop-block.ensures
          (holds_more c.args.shelf c.args.image.now disk own c.loop-block.block y z
          (omega (arith, c.block_count-count.ensures.disk, c.loop-block-test)) before put));
      others = search rules;
      faults = search rules;
    }

pub returns-clause-ok : goal.returns-clause-ok
returns-clause-ok g c =
    let own = own_at c.args.node.now c.args.place in
    both_map (g.S.Shelves.holds c.args.shelves.now) (g.S.Shelves.holds c.loop-block.shelves) _ _ c.loop-block.invariant.held
    (λ x y held. image_is (y c.args.shelf) c.args.image.now (disk_at c.args.node.now c.args.place) own c.loop-block.block
    (omega (arith, c.block_count-count.ensures.own)) held)
