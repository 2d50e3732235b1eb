use Rattle.std.proofs.Common.{◌/◌, length, ap, ◌∙◌, arith}
use Rattle.sparse_image.proofs.ListedLemmas.{length-listed}
use Rattle.replica_node.proofs.RoomLemmas.{end_within, has_pages}
use Rattle.replica_node.proofs.WriteLemmas.{put_blocks, head_blocks_are}
use Rattle.replica_node.proofs.node.ReplicaNode.write_blocks.Goals as goal

pub swap_into-requires-clause-pages : goal.swap_into-requires-clause-pages
swap_into-requires-clause-pages c =
    let count = c.self.inside.size / 4096 in
    let inside = end_within c.self.inside.tree count c.args.self.now c.args.range.end c.self.view_is c.self.invariant c.requires.inside in
    let pages = has_pages c.self.inside.tree count c.args.self.now c.args.range c.self.view_is inside c.requires.room in
    λ block is. pages block (is.0, omega (arith, is.1, c.requires.count))

pub swap_into-requires-clause-inside : goal.swap_into-requires-clause-inside
swap_into-requires-clause-inside c =
    let inside = end_within c.self.inside.tree (c.self.inside.size / 4096) c.args.self.now c.args.range.end c.self.view_is
    c.self.invariant c.requires.inside in
    omega (arith, inside, c.requires.count, c.self.invariant.pages)

pub returns-clause-put : goal.returns-clause-put
returns-clause-put c =
    put_blocks c.self.inside.tree c.swap_into.new.tree (c.self.inside.size / 4096) c.args.self.now c.args.range.first c.args.blocks.now
    c.self.view_is c.self.invariant c.swap_into.ensures.puts

pub returns-clause-back : goal.returns-clause-back
returns-clause-back c =
    let count = c.self.inside.size / 4096 in
    let inside = end_within c.self.inside.tree count c.args.self.now c.args.range.end c.self.view_is c.self.invariant c.requires.inside in
    c.swap_into.ensures.back
    ∙ head_blocks_are c.self.inside.tree count c.args.self.now c.args.range.first _ c.self.view_is c.self.invariant
    (omega (arith, inside, c.requires.count))

pub returns-clause-count : goal.returns-clause-count
returns-clause-count c = ap length c.swap_into.ensures.back ∙ length-listed _ (length c.args.blocks.now)
