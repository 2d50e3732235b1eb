use Rattle.std.proofs.Common.{arith}
use Rattle.replica_node.specs.Places.{disk_at, own_at}
use Rattle.replica_shelf.proofs.ImageLemmas.{empty_is}
use Rattle.replica_shelf.proofs.image.put_empty.Goals as goal

pub returns-clause-ok : goal.returns-clause-ok
returns-clause-ok g c =
    let place = c.args.place in
    empty_is c.set_len.result c.args.shelf c.args.image.now (disk_at c.args.node.now place) (own_at c.args.node.now place)
    c.block_count-count.result c.size.result (g.S.Shelves.holds c.args.shelves.now) (g.S.Shelves.holds c.remove.new.self)
    (g.S.Shelves.holds c.set_len.new.self) c.block_count-count.ensures.own c.block_count-count.ensures.disk
    (omega (arith, c.size.ensures.value, c.block_count-count.ensures)) c.in_ok-remove.ensures.ok c.set_len.ensures.ok
