use Rattle.packed_bytes.proofs.PlaceLemmas.{place_put}
use Rattle.packed_tables.proofs.lists.put.Goals as goal

pub returns : goal.returns
returns c =
    let there = place_put c.reserve.new.self.items c.args.list.now c.requires in
    rw (c.put_packed.ensures.items, c.put_packed.ensures.place) there
