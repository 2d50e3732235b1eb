use Rattle.std.proofs.Common.{None}
use Rattle.std.proofs.lemmas.Map.Text.{btree_map_updates_text}
use Rattle.target_memory.proofs.ObjectLemmas.{becomes}
use Rattle.target_memory.proofs.no_fault_target.NoFaultTarget.take_away.Goals as goal

pub returns : goal.returns
returns c =
    let old = c.args.self.now.objects in
    let new = c.remove.new.self in
    becomes c.args.name.now old new None (btree_map_updates_text c.args.name.now old new None c.remove.ensures.updates)
