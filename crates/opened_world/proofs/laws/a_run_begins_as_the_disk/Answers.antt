use Rattle.std.proofs.Common.{ap}
use Rattle.replica_node.specs.Volume.{volume_of_node}
use Rattle.opened_world.proofs.OpensLemmas.{disk_is}
use Rattle.opened_world.proofs.laws.a_run_begins_as_the_disk.Goals as goal

pub returns : goal.returns
returns c size replicas source nodes reasons known = ap volume_of_node (disk_is size replicas source nodes reasons known)
