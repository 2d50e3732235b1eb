use Rattle.std.proofs.Common.{◌≡◌, ap, ◌∙◌}
use Rattle.volume_model.specs.Names.{has_name}
use Rattle.replica_node.specs.Fold.{tree_of}
use Rattle.opened_world.specs.Opening.{disk_of}
use Rattle.opened_world.proofs.OpensLemmas.{disk_is, used_of_disk}
use Rattle.opened_world.proofs.laws.the_names_of_the_disk_are_used.Goals as goal

pub returns : goal.returns
returns c size replicas source nodes reasons name known =
    used_of_disk (disk_of nodes reasons) name
    ∙ ap (λ d. has_name (tree_of d) name) (disk_is size replicas source nodes reasons known)
