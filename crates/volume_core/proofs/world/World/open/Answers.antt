use Rattle.volume_core.specs.State.{state_of}
use Rattle.volume_core.proofs.Opens.{opened_sound}
use Rattle.volume_core.proofs.world.World.open.Goals as goal

pub returns-clause-sound : goal.returns-clause-sound
returns-clause-sound c =
    opened_sound c.args.size c.args.streams c.args.opening c.args.nodes.items (state_of c.in_ok-world.world) c.requires
    c.in_ok-world.ensures.begun c.in_ok-world.ensures.copies
