use Rattle.volume_core.specs.State.{state_of}
use Rattle.volume_maint.proofs.Barriers.{put_is}
use Rattle.volume_maint.proofs.barrier.put_barrier.Goals as goal

pub returns : goal.returns
returns c =
    put_is (state_of c.args.world.now) (state_of c.mark_added.new.world) (state_of c.replace.new.world)
    (state_of c.start_barrier.new.world) c.args.i c.args.rebuild c.args.blank c.args.spares
    c.mark_added.ensures c.replace.ensures c.start_barrier.ensures
