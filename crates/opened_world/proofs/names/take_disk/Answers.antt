use Rattle.std.proofs.Common.{◌-◌, arith}
use Rattle.opened_world.proofs.StepLemmas.{disk_more}
use Rattle.opened_world.proofs.names.take_disk.Goals as goal

pub loop-place-preserved : goal.loop-place-preserved
loop-place-preserved c =
    disk_more c.args.disk.now c.loop-place.place (c.loop-place.place - 1) c.meta-layer.result.now c.loop-place.names _
    (omega (arith, c.loop-place-test.true)) (omega (arith, c.loop-place.auto.place, c.layer_count-place.ensures.value))
    c.meta-layer.ensures c.loop-place.invariant c.in_ok-take_found.ensures.ok
