use Rattle.std.proofs.Common.{rules, ◌<◌, ◌≤◌, length, take, subst, arith}
use Rattle.std.proofs.lemmas.List.{take_all}
use Rattle.open_rebuild.specs.Frozen.{AreFrozen}
use Rattle.open_rebuild.proofs.FrozenLemmas.{added_read, added_own}
use Rattle.open_rebuild.proofs.frozen_layers.FrozenLayers.behind.Goals as goal

pub loop-layer-preserved : goal.loop-layer-preserved
loop-layer-preserved c =
    let was = c.loop-layer.invariant in
    let adds = c.in_ok-add.ensures in
    let inside : c.loop-layer.layer-index < length c.args.layers.now = search rules in (
      adds.order,
      omega (arith, adds.few, was.1),
      added_read c.args.layers.now c.loop-layer.names.items c.add.new.names.items c.loop-layer.layer-index
          c.layer-item.result inside c.layer-item.is was.2 adds,
    )

pub returns : goal.returns
returns c =
    let was = c.loop-layer.invariant in
    let adds = c.in_ok-add-2.ensures in
    let past : length c.args.layers.now ≤ c.loop-layer.layer-index = omega (arith, c.loop-layer-test.false) in (
      subst (λ ns. AreFrozen ns c.args.own c.add-2.new.names.items) (take_all c.loop-layer.layer-index c.args.layers.now past)
          (added_own (take c.loop-layer.layer-index c.args.layers.now) c.loop-layer.names.items c.add-2.new.names.items
          c.args.own was.2 adds),
      adds.order,
      omega (arith, adds.few, was.1, c.loop-layer-test.false),
    )
