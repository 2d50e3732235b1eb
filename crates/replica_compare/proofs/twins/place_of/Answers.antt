use Rattle.std.proofs.Common.{arith}
use Rattle.replica_compare.proofs.ShapeLemmas.{kept_place}
use Rattle.replica_compare.proofs.twins.place_of.Goals as goal

pub unreachable-requires : goal.unreachable-requires
unreachable-requires c =
    let at = kept_place c.args.node.now.layers c.args.name.now c.requires in
    c.loop-place.invariant at.0 (omega (arith, at.1, c.loop-place-test.false, c.layer_count-place-end.ensures.value)) at.2
