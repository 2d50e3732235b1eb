use Rattle.std.proofs.Common.{◌<◌, Some, length, sym, subst, arith}
use Rattle.replica_node.specs.Node.{IsKept}
use Rattle.replica_compare.proofs.ShapeLemmas.{place_kept, kept_other}
use Rattle.replica_compare.proofs.twins.find_twins.Goals as goal

pub place_of-requires : goal.place_of-requires
place_of-requires c =
    let a = c.args.one.now in
    let within : c.loop-place.place < length a.layers = omega
    (arith, c.layer_count-place-end.ensures.value, c.loop-place-test.true) in
    kept_other a c.args.other.now (Some c.meta.result.now.name) c.requires.alike
    (subst (λ m. IsKept a (Some m.name)) (sym c.meta.ensures) (place_kept a c.loop-place.place within))
