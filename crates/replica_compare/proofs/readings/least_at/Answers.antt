use Rattle.std.proofs.Common.{◌≡◌, ◌+◌, ◌-◌, ◌<◌, None, Some, cond, length, slice_set, refl, sym, subst, ap, ◌∙◌, arith}
use Rattle.replica_node.specs.Places.{kept_at}
use Rattle.replica_compare.specs.Comparing.{comes_before}
use Rattle.replica_compare.specs.Least.{IsLesser}
use Rattle.replica_compare.specs.Blocks.{DiffersAt, TellsFrom}
use Rattle.replica_compare.proofs.ShapeLemmas.{least_step}
use Rattle.replica_compare.proofs.ReadLemmas.{tells_more, lesser_is}
use Rattle.replica_compare.proofs.readings.least_at.Goals as goal

pub reads_otherwise-other_here-requires-clause-told : goal.reads_otherwise-other_here-requires-clause-told
reads_otherwise-other_here-requires-clause-told c =
    let count = c.layer_count-count.result - 1 in
    let from : count - c.loop-done.done ≡ count - 1 - c.loop-done.done + 1 = omega (arith, c.loop-done-test.true) in
    subst (λ n. TellsFrom c.args.one.now c.args.other.now c.args.block n c.loop-done.differs) from c.loop-done.invariant.told

pub loop-done-preserved : goal.loop-done-preserved
loop-done-preserved c =
    let a = c.args.one.now in
    let b = c.args.other.now in
    let count = c.layer_count-count.result - 1 in
    let place = count - 1 - c.loop-done.done in
    let t = c.reads_otherwise-other_here.result in
    let differs = DiffersAt a b c.args.block in
    let within : place < length a.layers = omega (arith, c.loop-done-test.true, c.layer_count-count.ensures.value) in
    let from : count - c.loop-done.done ≡ place + 1 = omega (arith, c.loop-done-test.true) in
    let to : place ≡ count - (c.loop-done.done + 1) = omega (arith, c.loop-done-test.true) in
    let lesser : IsLesser differs (kept_at a.layers place).meta.name c.loop-done.best c.lesser_of-best.result =
    subst (λ r. IsLesser differs (kept_at a.layers place).meta.name c.loop-done.best r)
    (sym (c.lesser_of-best.ensures ∙ ap (λ m. cond t (cond (comes_before m.name c.loop-done.best)
    (Some m.name) c.loop-done.best) c.loop-done.best) c.meta.ensures))
    (lesser_is differs t (kept_at a.layers place).meta.name c.loop-done.best c.reads_otherwise-other_here.ensures) in
    record {
      told = subst (λ n. TellsFrom a b c.args.block n (slice_set c.loop-done.differs place t)) to
          (tells_more a b c.args.block place c.loop-done.differs t within c.reads_otherwise-other_here.ensures
          (subst (λ n. TellsFrom a b c.args.block n c.loop-done.differs) from c.loop-done.invariant.told));
      least = least_step differs a.layers count c.loop-done.done place None c.loop-done.best c.lesser_of-best.result
          c.loop-done-test.true refl lesser c.loop-done.invariant.least;
    }
