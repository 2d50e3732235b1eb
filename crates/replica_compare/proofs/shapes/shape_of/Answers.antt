use Rattle.std.proofs.Common.{◌<◌, ◌∙◌, Some, arith, length, sym, ap}
use Rattle.std.proofs.lemmas.Bool.{false≢true}
use Rattle.std.proofs.lemmas.Slice.Eq.{bytes_eq-Decides}
use Rattle.replica_compare.proofs.ShapeLemmas.{shape_found, shape_next}
use Rattle.replica_compare.proofs.shapes.shape_of.Goals as goal

pub returns-then-eq : goal.returns-then-eq
returns-then-eq c =
    let within : c.loop-place.place < length c.args.node.now.layers = omega (arith, c.layer_count-place-end.ensures.value) in
    sym (shape_found c.args.node.now.layers c.loop-place.place c.args.name.now within c.loop-place.invariant
    (ap (λ m. m.name) (sym c.meta-meta.ensures) ∙ (bytes_eq-Decides _ _).0 (sym c.eq.ensures ∙ c.if-eq.true))
    ∙ ap (λ m. Some (m.parent, m.marked)) (sym c.meta-meta.ensures))

pub loop-place-preserved : goal.loop-place-preserved
loop-place-preserved c =
    let within : c.loop-place.place < length c.args.node.now.layers = omega (arith, c.layer_count-place-end.ensures.value) in
    shape_next c.args.node.now.layers c.loop-place.place c.args.name.now within c.loop-place.invariant
    (λ same. false≢true (sym c.if-eq.false ∙ c.eq.ensures ∙ (bytes_eq-Decides _ _).1 (ap (λ m. m.name) c.meta-meta.ensures ∙ same)))
