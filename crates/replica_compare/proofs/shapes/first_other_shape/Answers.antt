use Rattle.std.proofs.Common.{inl, ◌∙◌, sym}
use Rattle.replica_compare.proofs.ShapeLemmas.{names_differ, names_same}
use Rattle.replica_compare.proofs.shapes.first_other_shape.Goals as goal

pub returns-then-ne : goal.returns-then-ne
returns-then-ne c = (
  c.in_default.ensures,
  inl ((names_differ c.ne.result c.head_parent.result c.head_parent-2.result c.args.one.now.on c.args.other.now.on
      c.ne.ensures c.head_parent.ensures.on c.head_parent-2.ensures.on).0 c.if-ne.true),
)

pub returns : goal.returns
returns c = record {
  layers = c.in_default.ensures;
  on = names_same c.ne.result c.head_parent.result c.head_parent-2.result c.args.one.now.on c.args.other.now.on
      c.ne.ensures c.head_parent.ensures.on c.head_parent-2.ensures.on c.if-ne.false;
  number = sym c.head_number.ensures ∙ c.if-head_number.false ∙ c.head_number-2.ensures;
  size = sym c.size.ensures.value ∙ c.if-size.false ∙ c.size-2.ensures.value;
}
