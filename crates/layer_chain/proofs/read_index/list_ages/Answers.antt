use Rattle.std.proofs.Common.{◌++◌, ℕ, List, sym, ap, ◌∙◌, arith, vec_len, vec_capacity}
use Rattle.std.proofs.lemmas.List.{append-nil}
use Rattle.layer_chain.proofs.FoundLemmas.{ages-here, ages-past, ages-end}
use Rattle.layer_chain.proofs.read_index.list_ages.Goals as goal
use Rattle.layer_chain.proofs.read_index.list_ages.Goals.{then-is_wanted, else-is_wanted}

pub loop-place-preserved : goal.loop-place-preserved
loop-place-preserved c = elim c.if-is_wanted.branch [
  | then-is_wanted w ↦
      let here = ages-here c.args.layers.now c.loop-place.place c.index-layers-place.result c.loop-place.wanted
      (omega arith) c.index-layers-place.is c.loop-place.into.items (sym c.is_wanted.ensures ∙ w.if-is_wanted.true) in
      let items = rw w.unwrap.ensures at w.push.ensures.items in
      let before = c.loop-place.invariant in
      let same = before.ages in
      record {
        ages = cc;
        few = omega (arith, before.few, w.push.ensures.upper_bound, ap vec_len w.into-is);
        room = omega (arith, before.room, w.push.ensures.capacity, ap vec_capacity w.into-is);
      }
  | else-is_wanted w ↦
      let other = ages-past c.args.layers.now c.loop-place.place c.index-layers-place.result c.loop-place.wanted
      (omega arith) c.index-layers-place.is c.loop-place.into.items (sym c.is_wanted.ensures ∙ w.if-is_wanted.false) in
      let before = c.loop-place.invariant in
      let same = before.ages in
      record {
        ages = cc;
        few = omega (arith, before.few, ap vec_len w.into-is);
        room = omega (arith, before.room, ap vec_capacity w.into-is);
      }
]

pub returns-clause-ages : goal.returns-clause-ages
returns-clause-ages c =
    sym (append-nil c.loop-place.into.items)
    ∙ ap (λ (ns : List ℕ). c.loop-place.into.items ++ ns)
    (sym (ages-end c.args.layers.now c.loop-place.place c.loop-place.wanted (omega arith)))
    ∙ c.loop-place.invariant.ages
