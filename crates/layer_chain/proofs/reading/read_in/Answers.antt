use Rattle.std.proofs.Common.{◌+◌, drop, Some, sym, ap, ◌∙◌, arith}
use Rattle.layer_chain.specs.Tree.{reads}
use Rattle.layer_chain.proofs.ReadLemmas.{step-found, step-parent, step-other, step-root, step-end}
use Rattle.layer_chain.proofs.reading.read_in.Goals as goal
use Rattle.layer_chain.proofs.reading.read_in.Goals.{then-is_named+in_default+in-Some-parent, else-is_named}

pub returns-in-Some-clause-value : goal.returns-in-Some-clause-value
returns-in-Some-clause-value c =
    sym (step-found c.args.layers.now c.loop-layer.layer-index c.layer-item.result c.loop-layer.want.now (omega arith)
    c.layer-item.is c.args.block c.in-Some.found.now (sym c.is_named.ensures ∙ c.if-is_named.true)
    c.in-Some.ensures.value)
    ∙ c.loop-layer.invariant

pub returns-in-None-clause-value : goal.returns-in-None-clause-value
returns-in-None-clause-value c =
    let drop_here = drop (c.loop-layer.layer-index + 1) c.args.layers.now in
    sym (step-parent c.args.layers.now c.loop-layer.layer-index c.layer-item.result c.loop-layer.want.now (omega arith)
    c.layer-item.is c.args.block (sym c.is_named.ensures ∙ c.if-is_named.true) c.in_default.ensures.value
    ∙ ap (λ p. reads drop_here p c.args.block) c.in-None.is
    ∙ step-root drop_here c.args.block)
    ∙ c.loop-layer.invariant

pub loop-layer-preserved : goal.loop-layer-preserved
loop-layer-preserved c =
    let drop_here = drop (c.loop-layer.layer-index + 1) c.args.layers.now in
    elim c.if-is_named.branch [
      | then-is_named+in_default+in-Some-parent w ↦
          ap (λ n. reads drop_here (Some n.now) c.args.block) w.want-is
          ∙ sym (ap (λ p. reads drop_here p c.args.block) w.in-Some-parent.is)
          ∙ sym (step-parent c.args.layers.now c.loop-layer.layer-index c.layer-item.result c.loop-layer.want.now (omega arith)
          c.layer-item.is c.args.block (sym c.is_named.ensures ∙ w.if-is_named.true) w.in_default.ensures.value)
          ∙ c.loop-layer.invariant
      | else-is_named w ↦
          ap (λ n. reads drop_here (Some n.now) c.args.block) w.want-is
          ∙ sym (step-other c.args.layers.now c.loop-layer.layer-index c.layer-item.result c.loop-layer.want.now (omega arith)
          c.layer-item.is c.args.block (sym c.is_named.ensures ∙ w.if-is_named.false))
          ∙ c.loop-layer.invariant
    ]

pub returns-clause-value : goal.returns-clause-value
returns-clause-value c = sym (step-end c.args.layers.now c.loop-layer.layer-index c.args.block c.loop-layer.want.now (omega arith))
    ∙ c.loop-layer.invariant
