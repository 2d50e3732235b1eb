use Rattle.std.proofs.Common.{◌<◌, ◌+◌, drop, length, sym, ap, ◌∙◌, arith}
use Rattle.volume_model.specs.Names.{has_name}
use Rattle.replica_node.specs.Fold.{tree_of}
use Rattle.layer_pages.specs.Chains.{chain_in}
use Rattle.layer_pages.proofs.ChainLemmas.{chain_passes, found_here, found_below}
use Rattle.layer_pages.proofs.chain.is_over.Goals as goal
use Rattle.layer_pages.proofs.chain.is_over.Goals.{then-is_named+else-is_one, else-is_named}

pub returns-then-is_one : goal.returns-then-is_one
returns-then-is_one c =
    let ks = c.args.node.now.layers in
    let less : c.loop-place.place < length ks = omega (arith, c.loop-place-test.true, c.layer_count-place-end.ensures.value) in
    sym (found_here ks c.loop-place.place c.loop-place.wanted c.meta-meta.result.now less c.meta-meta.ensures c.args.base.now
    (sym c.is_named.ensures ∙ c.if-is_named.true) (sym c.is_one.ensures ∙ c.if-is_one.true))
    ∙ c.loop-place.invariant

pub loop-place-preserved : goal.loop-place-preserved
loop-place-preserved c =
    let ks = c.args.node.now.layers in
    let place = c.loop-place.place in
    let base = c.args.base.now in
    let m = c.meta-meta.result.now in
    let less : place < length ks = omega (arith, c.loop-place-test.true, c.layer_count-place-end.ensures.value) in
    elim c.if-is_named.branch [
      | then-is_named+else-is_one w ↦
          ap (λ want. has_name (chain_in (drop (place + 1) (tree_of c.args.node.now)) want) base) w.wanted-is
          ∙ sym (found_below ks place c.loop-place.wanted m less c.meta-meta.ensures base
          (sym c.is_named.ensures ∙ w.if-is_named.true) (sym w.is_one.ensures ∙ w.if-is_one.false))
          ∙ c.loop-place.invariant
      | else-is_named w ↦
          ap (λ want. has_name (chain_in (drop (place + 1) (tree_of c.args.node.now)) want) base) w.wanted-is
          ∙ sym (ap (λ ss. has_name ss base) (chain_passes ks place c.loop-place.wanted m less c.meta-meta.ensures
          (sym c.is_named.ensures ∙ w.if-is_named.false)))
          ∙ c.loop-place.invariant
    ]
