use Rattle.std.proofs.Common.{◌++◌, ℕ, Bool, List, sym, ap, ◌∙◌, arith}
use Rattle.std.proofs.lemmas.List.{append-nil}
use Rattle.layer_chain.proofs.ReadLemmas.{chain-here, chain-other, chain-end}
use Rattle.layer_chain.proofs.chain.chain_in.Goals as goal
use Rattle.layer_chain.proofs.chain.chain_in.Goals.{then-is_wanted+in_ok-push, else-is_wanted}

pub loop-place-preserved : goal.loop-place-preserved
loop-place-preserved c = elim c.if-is_wanted.branch [
  | then-is_wanted+in_ok-push w ↦
      let here = chain-here c.args.layers.now c.loop-place.place c.index-layers-place.result c.loop-place.wanted
      (omega arith) c.index-layers-place.is c.loop-place.chain.items (sym c.is_wanted.ensures ∙ w.if-is_wanted.true) in
      let items = w.in_ok-push.ensures.items in
      let before = c.loop-place.invariant in
      cc
  | else-is_wanted w ↦
      let other = chain-other c.args.layers.now c.loop-place.place c.index-layers-place.result c.loop-place.wanted
      (omega arith) c.index-layers-place.is c.loop-place.chain.items (sym c.is_wanted.ensures ∙ w.if-is_wanted.false) in
      let before = c.loop-place.invariant in
      cc
]

pub returns : goal.returns
returns c =
    sym (append-nil c.loop-place.chain.items)
    ∙ ap (λ (ps : List (List ℕ × Bool)). c.loop-place.chain.items ++ ps)
    (sym (chain-end c.args.layers.now c.loop-place.place c.loop-place.wanted (omega arith)))
    ∙ c.loop-place.invariant
