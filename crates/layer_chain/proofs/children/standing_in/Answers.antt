use Rattle.std.proofs.Common.{◌≡◌, ◌+◌, ℕ, length, sym, ap, subst, ◌∙◌, arith}
use Rattle.layer_chain.specs.Tree.{parent_of}
use Rattle.layer_chain.specs.Children.{Tells}
use Rattle.layer_chain.specs.declared.children.Children.{Children}
use Rattle.layer_chain.proofs.ChildLemmas.{tells_child, tells_other}
use Rattle.layer_chain.proofs.TreeLemmas.{layer_got}
use Rattle.layer_chain.proofs.children.standing_in.Goals as goal
use Rattle.layer_chain.proofs.children.standing_in.Goals.{then-is_on-2, else-is_on-2}

pub loop-child-preserved : goal.loop-child-preserved
loop-child-preserved c =
    let child = c.loop-child.child in
    elim c.if-is_on-2.branch [
      | then-is_on-2 w ↦
          subst (λ (f : Children). Tells c.args.layers.now c.args.on.now (child + 1) c.args.place f)
          (sym (w.found-is ∙ w.with_child-found.ensures))
          (tells_child c.args.layers.now c.args.on.now c.args.place c.loop-child.found child
          (ap parent_of (layer_got c.args.layers.now child c.index-layers-child.result (omega arith))
          ∙ c.is_on-in-loop-child.ensures.0 w.if-is_on-2.true)
          c.loop-child.invariant)
      | else-is_on-2 w ↦
          subst (λ (f : Children). Tells c.args.layers.now c.args.on.now (child + 1) c.args.place f) (sym w.found-is)
          (tells_other c.args.layers.now c.args.on.now c.args.place c.loop-child.found child
          (λ on. absurd (cc (
            w.if-is_on-2.false,
            c.is_on-in-loop-child.ensures.1
                (ap parent_of (sym (layer_got c.args.layers.now child c.index-layers-child.result (omega arith))) ∙ on),
          )))
          c.loop-child.invariant)
    ]

pub returns : goal.returns
returns c =
    let all : c.loop-child.child ≡ length c.args.layers.now = omega arith in
    subst (λ (n : ℕ). Tells c.args.layers.now c.args.on.now n c.args.place c.loop-child.found) all c.loop-child.invariant
