use Rattle.layer_chain.specs.Children.{Tells}
use Rattle.layer_chain.proofs.children.standing_in.Given as goal

abbrev pub invariant-loop-child : goal.invariant-loop-child
invariant-loop-child l = Tells l.layers l.on l.child l.place l.found
