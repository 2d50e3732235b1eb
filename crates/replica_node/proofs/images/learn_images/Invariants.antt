use Rattle.std.proofs.Common.{ℕ, ◌<◌}
use Rattle.sparse_image.specs.Whole.{IsImage}
use Rattle.layer_chain.specs.Tree.{layer_at}
use Rattle.replica_node.proofs.images.learn_images.Given as goal

-- each layer before is known
abbrev pub invariant-loop-place : goal.invariant-loop-place
invariant-loop-place l = (i : ℕ) → i < l.place → IsImage (layer_at l.tree.layers i).image
