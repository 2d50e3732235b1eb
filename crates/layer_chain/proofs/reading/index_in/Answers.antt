use Rattle.std.proofs.Common.{◌≢◌, arith}
use Rattle.layer_chain.specs.Tree.{name_of}
use Rattle.layer_chain.proofs.TreeLemmas.{each_at}
use Rattle.layer_chain.proofs.reading.index_in.Goals as goal

pub returns : goal.returns
returns c = each_at (λ l. name_of l ≢ c.args.name.now) c.args.layers.now _ (λ i h. c.loop-place.invariant i (omega arith))
