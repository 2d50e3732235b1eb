use Rattle.std.proofs.Common.{◌≡◌, ◌∷◌, drop}
use Rattle.layer_chain.specs.Found.{found_in, images_of}
use Rattle.layer_chain.proofs.finding.search.Given as goal

abbrev pub invariant-loop-above : goal.invariant-loop-above
invariant-loop-above l =
    found_in (drop l.above (l.head ∷ images_of l.layers l.index.ages)) l.block
    ≡ found_in (l.head ∷ images_of l.layers l.index.ages) l.block
