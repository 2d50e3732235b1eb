use Rattle.std.proofs.Common.{◌≡◌, drop}
use Rattle.layer_chain.specs.Found.{index_of_age}
use Rattle.layer_chain.proofs.read_index.index_among.Given as goal

abbrev pub invariant-loop-above : goal.invariant-loop-above
invariant-loop-above l = index_of_age (drop l.above l.ages) l.age ≡ index_of_age l.ages l.age
