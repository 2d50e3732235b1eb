use Rattle.std.proofs.Common.{arith}
use Rattle.std.proofs.lemmas.Bool.{false≢true}
use Rattle.image_maps.proofs.DigitLemmas.{zero_begins}
use Rattle.image_maps.proofs.digits.zero_may_begin.Goals as goal

pub returns-then-least-gt0-clause-means : goal.returns-then-least-gt0-clause-means
returns-then-least-gt0-clause-means c = (
  λ no. absurd (false≢true no),
  λ begins. absurd (omega (arith, zero_begins c.args.least c.args.end (omega arith) begins)),
)
