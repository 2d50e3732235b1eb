use Rattle.std.proofs.Common.{arith, rules}
use Rattle.std.proofs.lemmas.Bool.{false≢true}
use Rattle.image_maps.proofs.DigitLemmas.{not_less, some_within, must_be_longer, is_longer}
use Rattle.image_maps.proofs.digits.+some_reaches.Goals as goal

pub returns-then-low-last-clause-means : goal.returns-then-low-last-clause-means
returns-then-low-last-clause-means t c =
    (λ no. absurd (false≢true no), λ (n, reaches, least_ok, end_ok). absurd (omega (arith, not_less n _ _ reaches)))

pub returns-then-least-last-clause-means : goal.returns-then-least-last-clause-means
returns-then-least-last-clause-means t c =
    (λ no. absurd (false≢true no), λ (n, reaches, least_ok, end_ok). absurd (omega arith))

pub returns-then-least-high-clause-means : goal.returns-then-least-high-clause-means
returns-then-least-high-clause-means t c = (
  λ yes. some_within c.args.low c.args.high c.args.least c.args.end (omega arith) (omega arith) (omega arith)
      (omega arith),
  λ found. search rules,
)

pub returns-clause-means : goal.returns-clause-means
returns-clause-means t c = (
  λ yes. is_longer c.args.low c.args.high c.args.least c.args.end (c.some_reaches.ensures.means.0 yes),
  λ found. c.some_reaches.ensures.means.1
      (must_be_longer c.args.low c.args.high c.args.least c.args.end (omega arith) found),
)
