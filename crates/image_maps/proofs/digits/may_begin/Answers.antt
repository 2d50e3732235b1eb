use Rattle.std.proofs.Common.{arith}
use Rattle.image_maps.proofs.DigitLemmas.{may_reach, must_reach}
use Rattle.image_maps.proofs.digits.may_begin.Goals as goal

pub returns-clause-means : goal.returns-clause-means
returns-clause-means c =
    let number = c.args.number in (
      λ yes. may_reach number c.args.least c.args.end (omega arith) (omega arith) (c.some_reaches.ensures.means.0 yes),
      λ begins. c.some_reaches.ensures.means.1
          (must_reach number c.args.least c.args.end (omega arith) (omega arith) begins),
    )
