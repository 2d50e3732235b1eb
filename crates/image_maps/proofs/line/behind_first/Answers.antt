use Rattle.std.proofs.Common.{arith, sym, subst, decimal, ◌++◌, ◌∷◌, ◌∙◌}
use Rattle.std.proofs.lemmas.Bool.{false≢true}
use Rattle.image_maps.specs.Maps.{BeginsWithLine}
use Rattle.image_maps.proofs.BegunLemmas.{behind_first_blank, behind_first_digit, behind_first_begins, longer_text}
use Rattle.image_maps.proofs.line.behind_first.Goals as goal

pub returns-else-least-number : goal.returns-else-least-number
returns-else-least-number c more begins =
    let least = c.args.least in
    let blocks = c.args.block_count in
    let number = c.args.number in
    let blank = subst (λ b. BeginsWithLine (decimal number ++ b ∷ more) least blocks) c.if-byte-eq32.true begins in
    absurd (omega (arith, behind_first_blank least blocks number more (omega arith) c.requires.0 blank))

pub returns-in-None : goal.returns-in-None
returns-in-None c more begins =
    let found =
    behind_first_digit c.args.least c.args.block_count c.args.number c.args.byte more (omega arith) c.requires.0
    c.if-byte-eq32.false begins in
    c.in-None.ensures found.0

pub returns-then-number-eq0 : goal.returns-then-number-eq0
returns-then-number-eq0 c more begins =
    let found =
    behind_first_digit c.args.least c.args.block_count c.args.number c.args.byte more (omega arith) c.requires.0
    c.if-byte-eq32.false begins in
    omega (arith, found.1)

pub returns-then-may_begin : goal.returns-then-may_begin
returns-then-may_begin c =
    let may = c.may_begin.ensures in
    let spelled =
    longer_text c.args.number c.args.byte c.in-Some.digit (omega (arith, c.requires.0)) (omega arith) c.in-Some.ensures in
    (spelled, (may.small c.if-may_begin.true, may.means.0 c.if-may_begin.true))

pub returns-else-may_begin : goal.returns-else-may_begin
returns-else-may_begin c more begins =
    let may =
    behind_first_begins c.args.least c.args.block_count c.args.number c.args.byte c.in-Some.digit more (omega arith)
    c.requires.0 (omega arith) c.in-Some.ensures begins in
    false≢true (sym c.if-may_begin.false ∙ c.may_begin.ensures.means.1 may)
