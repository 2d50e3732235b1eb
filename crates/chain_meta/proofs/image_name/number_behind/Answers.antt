use Rattle.std.proofs.Common.{rules}
use Rattle.chain_meta.proofs.FileLemmas.{number_is}
use Rattle.chain_meta.proofs.image_name.number_behind.Goals as goal

pub returns-then-ne : goal.returns-then-ne
returns-then-ne c n low zeros is =
    let number = c.in-Some-read_decimal in
    let same =
    number_is c.args.digits.now c.args.zeros.now c.in-Some.rest.now number.number n (search rules) number.ensures
    (search rules) low is in
    search rules
