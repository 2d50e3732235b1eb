use Rattle.std.proofs.Common.{◌+◌, ◌/◌, ◌%◌, [], ◌∷◌, length, ap, append_assoc, arith, length-append}
use Rattle.std.specs.Fmt.{decimal}
use Rattle.vol_units.proofs.NameLemmas.{decimal_more, length-decimal_more}
use Rattle.vol_units.proofs.layer_name.+append_decimal.Goals as goal

pub append_decimal-requires : goal.append_decimal-requires
append_decimal-requires t c =
    let more = length-decimal_more c.args.number (omega arith) (omega arith) in
    (omega arith, omega arith)

pub append-requires-2 : goal.append-requires-2
append-requires-2 t c =
    let more = length-decimal_more c.args.number (omega arith) (omega arith) in
    omega (arith, ap length c.append_decimal.ensures, length-append c.args.chars.now (decimal (c.args.number / 10)))

pub returns : goal.returns
returns t c =
    let number = c.args.number in
    rw (c.append-2.ensures, c.append_decimal.ensures, decimal_more number (omega arith) (omega arith))
    (append_assoc c.args.chars.now (decimal (number / 10)) ((48 + number % 10) ∷ []))
