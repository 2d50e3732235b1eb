use Rattle.std.proofs.Common.{rules}
use Rattle.program_words.proofs.NumberLemmas.{number_read}
use Rattle.program_words.proofs.numbers.number_of.Goals as goal

-- src/numbers.rt:14:1
pub returns : goal.returns
returns c = number_read c.args.text.now c.read_decimal.result (search rules) (search rules)
