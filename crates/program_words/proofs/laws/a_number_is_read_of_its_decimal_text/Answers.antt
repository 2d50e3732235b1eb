use Rattle.program_words.proofs.NumberLemmas.{number_of-decimal, decimal-number_of}
use Rattle.program_words.proofs.laws.a_number_is_read_of_its_decimal_text.Goals as goal

pub returns : goal.returns
returns c = λ text number. (decimal-number_of text number, λ is. number_of-decimal text number is.0 is.1)
