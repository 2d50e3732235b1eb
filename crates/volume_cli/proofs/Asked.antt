-- What the words of the command line ask for.
use Rattle.std.proofs.Common.{◌≡◌, Option, Some, Result, Ok, IfOk, subst}
use Rattle.program_words.specs.declared.words.Workers.{Workers}
use Rattle.program_words.specs.declared.words.Words.{Words}
use Rattle.program_words.specs.declared.words.WordsError.{WordsError}
use Rattle.program_words.specs.declared.words.Words.TheVariants.{Run}

-- what was read is what is asked for
pub asks_that : (asked : Option Words) (result : Result Words WordsError) (read words : Words) → result ≡ Ok read → read ≡ words
    → IfOk result (λ w. asked ≡ Some w) → asked ≡ Some words
asks_that asked result read words at is found =
    subst (λ w. asked ≡ Some w) is (subst (λ r. IfOk r (λ w. asked ≡ Some w)) at found)

-- and nothing else is
pub one_words : (asked : Option Words) (a b : Words) → asked ≡ Some a → asked ≡ Some b → a ≡ b
one_words asked a b is too = cc

pub same_workers : (asked given : Workers) → Some (Run asked) ≡ Some (Run given) → asked ≡ given
same_workers asked given is = cc
