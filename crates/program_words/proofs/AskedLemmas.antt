-- What a parse by `clap` tells of what words ask for.
use Rattle.std.proofs.Common.{◌≡◌, ◌∙◌, Bool, true, false, List, [], Option, None, Result, Ok, Err, IsErrAnd, IsErrOf, cond, refl, ap, sym}
use Rattle.clap.specs.Words.{App, HasMatchesOf, Text, fault_of, is_simple, is_simple_and_free, subcommand_of, subcommand_rows_of, takes}
use Rattle.clap.specs.declared.ArgMatches.{ArgMatches}
use Rattle.clap.specs.declared.error.ErrorKind.{ErrorKind}
use Rattle.clap.specs.declared.error.ErrorKind.TheVariants.{OutOfMemory}
use Rattle.clap.proofs.WalkLemmas.{first_value-rows}
use Rattle.program_words.specs.declared.words.Words.{Words}
use Rattle.program_words.specs.declared.words.WordsError.{WordsError}
use Rattle.program_words.specs.declared.words.WordsError.TheVariants.{Usage, NoMemory}
use Rattle.program_words.specs.Asked.{IsErrorOf, asked_by, asked_named}
use Rattle.program_words.specs.Program.{program}
use Rattle.program_words.proofs.FaultlessWords.{program_takes_faultless}

-- the first value of an option, read off its rows
pub ruleset first_values = (first_value-rows)

asked_where : (b : Bool) (asked : Option Words) → b ≡ true → cond b asked None ≡ asked
asked_where b asked e = rw e refl

nothing_where : (b : Bool) (asked : Option Words) → (b ≡ true → ⊥) → cond b asked None ≡ None
nothing_where true asked not = absurd (not refl)
nothing_where false asked not = refl

-- what a parse finds is what the words ask for
pub matches_tell : (words : List Text) (a : App) (m : ArgMatches) → a ≡ program
    → (is_simple_and_free a ≡ true → fault_of a words ≡ []) → HasMatchesOf a words m
    → asked_named (subcommand_rows_of m) ≡ asked_by words
matches_tell words a m is none has =
    let no_fault : fault_of program words ≡ [] = ap (λ b. fault_of b words) (sym is) ∙ none (ap is_simple_and_free is) in
    let named : subcommand_rows_of m ≡ subcommand_of program words = (has (ap is_simple is)).1 ∙ ap (λ b. subcommand_of b words) is in
    ap asked_named named ∙ sym (asked_where (takes program words) (asked_named (subcommand_of program words))
    (program_takes_faultless words no_fault))

-- words that `clap` refuses, for another reason than memory, ask for nothing
pub refused_asks_nothing : (words : List Text) (kind : ErrorKind) (r : Result Words WordsError)
    → (takes program words ≡ true → kind ≡ OutOfMemory)
    → IsErrAnd r (IsErrorOf kind) → IsErrOf r Usage → asked_by words ≡ None
refused_asks_nothing words kind (Ok asked) passes is usage = absurd is
refused_asks_nothing words kind (Err Usage) passes is usage =
    nothing_where (takes program words) (asked_named (subcommand_of program words)) (λ t. is (passes t))
refused_asks_nothing words kind (Err NoMemory) passes is usage = cc
