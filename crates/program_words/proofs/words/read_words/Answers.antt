use Rattle.std.proofs.Common.{◌∙◌, map, string_bytes, sym, ap}
use Rattle.clap.specs.Words.{takes}
use Rattle.program_words.proofs.AskedLemmas.{matches_tell, refused_asks_nothing}
use Rattle.program_words.proofs.words.read_words.Goals as goal

pub returns-in_err-matches-clause-usage : goal.returns-in_err-matches-clause-usage
returns-in_err-matches-clause-usage c =
    let words = map string_bytes c.args.words.now in
    refused_asks_nothing words _ c.from_residual-in_err-matches.result
    (λ t. c.in_err-matches.ensures.passes (ap (λ a. takes a words) c.in_ok-command.ensures ∙ t)) c.from_residual-in_err-matches.ensures.1

pub returns-in-Some-clause-found : goal.returns-in-Some-clause-found
returns-in-Some-clause-found c =
    sym (sym c.in-Some.is ∙ c.in_ok-asked.ensures
    ∙ matches_tell _ _ _ c.in_ok-command.ensures c.in_ok-matches.ensures.kinds c.in_ok-matches.ensures.matches)

pub returns-clause-usage : goal.returns-clause-usage
returns-clause-usage c =
    λ _. sym (sym c.in-None.is ∙ c.in_ok-asked.ensures
    ∙ matches_tell _ _ _ c.in_ok-command.ensures c.in_ok-matches.ensures.kinds c.in_ok-matches.ensures.matches)
