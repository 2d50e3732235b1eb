use Rattle.std.proofs.Common.{rules, codes}
use Rattle.volume_model.proofs.TextLemmas.{word_and_name}
use Rattle.volume_model.proofs.command.Command.read.Goals as goal

pub returns-in-Some-clause-found : goal.returns-in-Some-clause-found
returns-in-Some-clause-found c = record {
  named = search rules;
  spelled =
      let begins = c.in-Some.ensures.cases in
      word_and_name _ (codes "snapshot ") _ _ begins.0 begins.1 c.in_ok-read.ensures.1;
}

pub returns-in-Some-strip_prefix-clause-found : goal.returns-in-Some-strip_prefix-clause-found
returns-in-Some-strip_prefix-clause-found c = record {
  named = search rules;
  spelled =
      let begins = c.in-Some-strip_prefix.ensures.cases in
      word_and_name _ (codes "remove ") _ _ begins.0 begins.1 c.in_ok-read-2.ensures.1;
}

pub returns-in-Some-strip_prefix-2-clause-found : goal.returns-in-Some-strip_prefix-2-clause-found
returns-in-Some-strip_prefix-2-clause-found c = record {
  named = search rules;
  spelled =
      let begins = c.in-Some-strip_prefix-2.ensures.cases in
      word_and_name _ (codes "revert ") _ _ begins.0 begins.1 c.in_ok-read-3.ensures.1;
}
