use Rattle.std.proofs.Common.{sym, ◌∙◌}
use Rattle.journal_book.proofs.TakenLemmas.{used_there}
use Rattle.journal_book.proofs.taken.is_used.Goals as goal

pub returns : goal.returns
returns c = c.contains_key.ensures ∙ sym (used_there c.args.names.now.entries c.args.name.now)
