use Rattle.std.proofs.Common.{sym, ◌∙◌}
use Rattle.journal_book.proofs.LineLemmas.{count_found, count_none}
use Rattle.journal_book.proofs.faults.count_in.Goals as goal

pub returns-in-Some : goal.returns-in-Some
returns-in-Some c = count_found c.args.stream c.args.replica c.args.lines.now c.in-Some.place _ (sym c.place_of.ensures ∙ c.in-Some.is)

pub returns-in-None : goal.returns-in-None
returns-in-None c = count_none c.args.stream c.args.replica c.args.lines.now (sym c.place_of.ensures ∙ c.in-None.is)
