use Rattle.std.proofs.Common.{sym, ap, ◌∙◌}
use Rattle.journal_book.proofs.TakenLemmas.{live_at, live_there}
use Rattle.journal_book.proofs.taken.is_live.Goals as goal

pub returns-in-Some : goal.returns-in-Some
returns-in-Some c = ap live_at c.in-Some.ensures.value
    ∙ sym (live_there c.args.names.now.entries c.args.name.now c.len-count.ensures.unique)

pub returns-in-None : goal.returns-in-None
returns-in-None c = ap live_at c.in-None.ensures.value
    ∙ sym (live_there c.args.names.now.entries c.args.name.now c.len-count.ensures.unique)
