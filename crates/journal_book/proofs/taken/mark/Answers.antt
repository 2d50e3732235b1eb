use Rattle.std.proofs.Common.{true, sym, ap, ◌∙◌}
use Rattle.journal_book.specs.Taken.{taken_of}
use Rattle.journal_book.proofs.TakenLemmas.{taken_marked, taken_unmarked}
use Rattle.journal_book.proofs.taken.mark.Goals as goal

pub returns-in-Some-clause-names : goal.returns-in-Some-clause-names
returns-in-Some-clause-names c =
    ap taken_of (c.get_mut.follows.holds true).0 ∙ taken_marked c.args.names.now.entries c.args.name.now c.get_mut.ensures.unique

pub returns-in_default-clause-names : goal.returns-in_default-clause-names
returns-in_default-clause-names c =
    ap (λ m. taken_of m.entries) c.get_mut.follows.holds-at-none
    ∙ taken_unmarked c.args.names.now.entries c.args.name.now (sym c.in_default.ensures.value)
