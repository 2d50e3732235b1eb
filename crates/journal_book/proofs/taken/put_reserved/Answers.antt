use Rattle.std.proofs.Common.{◌≡◌, sym, ap, ◌∙◌}
use Rattle.std.specs.Prelude.{None}
use Rattle.std.specs.Map.{lookup}
use Rattle.std.specs.Str.{bytes_eq}
use Rattle.indexmap.proofs.CallerLemmas.{insert_entry-new}
use Rattle.journal_book.specs.Taken.{taken_of}
use Rattle.journal_book.proofs.TakenLemmas.{none_there, taken_new, taken_again}
use Rattle.journal_book.proofs.taken.put_reserved.Goals as goal

pub returns-then-not-contains_key-clause-names : goal.returns-then-not-contains_key-clause-names
returns-then-not-contains_key-clause-names c =
    let es = c.args.names.now.entries in
    let new : lookup (bytes_eq c.args.name) es ≡ None = none_there _ (sym c.contains_key.ensures ∙ c.if-not-contains_key.true) in
    ap taken_of ((rw c.unwrap.ensures at c.insert.ensures.entries) ∙ insert_entry-new bytes_eq c.args.names.now c.args.name c.args.marked new)
    ∙ taken_new es c.args.name c.args.marked new

pub returns-else-not-contains_key-clause-names : goal.returns-else-not-contains_key-clause-names
returns-else-not-contains_key-clause-names c =
    taken_again c.args.names.now.entries c.args.name c.args.marked (sym c.contains_key.ensures ∙ c.if-not-contains_key.false)
