use Rattle.std.proofs.Common.{[], ◌∷◌, ◌++◌, List, refl, sym, ap, cond, ◌∙◌}
use Rattle.std.specs.Prelude.{position}
use Rattle.std.specs.Result.{is_ok}
use Rattle.journal_book.specs.declared.faults.LastCount.{LastCount}
use Rattle.journal_book.specs.Lines.{is_line, count_in}
use Rattle.journal_book.proofs.LineLemmas.{count_changed, count_new}
use Rattle.journal_book.proofs.faults.put_last.Goals as goal

pub returns-in-Some-clause-counts : goal.returns-in-Some-clause-counts
returns-in-Some-clause-counts c =
    let line = c.args.last in
    count_changed line c.index_mut.result.now _ c.args.lines.now.items c.in-Some.place
    (ap (λ ls. position (is_line line.stream line.replica) ls) (sym c.deref.ensures.value) ∙ sym c.place_of.ensures
    ∙ c.in-Some.is) c.index_mut.ensures.value refl

pub returns-in-None-clause-counts : goal.returns-in-None-clause-counts
returns-in-None-clause-counts c = λ s r.
    let line = c.args.last in
    let ls = c.args.lines.now.items in
    ap (count_in s r) (c.push.ensures.items ∙ ap (λ o. cond (is_ok o) (ls ++ line ∷ []) ls) c.unwrap.ensures)
    ∙ count_new line ls (ap (λ (xs : List LastCount). position (is_line line.stream line.replica) xs)
    (sym c.deref.ensures.value) ∙ sym c.place_of.ensures ∙ c.in-None.is) s r
