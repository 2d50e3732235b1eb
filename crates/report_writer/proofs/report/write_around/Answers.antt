use Rattle.std.proofs.Common.{subst, ◌≡◌, ◌++◌, map, ap, ◌∙◌}
use Rattle.std.proofs.lemmas.Result.{IfOk-at_ok}
use Rattle.journal_book.specs.Book.{modes_of}
use Rattle.run_report.specs.Report.{journal_lines}
use Rattle.replica_node.specs.Volume.{volume_of_node}
use Rattle.report_writer.specs.Written.{between_text, end_text, entries_text}
use Rattle.outer_traits.specs.Passing.{Passes, WritesPrefix}
use Rattle.outer_traits.proofs.Passing.{WritesPrefix-more, WritesPrefix-last}
use Rattle.report_writer.proofs.Written.{whole_passes}
use Rattle.report_writer.proofs.report.write_around.Goals as goal

pub returns-in_err-passed-clause-prefix : goal.returns-in_err-passed-clause-prefix
returns-in_err-passed-clause-prefix g c = WritesPrefix-more _ _ _ _ c.print_beside-end.ensures.prefix

pub returns-in_err-end-clause-prefix : goal.returns-in_err-end-clause-prefix
returns-in_err-end-clause-prefix g c = WritesPrefix-more _ _ _ _ c.print_beside-end.ensures.prefix

pub returns-in_err-append-clause-prefix : goal.returns-in_err-append-clause-prefix
returns-in_err-append-clause-prefix g c = WritesPrefix-more _ _ _ _ c.print_beside-end.ensures.prefix

pub returns-clause-prefix : goal.returns-clause-prefix
returns-clause-prefix g c =
    let entries = c.args.journal.now.entries in
    let end = end_text (modes_of c.args.journal.now) (map volume_of_node c.args.replicas.now) in
    let is : c.in_ok-end.field-0.items ≡ end = IfOk-at_ok (λ v. v.items ≡ end) c.in_ok-end.was c.print_beside-end.ensures.end in
    let put = c.in_ok-append.ensures.items ∙ ap (λ l. c.print_beside-end.new.buffer.items ++ l) is in
    let Lines : Type 0 = Passes (g.K.Sink.contents c.args.sink.now) (g.K.Sink.contents c.print_beside-end.new.sink)
    c.args.opened.items c.print_beside-end.new.buffer.items (entries_text c.args.between entries) in
    let lines : Lines = IfOk-at_ok (λ _. Lines) c.in_ok-passed.was c.print_beside-end.ensures.passed in
    let passed = whole_passes _ _ c.args.opened.items _ _ (journal_lines 0 entries) (between_text c.args.between entries) end put
    lines in
    WritesPrefix-last _ _ _ _ _ passed (subst (WritesPrefix _ _) c.deref.ensures.value c.write_all.ensures.prefix)
