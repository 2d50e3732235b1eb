use Rattle.std.proofs.Common.{◌≡◌, ◌<◌, ◌+◌, ◌++◌, length, drop, ap, sym, subst, ◌∙◌, arith, append_assoc}
use Rattle.std.proofs.lemmas.Option.{get_or_from_slice_get}
use Rattle.run_report.specs.Lines.{entry_line}
use Rattle.run_report.specs.Report.{journal_lines}
use Rattle.run_report.proofs.ReportLemmas.{next_line}
use Rattle.outer_traits.specs.Passing.{WritesPrefix}
use Rattle.outer_traits.proofs.Passing.{Passes-trans, WritesPrefix-after, WritesPrefix-more}
use Rattle.packed_entries.specs.View.{entry_seen}
use Rattle.report_laws.specs.Fits.{EntryFits}
use Rattle.report_laws.proofs.Knowing.{one_more, all_of_them}
use Rattle.report_writer.proofs.report.pass_entries.Goals as goal

pub loop-place-preserved : goal.loop-place-preserved
loop-place-preserved g c =
    let i = c.loop-place.invariant in
    let entries = c.args.journal.now.entries in
    let place = c.loop-place.place in
    let e = entry_seen c.entry-entry.result in
    let inside : place < length entries = omega (arith, c.len-place-end.ensures) in
    let here = get_or_from_slice_get entries place e e c.entry-entry.ensures in
    let t = next_line i.0 (journal_lines 0 entries) place entries e inside here i.2 in (
      i.0 ++ entry_line place e,
      Passes-trans _ _ _ _ _ _ i.0 (entry_line place e) i.1 c.in_ok-pass_entry.ensures.passed,
      t,
      c.in_ok-pass_entry.ensures.cause.cause ∙ i.3,
      one_more EntryFits entries place e inside (sym here) c.know_entry.ensures i.4,
    )

pub returns-clause-fits : goal.returns-clause-fits
returns-clause-fits g c = all_of_them EntryFits _ _ (omega (arith, c.len-place-end.ensures)) c.loop-place.invariant.4

pub returns-in_err-pass_entry-clause-prefix : goal.returns-in_err-pass_entry-clause-prefix
returns-in_err-pass_entry-clause-prefix g c =
    let i = c.loop-place.invariant in
    let entries = c.args.journal.now.entries in
    let place = c.loop-place.place in
    let e = entry_seen c.entry-entry.result in
    let rest = journal_lines (place + 1) (drop (place + 1) entries) in
    let inside : place < length entries = omega (arith, c.len-place-end.ensures) in
    let here = get_or_from_slice_get entries place e e c.entry-entry.ensures in
    let t = next_line i.0 (journal_lines 0 entries) place entries e inside here i.2 in
    let whole : (c.args.buffer.now.items ++ (i.0 ++ entry_line place e)) ++ rest ≡ c.args.buffer.now.items ++ journal_lines 0 entries =
    append_assoc c.args.buffer.now.items (i.0 ++ entry_line place e) rest ∙ ap (λ l. c.args.buffer.now.items ++ l) t in
    let prefix = WritesPrefix-after _ _ _ c.args.buffer.now.items _ i.0 (entry_line place e) i.1 c.in_err-pass_entry.ensures.prefix in
    subst (WritesPrefix (g.K.Sink.contents c.args.sink.now) (g.K.Sink.contents c.pass_entry.new.sink)) whole
    (WritesPrefix-more _ _ _ rest prefix)
