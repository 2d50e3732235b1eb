use Rattle.std.proofs.Common.{subst, append_assoc}
use Rattle.std.proofs.lemmas.Result.{on_ok_weaker}
use Rattle.run_report.specs.Report.{journal_lines}
use Rattle.report_writer.specs.Written.{between_text}
use Rattle.outer_traits.specs.Passing.{WritesPrefix}
use Rattle.outer_traits.proofs.Passing.{Passes-trans, WritesPrefix-after, WritesPrefix-more}
use Rattle.report_writer.proofs.report.pass_lines.Goals as goal

pub returns-in_err-pass_entries-clause-prefix : goal.returns-in_err-pass_entries-clause-prefix
returns-in_err-pass_entries-clause-prefix g c =
    let entries = c.args.journal.now.entries in
    let behind = between_text c.args.between entries in
    subst (WritesPrefix _ _) (append_assoc c.args.buffer.now.items (journal_lines 0 entries) behind)
    (WritesPrefix-more _ _ _ behind c.in_err-pass_entries.ensures.prefix)

pub returns-clause-passed : goal.returns-clause-passed
returns-clause-passed g c =
    let entries = c.args.journal.now.entries in
    on_ok_weaker c.pass_between.result (λ p. Passes-trans _ _ _ c.args.buffer.now.items _ _ (journal_lines 0 entries)
    (between_text c.args.between entries) c.in_ok-pass_entries.ensures.passed p) c.pass_between.ensures.passed

pub returns-clause-prefix : goal.returns-clause-prefix
returns-clause-prefix g c =
    let entries = c.args.journal.now.entries in
    WritesPrefix-after _ _ _ c.args.buffer.now.items _ (journal_lines 0 entries) (between_text c.args.between entries)
    c.in_ok-pass_entries.ensures.passed c.pass_between.ensures.prefix
