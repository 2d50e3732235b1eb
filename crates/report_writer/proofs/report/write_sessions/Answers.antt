use Rattle.std.proofs.Common.{map, subst}
use Rattle.std.specs.Io.KnownBytes.{Appends}
use Rattle.std.proofs.lemmas.Result.{on_ok_weaker}
use Rattle.journal_book.specs.Book.{modes_of}
use Rattle.outer_traits.specs.Passing.{WritesPrefix}
use Rattle.replica_node.specs.Volume.{volume_of_node}
use Rattle.run_report.specs.Report.{journal_lines}
use Rattle.run_report.specs.Sessions.{session_lines}
use Rattle.report_writer.specs.Written.{end_text}
use Rattle.report_writer.proofs.Written.{nothing_opened}
use Rattle.report_writer.proofs.report.write_sessions.Goals as goal

pub returns-clause-whole : goal.returns-clause-whole
returns-clause-whole g c =
    let end = end_text (modes_of c.args.journal.now) (map volume_of_node c.args.replicas.now) in
    let all = nothing_opened c.new-opened.result.items (journal_lines 0 c.args.journal.now.entries)
    (session_lines 0 c.args.sessions.now) end
    c.new-opened.ensures.items in
    on_ok_weaker c.write_around.result (λ whole. subst (Appends _ _) all whole) c.write_around.ensures.whole

pub returns-clause-prefix : goal.returns-clause-prefix
returns-clause-prefix g c =
    let end = end_text (modes_of c.args.journal.now) (map volume_of_node c.args.replicas.now) in
    let all = nothing_opened c.new-opened.result.items (journal_lines 0 c.args.journal.now.entries)
    (session_lines 0 c.args.sessions.now) end
    c.new-opened.ensures.items in
    subst (WritesPrefix _ _) all c.write_around.ensures.prefix
