use Rattle.std.proofs.Common.{◌≡◌, ◌++◌, length, map, ap, ◌∙◌}
use Rattle.load_laws.specs.Result.{replies_of}
use Rattle.journal_book.specs.Book.{modes_of}
use Rattle.packed_entries.specs.View.{reply_seen}
use Rattle.run_report.specs.Summary.{stream_lines, control_line, modes_line, frames_from}
use Rattle.report_writer.proofs.SummaryLemmas.{three_parts}
use Rattle.report_writer.proofs.summary.print_calls.Goals as goal

pub returns : goal.returns
returns c =
    let entries = c.args.journal.now.entries in
    let modes = modes_of c.args.journal.now in
    let streams = stream_lines 0 (frames_from 0 c.args.heads.now entries) in
    let commands = replies_of (length c.args.heads.now) entries in
    let answered : map reply_seen c.deref.result.now ≡ commands =
    ap (map reply_seen) c.deref.ensures.value ∙ c.in_ok-replies_to.ensures in
    let control : c.print_control.new.into.items ≡ c.print_streams.new.into.items ++ control_line commands =
    c.in_ok-print_control.ensures.ok ∙ ap (λ rs. c.print_streams.new.into.items ++ control_line rs) answered in
    let left : c.print_modes.new.into.items ≡ c.print_control.new.into.items ++ modes_line modes =
    c.in_ok-print_modes.ensures.ok ∙ ap (λ ms. c.print_control.new.into.items ++ modes_line ms) c.modes.ensures in
    three_parts c.new-text.result.items c.print_streams.new.into.items c.print_control.new.into.items c.print_modes.new.into.items
    streams (control_line commands) (modes_line modes) c.new-text.ensures.items c.in_ok-print_streams.ensures control left
