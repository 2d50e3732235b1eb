use Rattle.std.proofs.Common.{◌≡◌, ◌++◌, None, ap, ◌∙◌}
use Rattle.digest.specs.Digest.{digest_text}
use Rattle.replica_node.specs.Volume.{volume_of_node}
use Rattle.volume_model.specs.Snapshots.{chain_of}
use Rattle.run_report.specs.Lines.{chain_line}
use Rattle.run_report.specs.Summary.{disk_line}
use Rattle.report_writer.proofs.SummaryLemmas.{text_of}
use Rattle.report_writer.proofs.summary.print_volume.Goals as goal

pub returns : goal.returns
returns c =
    let volume = volume_of_node c.args.replica.now in
    let empty = c.new-text.result.items in
    let first : c.print_chain.new.into.items ≡ chain_line None (chain_of volume.snapshots) =
    text_of empty c.print_chain.new.into.items (chain_line None (chain_of volume.snapshots)) c.new-text.ensures.items
    (c.in_ok-print_chain.ensures.ok ∙ ap (λ ls. empty ++ chain_line None ls) (c.deref.ensures.value ∙ c.in_ok-chain.ensures)) in
    c.in_ok-print_disk.ensures.ok ∙ ap (λ d. c.print_chain.new.into.items ++ disk_line d) c.digest_of_head.ensures
    ∙ ap (λ l. l ++ disk_line (digest_text volume.disk)) first
