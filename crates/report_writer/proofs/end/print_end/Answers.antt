use Rattle.std.proofs.Common.{◌++◌, map, ap, ◌∙◌}
use Rattle.run_report.specs.Report.{mode_lines}
use Rattle.report_writer.specs.declared.end.EndLine.TheVariants.{Chain, Digest}
use Rattle.replica_node.specs.Volume.{volume_of_node}
use Rattle.report_writer.specs.Written.{replica_lines}
use Rattle.report_writer.proofs.end.print_end.Goals as goal

pub returns : goal.returns
returns c =
    let modes = c.args.modes.now in
    let replicas = map volume_of_node c.args.replicas.now in
    let chains = replica_lines Chain 0 modes replicas in
    let digests = replica_lines Digest 0 modes replicas in
    c.in_ok-print_each-2.ensures ∙ ap (λ l. l ++ digests) c.in_ok-print_each.ensures
    ∙ ap (λ l. l ++ chains ++ digests) (c.in_ok-print_modes.ensures ∙ ap (λ l. l ++ mode_lines 0 modes) c.new-text.ensures.items)
