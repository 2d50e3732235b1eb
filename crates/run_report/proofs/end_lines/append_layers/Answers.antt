use Rattle.run_report.proofs.Appends.{kept_more}
use Rattle.run_report.proofs.end_lines.append_layers.Goals as goal

pub returns-in_err-append_layer-clause-kept : goal.returns-in_err-append_layer-clause-kept
returns-in_err-append_layer-clause-kept c = kept_more _ _ _ _ c.loop-name.invariant c.in_err-append_layer.ensures.kept
