use Rattle.run_report.proofs.Appends.{kept_more}
use Rattle.run_report.proofs.words.append_more_modes.Goals as goal

pub returns-in_err-append_one_more-clause-kept : goal.returns-in_err-append_one_more-clause-kept
returns-in_err-append_one_more-clause-kept c = kept_more _ _ _ _ c.loop-mode.invariant c.in_err-append_one_more.ensures.kept
