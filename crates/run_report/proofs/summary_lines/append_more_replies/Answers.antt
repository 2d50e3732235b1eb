use Rattle.run_report.proofs.Appends.{kept_more}
use Rattle.run_report.proofs.summary_lines.append_more_replies.Goals as goal

pub returns-in_err-append_one_more-clause-kept : goal.returns-in_err-append_one_more-clause-kept
returns-in_err-append_one_more-clause-kept c = kept_more _ _ _ _ c.loop-reply.invariant c.in_err-append_one_more.ensures.kept
