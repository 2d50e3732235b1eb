use Rattle.std.proofs.Common.{◌≡◌, ◌∷◌, ◌++◌, take, flat_map}
use Rattle.packed_entries.specs.declared.view.ReplyView.{ReplyView}
use Rattle.packed_entries.specs.View.{reply_seen}
use Rattle.run_report.specs.Lines.{reply_text}
use Rattle.run_report.proofs.summary_lines.append_more_replies.Given as goal

abbrev pub invariant-loop-reply : goal.invariant-loop-reply
invariant-loop-reply l =
    l.into.items ≡ l.fn.into.items ++ flat_map (λ (r : ReplyView). 44 ∷ reply_text (reply_seen r)) (take l.reply-index l.replies)
