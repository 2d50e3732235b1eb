use Rattle.std.proofs.Common.{◌-◌, ◌∷◌, ◌++◌, ℕ, List, flat_map, length, take, drop, sym, ap, ◌∙◌}
use Rattle.std.proofs.lemmas.Result.{on_ok_weaker}
use Rattle.std.proofs.lemmas.Simd.{map-map}
use Rattle.std.specs.List.{join_with_byte}
use Rattle.packed_entries.specs.declared.view.ReplyView.{ReplyView}
use Rattle.packed_entries.specs.View.{reply_seen}
use Rattle.run_report.specs.Lines.{reply_text}
use Rattle.run_report.proofs.Appends.{two_appends}
use Rattle.run_report.proofs.PartedWords.{words_apart}
use Rattle.run_report.proofs.summary_lines.append_replies.Goals as goal

-- the text of a reply that is seen
seen_text : ReplyView → List ℕ
seen_text r = reply_text (reply_seen r)

pub returns-clause-ok : goal.returns-clause-ok
unfolding seen_text
returns-clause-ok c =
    let old = c.args.into.now.items in
    let replies = c.args.replies.now in
    let first = c.first-item.result in
    let behind = flat_map (λ (r : ReplyView). 44 ∷ reply_text (reply_seen r)) (take (length replies - 1) (drop 1 replies)) in
    on_ok_weaker c.append_more_replies.result (λ more. two_appends old _ _ _ _ c.in_ok-append_reply.ensures.ok more
    ∙ ap (λ (r : ReplyView). old ++ (reply_text (reply_seen r) ++ behind)) c.first-item.is
    ∙ ap (λ l. old ++ l) (words_apart seen_text first replies c.in-len1-up.len_at_least
    ∙ sym (ap (join_with_byte 44) (map-map reply_text reply_seen replies)))) c.append_more_replies.ensures.ok
