use Rattle.std.proofs.Common.{◌≡◌, ◌<◌, ◌≤◌, ◌+◌, ◌++◌, length, get_or, map, sym, ap, ◌∙◌, arith}
use Rattle.std.proofs.lemmas.List.{map-append}
use Rattle.std.proofs.lemmas.Option.{get_or_from_slice_get}
use Rattle.load_laws.specs.Result.{replies_of}
use Rattle.volume_model.specs.declared.entry.Entry.TheVariants as entry
use Rattle.packed_entries.specs.View.{entry_seen, answer_seen, reply_seen}
use Rattle.report_writer.proofs.SummaryLemmas.{replies_left, one_more_reply, reply_of_other, reply_of_mark, all_replies}
use Rattle.report_writer.proofs.summary.replies_to.Goals as goal
use Rattle.report_writer.proofs.summary.replies_to.Goals.{then-from-stream+in_ok-push, else-from-stream}

pub loop-place-preserved : goal.loop-place-preserved
loop-place-preserved c =
    let s = c.loop-place in
    let entries = c.args.journal.now.entries in
    let stream = c.args.stream in
    let a = answer_seen c.in-Some.answer in
    let had = map reply_seen s.replies.items in
    let all = replies_of stream entries in
    let inside : s.place < length entries = omega (arith, c.len-place-end.ensures) in
    let is : get_or entries s.place (entry.Answer a) ≡ entry.Answer a =
    get_or_from_slice_get entries s.place (entry_seen c.entry.result) (entry.Answer a) c.entry.ensures ∙ c.in-Some.ensures in
    elim c.if-from-stream.branch [
      | then-from-stream+in_ok-push w ↦
          rw w.replies-is (ap (λ l. l ++ replies_left stream (s.place + 1) entries)
          (ap (map reply_seen) w.in_ok-push.ensures.items ∙ map-append reply_seen s.replies.items _)
          ∙ one_more_reply had all stream s.place entries a inside is (sym c.from.ensures ∙ w.if-from-stream.true) s.invariant)
      | else-from-stream w ↦
          rw w.replies-is (reply_of_other had all stream s.place entries a inside is (λ own. w.if-from-stream.false (c.from.ensures ∙ own))
          s.invariant)
    ]

pub loop-place-preserved-in_default : goal.loop-place-preserved-in_default
loop-place-preserved-in_default c =
    let s = c.loop-place in
    let entries = c.args.journal.now.entries in
    let e = (entry_seen c.entry.result) in
    let inside : s.place < length entries = omega (arith, c.len-place-end.ensures) in
    reply_of_mark (map reply_seen s.replies.items) (replies_of c.args.stream entries) c.args.stream s.place entries e
    inside (get_or_from_slice_get entries s.place e e c.entry.ensures) c.in_default.ensures s.invariant

pub returns : goal.returns
returns c =
    let s = c.loop-place in
    let entries = c.args.journal.now.entries in
    let past : length entries ≤ s.place = omega (arith, c.len-place-end.ensures) in
    all_replies (map reply_seen s.replies.items) (replies_of c.args.stream entries) c.args.stream s.place entries past
    s.invariant
