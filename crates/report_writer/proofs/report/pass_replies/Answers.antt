use Rattle.std.proofs.Common.{◌≡◌, ◌≢◌, ◌⊎◌, ◌<◌, ◌≤◌, ◌+◌, [], ◌∷◌, ◌++◌, length, get_or, drop, ap, subst, ◌∙◌, arith, append_assoc}
use Rattle.std.proofs.lemmas.Option.{get_or_from_slice_get}
use Rattle.volume_model.specs.History.{answers_from}
use Rattle.volume_model.specs.declared.entry.Entry.TheVariants as entry
use Rattle.run_report.specs.Lines.{reply_line}
use Rattle.run_report.specs.Report.{reply_lines}
use Rattle.run_report.proofs.ReportLemmas.{skip_mark, no_reply}
use Rattle.outer_traits.specs.Passing.{WritesPrefix, Passes}
use Rattle.outer_traits.proofs.Passing.{Passes-trans, WritesPrefix-after, WritesPrefix-more, WritesPrefix-passed}
use Rattle.packed_entries.specs.View.{entry_seen, answer_seen}
use Rattle.report_writer.proofs.HeadsLemmas.{next_left, skip_left}
use Rattle.report_writer.proofs.report.pass_replies.Goals as goal
use Rattle.report_writer.proofs.report.pass_replies.Goals.{in-Some-2+in_ok-pass_reply-in-Some-2, in-None}
use Rattle.std.specs.Prelude.{IfSome, IfNone}

pub loop-place-preserved : goal.loop-place-preserved
loop-place-preserved g c =
    let entries = c.args.journal.now.entries in
    let stream = c.args.stream in
    let s = c.loop-place in
    let i = s.invariant in
    let a = answer_seen c.in-Some.answer in
    let more = c.head_for.new.left in
    let whole = reply_lines c.args.heads.now (answers_from stream 0 entries) in
    let inside : s.place < length entries = omega (arith, c.len-place-end.ensures) in
    let is : get_or entries s.place (entry.Answer a) ≡ entry.Answer a =
    get_or_from_slice_get entries s.place (entry_seen c.entry.result) (entry.Answer a) c.entry.ensures ∙ c.in-Some.ensures in
    elim c.match-branch-3.branch [
      | in-Some-2+in_ok-pass_reply-in-Some-2 w ↦
          let h = w.in-Some-2.asked in
          let found = subst (λ next. IfSome next (λ asked. (a.stream ≡ stream) × (s.left ≡ asked ∷ more))) w.in-Some-2.is
          c.in_ok-asked.ensures.some in
          let t = next_left reply_line i.0 whole stream s.place s.left more entries a inside is h found.1 found.0 i.2 in
          rw (w.sink-is, w.buffer-is) (
            i.0 ++ reply_line h a,
            Passes-trans _ _ _ _ _ _ i.0 (reply_line h a) i.1 w.in_ok-pass_reply-in-Some-2.ensures.passed,
            t,
            w.in_ok-pass_reply-in-Some-2.ensures.cause.cause ∙ i.3,
          )
      | in-None w ↦
          let none = subst (λ next. IfNone next (((a.stream ≢ stream) × (more ≡ s.left)) ⊎ ((s.left ≡ []) × (more ≡ [])))) w.in-None.is
          c.in_ok-asked.ensures.none in
          let t = skip_left reply_line i.0 whole stream s.place s.left more entries a inside is none i.2 in
          rw (w.sink-is, w.buffer-is) (i.0, i.1, t, i.3)
    ]

pub returns-in_err-asked-clause-prefix : goal.returns-in_err-asked-clause-prefix
returns-in_err-asked-clause-prefix g c =
    let i = c.loop-place.invariant in
    let had = c.args.buffer.now.items in
    let entries = c.args.journal.now.entries in
    let s = c.loop-place in
    let rest = reply_lines s.left (answers_from c.args.stream s.place (drop s.place entries)) in
    let prefix = WritesPrefix-passed _ _ had s.buffer.items i.0 i.1 in
    subst (WritesPrefix _ _) (append_assoc had i.0 rest ∙ ap (λ l. had ++ l) i.2) (WritesPrefix-more _ _ _ rest prefix)

pub returns-in_err-pass_reply-in-Some-2-clause-prefix : goal.returns-in_err-pass_reply-in-Some-2-clause-prefix
returns-in_err-pass_reply-in-Some-2-clause-prefix g c =
    let entries = c.args.journal.now.entries in
    let stream = c.args.stream in
    let had = c.args.buffer.now.items in
    let s = c.loop-place in
    let i = s.invariant in
    let a = answer_seen c.in-Some.answer in
    let h = c.in-Some-2.asked in
    let more = c.head_for.new.left in
    let found = subst (λ next. IfSome next (λ asked. (a.stream ≡ stream) × (s.left ≡ asked ∷ more))) c.in-Some-2.is
    c.in_ok-asked.ensures.some in
    let whole = reply_lines c.args.heads.now (answers_from stream 0 entries) in
    let rest = reply_lines more (answers_from stream (s.place + 1) (drop (s.place + 1) entries)) in
    let inside : s.place < length entries = omega (arith, c.len-place-end.ensures) in
    let is : get_or entries s.place (entry.Answer a) ≡ entry.Answer a =
    get_or_from_slice_get entries s.place (entry_seen c.entry.result) (entry.Answer a) c.entry.ensures ∙ c.in-Some.ensures in
    let t = next_left reply_line i.0 whole stream s.place s.left more entries a inside is h found.1 found.0 i.2 in
    let prefix = WritesPrefix-after _ _ _ had _ i.0 (reply_line h a) i.1 c.in_err-pass_reply-in-Some-2.ensures.prefix in
    subst (WritesPrefix _ _) (append_assoc had (i.0 ++ reply_line h a) rest ∙ ap (λ l. had ++ l) t) (WritesPrefix-more _ _ _ rest prefix)

pub loop-place-preserved-in_default : goal.loop-place-preserved-in_default
loop-place-preserved-in_default g c =
    let entries = c.args.journal.now.entries in
    let s = c.loop-place in
    let i = s.invariant in
    let e = (entry_seen c.entry.result) in
    let inside : s.place < length entries = omega (arith, c.len-place-end.ensures) in
    let whole = reply_lines c.args.heads.now (answers_from c.args.stream 0 entries) in
    let t = skip_mark reply_line i.0 whole c.args.stream 0 s.place s.left entries e
    inside (get_or_from_slice_get entries s.place e e c.entry.ensures) c.in_default.ensures i.2 in (i.0, i.1, t, i.3)

pub returns-clause-passed : goal.returns-clause-passed
returns-clause-passed g c =
    let i = c.loop-place.invariant in
    let entries = c.args.journal.now.entries in
    let past : length entries ≤ c.loop-place.place = omega (arith, c.len-place-end.ensures) in
    let all = no_reply reply_line i.0 (reply_lines c.args.heads.now (answers_from c.args.stream 0 entries)) c.args.stream 0
    c.loop-place.place c.loop-place.left entries past i.2 in
    subst (Passes _ _ c.args.buffer.now.items c.loop-place.buffer.items) all i.1

pub returns-clause-prefix : goal.returns-clause-prefix
returns-clause-prefix g c =
    let text = reply_lines c.args.heads.now (answers_from c.args.stream 0 c.args.journal.now.entries) in
    WritesPrefix-passed _ _ c.args.buffer.now.items c.loop-place.buffer.items text (returns-clause-passed g c)
