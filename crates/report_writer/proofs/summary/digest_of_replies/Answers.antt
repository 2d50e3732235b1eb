use Rattle.std.proofs.Common.{◌≡◌, ◌≢◌, ◌⊎◌, ◌<◌, ◌≤◌, ◌+◌, [], ◌∷◌, ◌++◌, subst, length, get_or, drop, ap, ◌∙◌, arith}
use Rattle.std.proofs.lemmas.Option.{get_or_from_slice_get}
use Rattle.digest.specs.Digest.{digest_text}
use Rattle.volume_model.specs.History.{answers_from}
use Rattle.volume_model.specs.declared.entry.Entry.TheVariants as entry
use Rattle.run_report.specs.Summary.{replying_frame, replying_frames}
use Rattle.run_report.proofs.ReportLemmas.{skip_mark, no_reply}
use Rattle.packed_entries.specs.View.{entry_seen, answer_seen}
use Rattle.report_writer.proofs.HeadsLemmas.{next_left, skip_left}
use Rattle.report_writer.proofs.summary.digest_of_replies.Goals as goal
use Rattle.report_writer.proofs.summary.digest_of_replies.Goals.{in-Some-2+in_ok-digest_reply-in-Some-2, in-None}
use Rattle.std.specs.Prelude.{IfSome, IfNone}

pub loop-place-preserved : goal.loop-place-preserved
loop-place-preserved c =
    let entries = c.args.journal.now.entries in
    let stream = c.args.stream in
    let s = c.loop-place in
    let a = answer_seen c.in-Some.answer in
    let more = c.head_for.new.left in
    let whole = replying_frames c.args.heads.now (answers_from stream 0 entries) in
    let behind = answers_from stream (s.place + 1) (drop (s.place + 1) entries) in
    let inside : s.place < length entries = omega (arith, c.len-place-end.ensures) in
    let is : get_or entries s.place (entry.Answer a) ≡ entry.Answer a =
    get_or_from_slice_get entries s.place (entry_seen c.entry.result) (entry.Answer a) c.entry.ensures ∙ c.in-Some.ensures in
    elim c.match-branch-3.branch [
      | in-Some-2+in_ok-digest_reply-in-Some-2 w ↦
          let h = w.in-Some-2.asked in
          let found = subst (λ next. IfSome next (λ asked. (a.stream ≡ stream) × (s.left ≡ asked ∷ more))) w.in-Some-2.is
          c.in_ok-asked.ensures.some in
          let t = next_left replying_frame s.digest whole stream s.place s.left more entries a inside is h found.1 found.0 s.invariant in
          rw w.digest-is (ap (λ l. l ++ replying_frames more behind) w.in_ok-digest_reply-in-Some-2.ensures.ok ∙ t)
      | in-None w ↦
          let none = subst (λ next. IfNone next (((a.stream ≢ stream) × (more ≡ s.left)) ⊎ ((s.left ≡ []) × (more ≡ [])))) w.in-None.is
          c.in_ok-asked.ensures.none in
          rw w.digest-is (skip_left replying_frame s.digest whole stream s.place s.left more entries a inside is none s.invariant)
    ]

pub loop-place-preserved-in_default : goal.loop-place-preserved-in_default
loop-place-preserved-in_default c =
    let entries = c.args.journal.now.entries in
    let s = c.loop-place in
    let e = (entry_seen c.entry.result) in
    let inside : s.place < length entries = omega (arith, c.len-place-end.ensures) in
    skip_mark replying_frame s.digest (replying_frames c.args.heads.now (answers_from c.args.stream 0 entries)) c.args.stream 0
    s.place s.left entries e inside (get_or_from_slice_get entries s.place e e c.entry.ensures) c.in_default.ensures s.invariant

pub returns : goal.returns
returns c =
    let s = c.loop-place in
    let entries = c.args.journal.now.entries in
    let past : length entries ≤ s.place = omega (arith, c.len-place-end.ensures) in
    c.text.ensures.value ∙ ap digest_text (no_reply replying_frame s.digest
    (replying_frames c.args.heads.now (answers_from c.args.stream 0 entries)) c.args.stream 0 s.place s.left entries past s.invariant)
