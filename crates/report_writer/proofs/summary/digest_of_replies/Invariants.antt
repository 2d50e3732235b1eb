use Rattle.std.proofs.Common.{◌≡◌, ◌++◌, drop}
use Rattle.volume_model.specs.History.{answers_from}
use Rattle.run_report.specs.Summary.{replying_frames}
use Rattle.report_writer.proofs.summary.digest_of_replies.Given as goal

-- what was digested, and then the frames that reply to the headers left, are all of them
abbrev pub invariant-loop-place : goal.invariant-loop-place
invariant-loop-place l =
    l.digest ++ replying_frames l.left (answers_from l.stream l.place (drop l.place l.journal.entries))
    ≡ replying_frames l.heads (answers_from l.stream 0 l.journal.entries)
