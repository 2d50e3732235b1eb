use Rattle.std.proofs.Common.{◌≡◌, ◌++◌, map, drop}
use Rattle.load_laws.specs.Result.{replies_of}
use Rattle.volume_model.specs.History.{answers_from}
use Rattle.packed_entries.specs.View.{reply_seen}
use Rattle.report_writer.proofs.summary.replies_to.Given as goal

-- the replies so far, and then those of the entries left, are all of them
abbrev pub invariant-loop-place : goal.invariant-loop-place
invariant-loop-place l =
    map reply_seen l.replies.items
    ++ map (λ p. p.1.reply) (answers_from l.stream l.place (drop l.place l.journal.entries))
    ≡ replies_of l.stream l.journal.entries
