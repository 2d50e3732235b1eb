use Rattle.std.proofs.Common.{◌≤◌, length, drop}
use Rattle.session_serve.specs.Replies.{HasNoAnswer}
use Rattle.session_serve.proofs.reply.last_answer.Given as goal

-- from the place on there is no answer of the stream
abbrev pub invariant-loop-place : goal.invariant-loop-place
invariant-loop-place l = record {
  within : l.place ≤ length l.journal.entries;
  none : HasNoAnswer l.stream (drop l.place l.journal.entries);
}

abbrev pub decreases-loop-place : goal.decreases-loop-place
decreases-loop-place l = l.place
