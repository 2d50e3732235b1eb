-- What asking a replica for its part comes to.
use Rattle.std.specs.Prelude.{ℕ, Bool, true, false, Option, Result, Ok}
use Rattle.std.specs.Prelude.{Err as Failed}
use Rattle.step_answers.specs.declared.answers.NotThis.{NotThis}
use Rattle.client_worker.specs.declared.opened.AfterPart.{AfterPart}
use Rattle.client_worker.specs.declared.opened.AfterPart.TheVariants as after

-- what an acknowledgement comes to that is answered so, if that replica is next
abbrev pub after_ack : Result Bool NotThis → Option ℕ → AfterPart
after_ack (Ok true) next = after.Answered
after_ack (Ok false) next = after.GoesOn next
after_ack (Failed why) next = after.GoesOn next

abbrev pub is_answered : AfterPart → Bool
is_answered after.Answered = true
is_answered (after.GoesOn next) = false
