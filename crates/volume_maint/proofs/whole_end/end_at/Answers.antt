use Rattle.std.proofs.Common.{◌≡◌, true, ◌∙◌, rules}
use Rattle.std.specs.Prelude.{Some, is_some}
use Rattle.volume_model.specs.Modes.{source_of, HasSource}
use Rattle.volume_core.specs.State.{State, state_of, modes_in}
use Rattle.volume_maint.specs.Answers.{whole_done}
use Rattle.volume_maint.proofs.WholeSound.{whole_if}
use Rattle.volume_maint.proofs.WholeAsked.{has_first}
use Rattle.volume_maint.proofs.whole_end.end_at.Goals.{in-Purge-true, in-Purge-false, in-Barrier-default, in_default-true, in_default-false}
use Rattle.volume_maint.proofs.whole_end.end_at.Goals as goal

pub returns-clause-done : goal.returns-clause-done
returns-clause-done c =
    let s : State = state_of c.args.world.now in
    let is : s.whole ≡ Some c.in-Some.whole = search rules in
    let first : c.is_some-is_read.result ≡ is_some (source_of (modes_in s)) = search rules in
    whole_if s.whole c.in-Some.whole (λ w. HasSource (modes_in s) → state_of c.match-whole.world ≡ whole_done s c.args.i w.op) is
    (λ source. let read : c.is_some-is_read.result ≡ true = first ∙ has_first (modes_in s) source in
    elim c.match-whole.branch [
      | in-Purge-true w ↦ search rules
      | in-Purge-false w ↦ search rules
      | in-Barrier-default w ↦ search rules
      | in_default-true w ↦ search rules
      | in_default-false w ↦ search rules
    ])
