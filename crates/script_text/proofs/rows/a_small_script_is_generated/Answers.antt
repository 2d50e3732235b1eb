use Rattle.std.proofs.Common.{refl}
use Rattle.script_text.specs.Generated.{next_state, drawn_in}
use Rattle.script_text.proofs.rows.a_small_script_is_generated.Goals as goal

pub returns-clause-streams : goal.returns-clause-streams
unfolding next_state drawn_in
returns-clause-streams c = refl

pub returns-clause-header : goal.returns-clause-header
unfolding next_state drawn_in
returns-clause-header c = refl

pub returns-clause-body : goal.returns-clause-body
unfolding next_state drawn_in
returns-clause-body c = refl
