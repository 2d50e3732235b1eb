use Rattle.std.proofs.Common.{refl}
use Rattle.script_text.specs.Generated.{next_state, drawn_in}
use Rattle.script_text.proofs.rows.these_numbers_are_drawn.Goals as goal

pub returns-clause-first : goal.returns-clause-first
unfolding next_state drawn_in
returns-clause-first c = refl

pub returns-clause-second : goal.returns-clause-second
unfolding next_state drawn_in
returns-clause-second c = refl

pub returns-clause-frame : goal.returns-clause-frame
unfolding next_state drawn_in
returns-clause-frame c = refl

pub returns-clause-next : goal.returns-clause-next
unfolding next_state drawn_in
returns-clause-next c = refl
