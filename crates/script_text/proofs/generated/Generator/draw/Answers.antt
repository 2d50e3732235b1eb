use Rattle.std.proofs.Common.{◌*◌, ◌^◌, refl}
use Rattle.std.proofs.Math.Nat.{mod-add-mod}
use Rattle.script_text.specs.Generated.{next_state, drawn_in}
use Rattle.script_text.proofs.generated.Generator.draw.Goals as goal

pub returns-clause-state : goal.returns-clause-state
unfolding next_state
returns-clause-state c = mod-add-mod (c.args.self.now.state * 6364136223846793005) (2 ^ 64) 1442695040888963407

pub returns-clause-drawn : goal.returns-clause-drawn
unfolding drawn_in
returns-clause-drawn c = refl
