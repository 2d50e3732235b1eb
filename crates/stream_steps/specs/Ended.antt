-- What the acknowledgement of a replica makes of the open call.
use Rattle.std.specs.Prelude.{ℕ, Bool, true, false, List, slice_set}
use Rattle.volume_model.specs.declared.mode.Mode.{Mode}
use Rattle.step_answers.specs.declared.parts.Part.TheVariants.{Acked}
use Rattle.step_answers.specs.declared.answers.NotThis.{NotThis}
use Rattle.stream_steps.specs.Mine.{Mine, OwnCall}
use Rattle.stream_steps.specs.Steps.{AcksTo, Answers}
use Rattle.stream_steps.specs.Against.{RefusesEnd}

-- the call, acknowledged by that replica
abbrev pub acked_by : OwnCall → ℕ → OwnCall
acked_by o r = record o { parts = slice_set o.parts r Acked }

-- a replica has acknowledged it, and it cannot end yet
pub record AcksOnly (o : OwnCall) (r : ℕ) (modes : List Mode) (m m2 : Mine) : Type 0 where
  pub acks : AcksTo o r m m2
  pub against : NotThis
  pub why : RefusesEnd modes (acked_by o r) against

-- it has, and the call is answered thereby, or cannot end yet
abbrev pub AcksOrEnds : OwnCall → ℕ → List Mode → Bool → Mine → Mine → Type 0
AcksOrEnds o r modes true m m2 = Answers (acked_by o r) m m2
AcksOrEnds o r modes false m m2 = AcksOnly o r modes m m2
