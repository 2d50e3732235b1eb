-- What stood against a step of the stream that was refused: of modes that were seen as it was taken.
use Rattle.std.specs.Prelude.{◌≡◌, ◌≢◌, ℕ, ◌≤◌, List, true}
use Rattle.volume_model.specs.declared.call.Call.{Call}
use Rattle.volume_model.specs.declared.call.Call.TheVariants as call
use Rattle.volume_model.specs.declared.mode.Mode.{Mode}
use Rattle.volume_model.specs.declared.mode.Mode.TheVariants.{Rw, Err}
use Rattle.volume_model.specs.Faults.{last_count}
use Rattle.volume_model.specs.Modes.{mode_of}
use Rattle.step_answers.specs.declared.parts.Part.{Part}
use Rattle.step_answers.specs.declared.parts.Part.TheVariants.{Acked}
use Rattle.step_answers.specs.Parts.{part_at, is_pending_at, IsTaken}
use Rattle.step_answers.specs.declared.answers.NotThis.{NotThis}
use Rattle.step_answers.specs.declared.answers.NotThis.TheVariants as against
use Rattle.stream_steps.specs.Mine.{Mine, OwnCall, entries_in}

-- a replica takes the open write: it has failed
abbrev pub AgainstTake : List Mode → ℕ → NotThis → Type 0
AgainstTake modes r (against.Mode m) = (m ≡ mode_of modes r) × (m ≡ Err)
AgainstTake modes r why = ⊥

-- a replica gives the bytes of the open read: it is not read
abbrev pub AgainstGive : List Mode → ℕ → NotThis → Type 0
AgainstGive modes r (against.Mode m) = (m ≡ mode_of modes r) × (m ≢ Rw)
AgainstGive modes r why = ⊥

-- a replica acknowledges the open call: it had no step of it, as one that failed before the call started
abbrev pub RefusesAck : List Mode → OwnCall → ℕ → NotThis → Type 0
RefusesAck modes o r (against.Mode m) = (m ≡ mode_of modes r) × (m ≡ Err) × (¬ IsTaken (part_at o.parts r))
RefusesAck modes o r (against.Pending q) = (q ≡ r) × (¬ IsTaken (part_at o.parts r))
RefusesAck modes o r why = ⊥

-- the stream's line to a replica fails: it had failed, or the count is not above the line's last
abbrev pub RefusesFault : List Mode → Mine → ℕ → ℕ → NotThis → Type 0
RefusesFault modes m r count (against.Mode mode) = (mode ≡ mode_of modes r) × (mode ≡ Err)
RefusesFault modes m r count (against.Count last) =
    (last ≡ last_count m.stream r (entries_in m.entries)) × (count ≤ last)
RefusesFault modes m r count why = ⊥

-- that replica has still to acknowledge the call: of a read, it is read and none has
abbrev pub AwaitsIn : Call → List Mode → List Part → ℕ → Type 0
AwaitsIn (call.Write offset bytes) modes parts r = is_pending_at (mode_of modes r) (part_at parts r) ≡ true
AwaitsIn c modes parts r = (mode_of modes r ≡ Rw) × ((q : ℕ) → part_at parts q ≢ Acked)

-- the open call ends
abbrev pub RefusesEnd : List Mode → OwnCall → NotThis → Type 0
RefusesEnd modes o (against.Pending r) = AwaitsIn o.call modes o.parts r
RefusesEnd modes o why = ⊥
