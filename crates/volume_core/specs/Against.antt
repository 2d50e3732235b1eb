-- What stood against a step that was refused.
use Rattle.std.specs.Prelude.{◌≡◌, ◌≢◌, ℕ, ◌≤◌, ◌⊎◌, true}
use Rattle.volume_model.specs.declared.mode.Mode.TheVariants.{Rw, Err}
use Rattle.volume_model.specs.Faults.{last_count}
use Rattle.volume_model.specs.Modes.{mode_of}
use Rattle.step_answers.specs.declared.parts.Part.TheVariants.{Acked}
use Rattle.step_answers.specs.Parts.{part_at, is_pending_at, IsTaken}
use Rattle.open_calls.specs.Calls.{open_at}
use Rattle.step_answers.specs.declared.answers.NotThis.{NotThis}
use Rattle.step_answers.specs.declared.answers.NotThis.TheVariants as against
use Rattle.volume_core.specs.Places.{IsWriteAt, IsReadAt, IsCallAt}
use Rattle.volume_core.specs.State.{State, modes_in}

-- a replica takes a write: it is no started write, or the replica has failed
abbrev pub AgainstWrite : State → ℕ → ℕ → NotThis → Type 0
AgainstWrite s t r against.Ticket = (i : ℕ) → IsWriteAt s t i → ⊥
AgainstWrite s t r (against.Mode m) = (m ≡ mode_of (modes_in s) r) × (m ≡ Err)
AgainstWrite s t r why = ⊥

-- a replica gives the bytes of a read: it is no started read, or the replica is not read
abbrev pub AgainstRead : State → ℕ → ℕ → NotThis → Type 0
AgainstRead s t r against.Ticket = (i : ℕ) → IsReadAt s t i → ⊥
AgainstRead s t r (against.Mode m) = (m ≡ mode_of (modes_in s) r) × (m ≢ Rw)
AgainstRead s t r why = ⊥

-- the replica had no step of the started call of that ticket
abbrev pub HadNoStep : State → ℕ → ℕ → Type 0
HadNoStep s t r = (i : ℕ) × IsCallAt s t i × (¬ IsTaken (part_at (open_at s.calls i).parts r))

-- a replica acknowledges: it is no started read or write, or the replica had no step of it
abbrev pub AgainstAck : State → ℕ → ℕ → NotThis → Type 0
AgainstAck s t r against.Ticket = (i : ℕ) → IsCallAt s t i → ⊥
AgainstAck s t r (against.Mode m) = (m ≡ mode_of (modes_in s) r) × (m ≡ Err) × HadNoStep s t r
AgainstAck s t r against.Page = ⊥
AgainstAck s t r (against.Pending q) = (q ≡ r) × (mode_of (modes_in s) r ≢ Err) × HadNoStep s t r
AgainstAck s t r (against.Count count) = ⊥

-- a line to a replica fails: the replica had failed, or the count is not above the line's last
abbrev pub AgainstFault : State → ℕ → ℕ → ℕ → NotThis → Type 0
AgainstFault s stream r count (against.Mode m) = (m ≡ mode_of (modes_in s) r) × (m ≡ Err)
AgainstFault s stream r count (against.Count last) = (last ≡ last_count stream r s.book.entries) × (count ≤ last)
AgainstFault s stream r count why = ⊥

-- the write at i is not acknowledged by a replica that has not failed, or the read at i by none, and that one is read
abbrev pub IsPendingWrite : State → ℕ → ℕ → Type 0
IsPendingWrite s i r = is_pending_at (mode_of (modes_in s) r) (part_at (open_at s.calls i).parts r) ≡ true

abbrev pub IsPendingRead : State → ℕ → ℕ → Type 0
IsPendingRead s i r = (mode_of (modes_in s) r ≡ Rw) × ((q : ℕ) → part_at (open_at s.calls i).parts q ≢ Acked)

-- a call ends: it is no started read or write, or that replica has still to acknowledge it
abbrev pub AgainstEnd : State → ℕ → NotThis → Type 0
AgainstEnd s t against.Ticket = ((i : ℕ) → IsWriteAt s t i → ⊥) × ((i : ℕ) → IsReadAt s t i → ⊥)
AgainstEnd s t (against.Pending r) =
    ((i : ℕ) × IsWriteAt s t i × IsPendingWrite s i r) ⊎ ((i : ℕ) × IsReadAt s t i × IsPendingRead s i r)
AgainstEnd s t why = ⊥
