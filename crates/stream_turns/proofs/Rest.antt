-- Where no stream has anything open, nothing is open.
use Rattle.std.proofs.Common.{◌≡◌, ℕ, ◌<◌, Bool, true, false, cond, eqb, inl, inr, List, [], ◌∷◌, length, refl, arith, eq-eqb}
use Rattle.std.proofs.lemmas.Bool.{cases_lt}
use Rattle.std.proofs.lemmas.List.{get_or_past}
use Rattle.range_turns.specs.declared.ticket.Ticket.{Ticket}
use Rattle.open_calls.specs.declared.open_call.OpenCall.{OpenCall}
use Rattle.open_calls.specs.Calls.{open_at}
use Rattle.open_calls.specs.declared.maint.MaintCall.{MaintCall}
use Rattle.open_calls.specs.Maint.{command_at}
use Rattle.volume_core.specs.State.{State, gave_up_at}
use Rattle.volume_core.specs.Sound.{IsSound, NoneGaveUp}
use Rattle.volume_core.specs.Streams.{running, turning, calls_in, commands_in}

not_none : {A : Type 0} (b : Bool) (x : A) (xs : List A) → b ≡ true → cond b (x ∷ xs) xs ≡ [] → ⊥
not_none true x xs is e = cc
not_none false x xs is e = cc

no_calls : (m : ℕ) (ts : List Ticket) (cs : List OpenCall) → length cs ≡ length ts
    → ((i : ℕ) → i < length ts → (open_at cs i).stream < m) → ((n : ℕ) → n < m → calls_in n ts cs ≡ []) → ts ≡ []
no_calls m [] cs paired within none = refl
no_calls m (t ∷ ts) [] paired within none = absurd (omega (arith, paired))
no_calls m (t ∷ ts) (c ∷ cs) paired within none =
    absurd (not_none (eqb c.stream c.stream) (t, c) (calls_in c.stream ts cs) (eq-eqb c.stream c.stream refl)
    (none c.stream (within 0 (omega arith))))

no_commands : (m : ℕ) (ts : List Ticket) (cs : List MaintCall) → length cs ≡ length ts
    → ((k : ℕ) → k < length cs → (command_at cs k).stream < m) → ((n : ℕ) → n < m → commands_in n ts cs ≡ []) → cs ≡ []
no_commands m ts [] paired within none = refl
no_commands m [] (c ∷ cs) paired within none = absurd (omega (arith, paired))
no_commands m (t ∷ ts) (c ∷ cs) paired within none =
    absurd (not_none (eqb c.stream c.stream) (t, c) (commands_in c.stream ts cs) (eq-eqb c.stream c.stream refl)
    (none c.stream (within 0 (omega arith))))

module _ (s : State) (sound : IsSound s) where
  pub rest_is : ((n : ℕ) → n < length s.indices → running s n ≡ []) → s.tickets ≡ []
  rest_is none = no_calls (length s.indices) s.tickets s.calls sound.on.clients.paired (λ i low. (sound.on.clients.fits i low).stream) none

  pub turns_are : ((n : ℕ) → n < length s.indices → turning s n ≡ []) → s.commands ≡ []
  turns_are none = no_commands (length s.indices) s.maint s.commands sound.maint.queued.paired sound.maint.queued.within none

  pub none_gave_up : ((n : ℕ) → n < length s.indices → gave_up_at s.gave_up n ≡ false) → NoneGaveUp s.gave_up
  none_gave_up each n = elim (cases_lt n (length s.indices)) [
    | inl low ↦ each n low
    | inr high ↦ get_or_past s.gave_up n false (omega (arith, high, sound.streams))
  ]
