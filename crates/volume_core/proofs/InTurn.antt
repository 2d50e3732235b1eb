-- Which command has the maintenance turn: the first of all.
use Rattle.std.proofs.Common.{◌≡◌, ◌≢◌, ℕ, zero, suc, ◌<◌, Bool, true, false, cond, eqb, List, [], ◌∷◌, length, inl, inr}
use Rattle.std.proofs.Common.{refl, sym, ap, ◌∙◌, subst, arith}
use Rattle.std.specs.List.{Any}
use Rattle.std.proofs.lemmas.Bool.{eqb-true}
use Rattle.volume_model.proofs.PurgeLemmas.{any_cases}
use Rattle.range_turns.specs.declared.ticket.Kind.{Kind}
use Rattle.range_turns.specs.declared.ticket.Kind.TheVariants as kind
use Rattle.range_turns.specs.declared.ticket.Ticket.{Ticket}
use Rattle.range_turns.specs.Order.{ticket_at, AreInOrder, ConflictBy}
use Rattle.open_calls.specs.declared.maint.MaintCall.{MaintCall}
use Rattle.open_calls.specs.Maint.{command_at}
use Rattle.volume_core.specs.State.{State}
use Rattle.volume_core.specs.Sound.{IsSound}
use Rattle.volume_core.specs.Streams.{commands_in, IsInTurn}

in_way : (a b : Kind) (t u : Ticket) → a ≡ kind.Whole → b ≡ kind.Whole → ConflictBy a b t.range u.range
in_way a b t u first second = subst (λ (k : Kind × Kind). ConflictBy k.0 k.1 t.range u.range) (λ i. (sym first i, sym second i)) tt

-- of tickets for the whole volume only the first has started
pub first_started : (ts : List Ticket) → AreInOrder ts → ((k : ℕ) → k < length ts → (ticket_at ts k).kind ≡ kind.Whole)
    → (k : ℕ) → k < length ts → (ticket_at ts k).started ≡ true → k ≡ 0
first_started ts order kinds zero less started = refl
first_started ts order kinds (suc k) less started =
    absurd (order.apart (suc k) less started zero (omega arith)
    (in_way (ticket_at ts zero).kind (ticket_at ts (suc k)).kind (ticket_at ts zero) (ticket_at ts (suc k))
    (kinds zero (omega (arith, less))) (kinds (suc k) less)))

abbrev HasStarted : Ticket × MaintCall → Type 0
HasStarted p = p.0.started ≡ true

-- a started command of a stream, by its place
record IsStartedAt (m : ℕ) (ts : List Ticket) (cs : List MaintCall) (k : ℕ) : Type 0 where
  within : k < length ts
  started : (ticket_at ts k).started ≡ true
  own : (command_at cs k).stream ≡ m

started_at : (m : ℕ) (ts : List Ticket) (cs : List MaintCall) → Any HasStarted (commands_in m ts cs)
    → (k : ℕ) × IsStartedAt m ts cs k
started_at m [] cs a = absurd (omega (arith, a.2))
started_at m (t ∷ ts) [] a = absurd (omega (arith, a.2))
started_at m (t ∷ ts) (c ∷ cs) a = by (λ rest. started_at m ts cs rest) (eqb c.stream m) refl a
  where
    later : (k : ℕ) × IsStartedAt m ts cs k → (k : ℕ) × IsStartedAt m (t ∷ ts) (c ∷ cs) k
    later at = (suc at.0, record { within = omega (arith, at.1.within); started = at.1.started; own = at.1.own })

    by : (Any HasStarted (commands_in m ts cs) → (k : ℕ) × IsStartedAt m ts cs k) → (b : Bool) → eqb c.stream m ≡ b
        → Any HasStarted (cond b ((t, c) ∷ commands_in m ts cs) (commands_in m ts cs))
        → (k : ℕ) × IsStartedAt m (t ∷ ts) (c ∷ cs) k
    by more true own some = elim (any_cases HasStarted (t, c) (commands_in m ts cs) some) [
      | inl here ↦ (zero, record { within = omega arith; started = here; own = eqb-true c.stream m own })
      | inr rest ↦ later (more rest)
    ]
    by more false own some = later (more some)

-- the first command is the stream's whose command has the turn
pub in_turn_first : (s : State) → IsSound s → (m : ℕ) → IsInTurn m s → (command_at s.commands 0).stream ≡ m
in_turn_first s ok m turn =
    let at = started_at m s.maint s.commands turn in
    ap (λ (k : ℕ). (command_at s.commands k).stream)
    (sym (first_started s.maint ok.maint.queued.order ok.maint.queued.kinds at.0 at.1.within at.1.started)) ∙ at.1.own

-- so that no other stream's has it
pub not_in_turn : (s : State) → IsSound s → (n m : ℕ) → (command_at s.commands 0).stream ≡ n → m ≢ n → IsInTurn m s → ⊥
not_in_turn s ok n m own other turn = other (sym (in_turn_first s ok m turn) ∙ own)
