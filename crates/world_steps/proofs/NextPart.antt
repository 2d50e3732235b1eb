-- What a purge is told to do next, of a World that was seen as s and is found as x.
use Rattle.std.proofs.Common.{◌≡◌, ℕ, ◌<◌, Bool, true, false, ⊎_elim, List, [], ◌∷◌, length, Some, IfSome, subst, sym, refl, ap, ◌∙◌}
use Rattle.std.proofs.Common.{arith}
use Rattle.std.specs.Option.{option_map}
use Rattle.std.proofs.lemmas.Bool.{cases_eq}
use Rattle.volume_model.specs.declared.command.Command.TheVariants as command
use Rattle.range_turns.specs.declared.ticket.Ticket.{Ticket}
use Rattle.open_calls.specs.Calls.{open_at}
use Rattle.open_calls.specs.Whole.{IsWhole}
use Rattle.volume_core.specs.State.{State, modes_in, told_of}
use Rattle.volume_core.specs.Sound.{IsSound}
use Rattle.volume_core.specs.Streams.{running}
use Rattle.volume_core.proofs.CallLemmas.{calls-none}
use Rattle.step_answers.specs.declared.answers.NextPart.{NextPart}
use Rattle.step_answers.specs.declared.answers.NextPart.TheVariants as next
use Rattle.volume_maint.specs.Answers as world
use Rattle.volume_core.specs.State.{spot_of}
use Rattle.stream_steps.specs.Mine.{Mine, OwnCall}
use Rattle.stream_steps.specs.Maint.{HasTurn, IsNext}
use Rattle.stream_steps.specs.Seen.{FindsNext}
use Rattle.world_holder.specs.View.{view, IsAlone, IsFound}
use Rattle.world_holder.proofs.Grow.{found_same}
use Rattle.world_steps.proofs.Shapes.{has_turn}
use Rattle.world_steps.specs.Seen.{number_of, seen_of}

-- where no stream has a call open, there is no ticket
at_rest : (s : State) → IsSound s → ((n : ℕ) → running s n ≡ []) → s.tickets ≡ []
at_rest s ok none = by s.tickets refl
  where
    by : (ts : List Ticket) → s.tickets ≡ ts → s.tickets ≡ []
    by [] e = e
    by (t ∷ ts) e =
        let within : 0 < length s.tickets = subst (λ (l : List Ticket). 0 < length l) (sym e) (omega arith) in
        absurd (calls-none (open_at s.calls 0).stream s.tickets s.calls 0 (none (open_at s.calls 0).stream) within
        (omega (arith, within, ok.on.clients.paired)) refl)

-- asked under its turn, one that is alone is never told to wait
goes_next : (n t : ℕ) (s : State) (p : NextPart) → IsSound s → IsAlone n s → world.IsNextPart s p
    → ((o : OwnCall) × HasTurn t command.Purge o (view true n s)) → IsNext p (record { spot = spot_of s; entries = s.book.entries })
goes_next n t s (next.Part f) ok alone y h = y.1
goes_next n t s next.Nothing ok alone y h = (y.2, y.1)
goes_next n t s next.NoReplica ok alone y h = y
goes_next n t s (next.After number) ok alone y h =
    let one = has_turn true n s h.0 command.Purge ok h.1.is h.1.call h.1.wants in
    let none = at_rest s ok (λ m. ⊎_elim (λ is. ap (running s) is ∙ one.calls) (λ other. alone.calls m other) (cases_eq m n)) in
    let st = subst (IsWhole (told_of s) (modes_in s) s.tickets s.calls s.nodes) y.1 ok.whole in
    absurd (omega (arith, st.stands.within, ap length none))

pub looks_next : (a : Bool) (n : ℕ) (s x : State) → IsFound a n s x → (t : ℕ) (p : NextPart) → world.IsNextPart x p
    → ((o : OwnCall) × HasTurn t command.Purge o (view a n s)) → IfSome (view a n s).log (IsNext p)
looks_next a n s x found t p y h =
    subst (λ (m : Mine). ((o : OwnCall) × HasTurn t command.Purge o m) → IfSome m.log (IsNext p)) (found_same a n s x found) (by a found) h
  where
    by : (b : Bool) → IsFound b n s x → ((o : OwnCall) × HasTurn t command.Purge o (view b n x)) → IfSome (view b n x).log (IsNext p)
    by true f k = goes_next n t x p f.sound (f.same refl).1 y k
    by false f k = tt

-- and what is found of it
pub finds_next : (s : State) (p : NextPart) → world.IsNextPart s p → FindsNext p (seen_of s)
finds_next s (next.Part f) y = (ap (option_map number_of) y.0, y.1)
finds_next s next.Nothing y = (ap (option_map number_of) y.0, (y.2, y.1))
finds_next s next.NoReplica y = y
finds_next s (next.After number) y = ap (option_map number_of) y.1 ∙ ap Some y.2
