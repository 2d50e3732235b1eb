-- What a stream has open, and what a World has of which no stream has anything open.
use Rattle.std.proofs.Common.{◌≡◌, ◌≢◌, ℕ, ◌<◌, ⊎_elim, List, [], ◌∷◌, ◌++◌, length, map, subst, sym, refl, ap, ◌∙◌}
use Rattle.std.proofs.Common.{arith}
use Rattle.std.proofs.lemmas.Bool.{cases_eq}
use Rattle.range_turns.specs.declared.ticket.Ticket.{Ticket}
use Rattle.open_calls.specs.declared.open_call.OpenCall.{OpenCall}
use Rattle.open_calls.specs.Calls.{open_at}
use Rattle.open_calls.specs.declared.maint.MaintCall.{MaintCall}
use Rattle.open_calls.specs.Maint.{command_at}
use Rattle.volume_core.specs.State.{State}
use Rattle.volume_core.specs.Sound.{IsSound}
use Rattle.volume_core.specs.Streams.{running, turning}
use Rattle.volume_core.proofs.CallLemmas.{calls-none}
use Rattle.world_holder.proofs.Found.{has_no_command}
use Rattle.world_holder.specs.View.{own_turn, own_at, runs}

-- ---- of one stream

-- it has neither a command of the turn nor a call
pub record HasNone (n : ℕ) (s : State) : Type 0 where
  pub turns : turning s n ≡ []
  pub calls : running s n ≡ []

none_by : (n : ℕ) (s : State) (ms : List (Ticket × MaintCall)) (cs : List (Ticket × OpenCall)) → turning s n ≡ ms
    → running s n ≡ cs → map own_turn ms ++ map (own_at s.whole) cs ≡ [] → HasNone n s
none_by n s [] [] a b e = record { turns = a; calls = b }
none_by n s [] (c ∷ cs) a b e = absurd cc
none_by n s (m ∷ ms) cs a b e = absurd cc

pub has_none : (n : ℕ) (s : State) → runs n s ≡ [] → HasNone n s
has_none n s e = none_by n s (turning s n) (running s n) refl refl e

-- ---- of all

-- what is so of the stream and of each other is so of all
pub of_all : {A : Type 0} (n : ℕ) (f : ℕ → A) (a : A) → f n ≡ a → ((m : ℕ) → m ≢ n → f m ≡ a) → (m : ℕ) → f m ≡ a
of_all n f a own others m = ⊎_elim (λ is. ap f is ∙ own) (λ other. others m other) (cases_eq m n)

-- where no stream has a call, there is no ticket
pub no_tickets : (s : State) → IsSound s → ((m : ℕ) → running s m ≡ []) → s.tickets ≡ []
no_tickets s ok none = by s.tickets refl
  where
    by : (ts : List Ticket) → s.tickets ≡ ts → s.tickets ≡ []
    by [] e = e
    by (t ∷ ts) e =
        let within : 0 < length s.tickets = subst (λ (l : List Ticket). 0 < length l) (sym e) (omega arith) in
        let stream = (open_at s.calls 0).stream in
        absurd (calls-none stream s.tickets s.calls 0 (none stream) within (omega (arith, within, ok.on.clients.paired)) refl)

-- where none has a command, there is none
pub no_commands : (s : State) → IsSound s → ((m : ℕ) → turning s m ≡ []) → s.commands ≡ []
no_commands s ok none = by s.commands refl
  where
    by : (cs : List MaintCall) → s.commands ≡ cs → s.commands ≡ []
    by [] e = e
    by (c ∷ cs) e = absurd (has_no_command c.stream s ok (none c.stream) 0
        (subst (λ (l : List MaintCall). 0 < length l) (sym e) (omega arith)) (ap (λ l. (command_at l 0).stream) e))
