-- Where the open call and the command of a stream stand in a World.
use Rattle.std.proofs.Common.{◌≡◌, ◌≢◌, ℕ, ◌<◌, ⊎_elim, Bool, cond, true, List, [], ◌∷◌, length, map, Option, None, Some, IfSome, subst}
use Rattle.std.proofs.Common.{sym, refl, ap, ◌∙◌, arith, ne_eqb}
use Rattle.std.proofs.lemmas.Bool.{cases_order}
use Rattle.range_turns.specs.declared.ticket.Kind.TheVariants as kind
use Rattle.range_turns.specs.declared.ticket.Ticket.{Ticket}
use Rattle.range_turns.specs.Order.{ticket_at, StandsAt, Conflict, ConflictBy, AreNumbered}
use Rattle.open_calls.specs.declared.open_call.OpenCall.{OpenCall}
use Rattle.open_calls.specs.Calls.{open_at}
use Rattle.open_calls.specs.declared.maint.MaintCall.{MaintCall}
use Rattle.open_calls.specs.declared.whole.Whole.{Whole}
use Rattle.open_calls.specs.Maint.{command_at}
use Rattle.volume_core.specs.State.{State}
use Rattle.volume_core.specs.Sound.{IsSound}
use Rattle.volume_core.specs.Streams.{MayGo, running, turning}
use Rattle.volume_core.proofs.CallLemmas.{calls-place, calls-one}
use Rattle.volume_core.specs.Turn.{ForAsker}
use Rattle.volume_maint.specs.Places.{ForCaller}
use Rattle.desk_lock.specs.Account.{Each}
use Rattle.world_holder.specs.Laid.{parts_for, parts_of}
use Rattle.world_steps.proofs.Queue.{commands-one, commands-place, none_numbered}

unique : (ts : List Ticket) → AreNumbered ts → (i j : ℕ) → i < length ts → j < length ts
    → (ticket_at ts j).number ≡ (ticket_at ts i).number → j ≡ i
unique ts numbered i j a b e =
    ⊎_elim (λ same. same)
    (λ other. ⊎_elim (λ below. absurd (numbered j i below a e)) (λ above. absurd (numbered i j above b (sym e))) other)
    (cases_order j i)

stands_there : (ts : List Ticket) → AreNumbered ts → (i number : ℕ) → i < length ts → (ticket_at ts i).number ≡ number
    → StandsAt ts number i
stands_there ts numbered i number within is = record {
  within = within;
  is = is;
  only = λ j there e. unique ts numbered i j within there (e ∙ sym is);
}

-- ---- a call

pub record IsCallOf (n : ℕ) (s : State) (q : Ticket × OpenCall) : Type 0 where
  pub place : ℕ
  pub stands : StandsAt s.tickets q.0.number place
  pub ticket : ticket_at s.tickets place ≡ q.0
  pub call : open_at s.calls place ≡ q.1
  pub by : q.1.stream ≡ n

pub call_place : (n : ℕ) (s : State) (q : Ticket × OpenCall) → IsSound s → running s n ≡ q ∷ [] → IsCallOf n s q
call_place n s q ok e =
    let at = calls-place n s.tickets s.calls q e in
    let is = calls-one n s.tickets s.calls at.0 q e at.1 at.2 at.3 in
    let ticket : ticket_at s.tickets at.0 ≡ q.0 = ap (λ (p : Ticket × OpenCall). p.0) is in
    let call : open_at s.calls at.0 ≡ q.1 = ap (λ (p : Ticket × OpenCall). p.1) is in
    record {
      place = at.0;
      stands = stands_there s.tickets ok.on.clients.order.numbered at.0 q.0.number at.1 (ap (λ (t : Ticket). t.number) ticket);
      ticket = ticket;
      call = call;
      by = sym (ap (λ (c : OpenCall). c.stream) call) ∙ at.3;
    }

module _ (n : ℕ) (s : State) (q : Ticket × OpenCall) (at : IsCallOf n s q) where
  -- what is so for the caller of the ticket is so for the stream
  pub caller : (t : ℕ) (fact : ℕ → Type 0) → q.0.number ≡ t → ForCaller s t fact → fact n
  caller t fact number held = subst fact (ap (λ (c : OpenCall). c.stream) at.call ∙ at.by)
      (held at.place (subst (λ k. StandsAt s.tickets k at.place) number at.stands))

  -- and no other place has it
  pub place_of : (t i : ℕ) → q.0.number ≡ t → StandsAt s.tickets t i → i ≡ at.place
  place_of t i number stands = at.stands.only i stands.within (stands.is ∙ sym number)

-- ---- a command

pub record IsTurnOf (n : ℕ) (s : State) (p : Ticket × MaintCall) : Type 0 where
  pub place : ℕ
  pub stands : StandsAt s.maint p.0.number place
  pub ticket : ticket_at s.maint place ≡ p.0
  pub command : command_at s.commands place ≡ p.1
  pub by : p.1.stream ≡ n

pub turn_place : (n : ℕ) (s : State) (p : Ticket × MaintCall) → IsSound s → turning s n ≡ p ∷ [] → IsTurnOf n s p
turn_place n s p ok e =
    let at = commands-place n s.maint s.commands p e in
    let is = commands-one n s.maint s.commands at.0 p e at.1 at.2 at.3 in
    let ticket : ticket_at s.maint at.0 ≡ p.0 = ap (λ (x : Ticket × MaintCall). x.0) is in
    let command : command_at s.commands at.0 ≡ p.1 = ap (λ (x : Ticket × MaintCall). x.1) is in
    record {
      place = at.0;
      stands = stands_there s.maint ok.maint.queued.order.numbered at.0 p.0.number at.1 (ap (λ (t : Ticket). t.number) ticket);
      ticket = ticket;
      command = command;
      by = sym (ap (λ (c : MaintCall). c.stream) command) ∙ at.3;
    }

module _ (n : ℕ) (s : State) (p : Ticket × MaintCall) (at : IsTurnOf n s p) where
  -- what is so for the asker of the ticket is so for the stream
  pub asker : (t : ℕ) (fact : ℕ → Type 0) → p.0.number ≡ t → ForAsker s t fact → fact n
  asker t fact number held = subst fact (ap (λ (c : MaintCall). c.stream) at.command ∙ at.by)
      (held at.place (subst (λ k. StandsAt s.maint k at.place) number at.stands))

  -- and no other place has it
  pub turn_of : (t k : ℕ) → p.0.number ≡ t → StandsAt s.maint t k → k ≡ at.place
  turn_of t k number stands = at.stands.only k stands.within (stands.is ∙ sym number)

  -- it has the turn, so it is the first
  pub first : IsSound s → p.0.started ≡ true → at.place ≡ 0
  first ok started = ⊎_elim (λ same. same)
      (λ other. ⊎_elim (λ below. omega (arith, below)) (λ above. absurd (waits above)) other) (cases_order at.place 0)
    where
      conflict : (a b : Ticket) → a.kind ≡ kind.Whole → Conflict a b
      conflict a b whole = subst (λ k. ConflictBy k b.kind a.range b.range) (sym whole) tt

      waits : 0 < at.place → ⊥
      waits above =
          let within : 0 < length s.maint = omega (arith, above, at.stands.within) in
          ok.maint.queued.order.apart at.place at.stands.within (ap (λ (t : Ticket). t.started) at.ticket ∙ started) 0 above
          (conflict (ticket_at s.maint 0) (ticket_at s.maint at.place) (ok.maint.queued.kinds 0 within))

-- ---- how far each replica is with others' calls

-- the operation is of that ticket, if there is one
abbrev pub IsOf : ℕ → Option Whole → Type 0
IsOf t w = IfSome w (λ v. v.number ≡ t)

none_of : (t : ℕ) (w : Option Whole) → IsOf t w → (u : Ticket) → u.number ≢ t → parts_for w u ≡ []
none_of t None of u other = refl
none_of t (Some v) of u other = ap (λ (b : Bool). cond b v.parts []) (ne_eqb v.number u.number (λ e. other (sym e ∙ of)))

none_for : (t : ℕ) (w : Option Whole) → IsOf t w → (ps : List (Ticket × OpenCall))
    → Each (λ (p : Ticket × OpenCall). p.0.number ≢ t) ps
    → map (λ (p : Ticket × OpenCall). parts_for w p.0) ps ≡ map (λ (p : Ticket × OpenCall). []) ps
none_for t w of [] each = refl
none_for t w of (p ∷ ps) each = λ i. none_of t w of p.0 each.0 i ∷ none_for t w of ps each.1 i

-- a step on the operation of a stream's call leaves them as they are
pub parts_apart : (n : ℕ) (s s2 : State) (q : Ticket × OpenCall) (t : ℕ) → IsCallOf n s q → q.0.number ≡ t → MayGo n s s2
    → IsOf t s.whole → IsOf t s2.whole → (m : ℕ) → m ≢ n → parts_of s2 m ≡ parts_of s m
parts_apart n s s2 q t at number may before after m other =
    let each : Each (λ (p : Ticket × OpenCall). p.0.number ≢ t) (running s m) =
    none_numbered m t s.tickets s.calls (λ j within is of.
    let here : j ≡ at.place = at.stands.only j within (is ∙ sym number) in
    other (sym of ∙ ap (λ k. (open_at s.calls k).stream) here ∙ ap (λ (c : OpenCall). c.stream) at.call ∙ at.by)) in
    ap (map (λ (p : Ticket × OpenCall). parts_for s2.whole p.0)) (may.others m other)
    ∙ none_for t s2.whole after (running s m) each
    ∙ sym (none_for t s.whole before (running s m) each)
