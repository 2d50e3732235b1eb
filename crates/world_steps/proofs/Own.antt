-- The open read or write of a stream: what is known of it, and where it stands in the World.
use Rattle.std.proofs.Common.{◌≡◌, ◌≢◌, ℕ, ◌<◌, ◌≤◌, ⊎_elim, Bool, List, [], ◌∷◌, ◌++◌, length, map, set, Option}
use Rattle.std.proofs.Common.{Some, None, subst, sym, refl, ap, ◌∙◌, arith}
use Rattle.std.proofs.lemmas.Bool.{cases_lt}
use Rattle.std.proofs.lemmas.List.{set-get_or}
use Rattle.range_turns.specs.declared.ticket.Kind.{Kind}
use Rattle.range_turns.specs.declared.ticket.Ticket.{Ticket}
use Rattle.range_turns.specs.Order.{ticket_at, no_ticket, StandsAt}
use Rattle.range_turns.specs.declared.ticket.Kind.TheVariants as kind
use Rattle.volume_model.specs.declared.call.Call.{Call}
use Rattle.open_calls.specs.declared.open_call.OpenCall.{OpenCall}
use Rattle.step_answers.specs.declared.parts.Part.{Part}
use Rattle.step_answers.specs.declared.whole_op.WholeOp.{WholeOp}
use Rattle.open_calls.specs.Calls.{open_at, call_asked, whole_asked}
use Rattle.open_calls.specs.Clients.{IsIdle}
use Rattle.open_calls.specs.declared.maint.MaintCall.{MaintCall}
use Rattle.open_calls.specs.declared.whole.Whole.{Whole}
use Rattle.volume_core.specs.State.{State}
use Rattle.volume_core.specs.Sound.{IsSound}
use Rattle.volume_core.specs.Streams.{calls_in, running, turning, open_of, IsOpen}
use Rattle.volume_core.proofs.CallLemmas.{calls-place, calls-one, calls-set_own, idle-calls}
use Rattle.volume_core.proofs.Moves.{IsOwnAt, own_at as core_own_at}
use Rattle.world_holder.specs.Laid.{parts_for}
use Rattle.stream_steps.specs.Mine.{OwnCall, IsOwn}
use Rattle.stream_steps.specs.Steps.{IsOnBlocks}
use Rattle.world_holder.proofs.Open.{has_none}
use Rattle.world_holder.specs.View.{own_call, own_turn, parts_by, own_at, runs, view}

-- ---- by what is seen

whole_no_blocks : (op : Option WholeOp) → IsOnBlocks (whole_asked op) → ⊥
whole_no_blocks None blocks = blocks
whole_no_blocks (Some op) blocks = blocks

pub asks_range : (k : Kind) (c : OpenCall) (d : Call) → call_asked k c ≡ d → IsOnBlocks d → k ≢ kind.Whole
asks_range k c d e blocks w = whole_no_blocks c.op (subst IsOnBlocks (sym (ap (λ j. call_asked j c) (sym w) ∙ e)) blocks)

plain_parts : (k : Kind) (own kept : List Part) → k ≢ kind.Whole → parts_by k own kept ≡ own
plain_parts kind.Read own kept other = refl
plain_parts kind.Write own kept other = refl
plain_parts kind.Whole own kept other = absurd (other refl)

-- of a read or a write the World keeps nothing beside its call
pub plain_at : (w : Option Whole) (x : Ticket × OpenCall) → x.0.kind ≢ kind.Whole → own_at w x ≡ own_call x
plain_at w x other = ap (λ ps. record (own_call x) { parts = ps }) (plain_parts x.0.kind x.1.parts (parts_for w x.0) other)

-- the stream has a call open, and no command of the maintenance turn
pub record HasOne (n : ℕ) (o : OwnCall) (s : State) : Type 0 where
  pub x : Ticket × OpenCall
  pub turns : turning s n ≡ []
  pub calls : running s n ≡ x ∷ []
  pub is : own_at s.whole x ≡ o

head_is : (x y : OwnCall) (xs : List OwnCall) → x ∷ xs ≡ y ∷ [] → x ≡ y
head_is x y xs e = cc

one_by : (n : ℕ) (o : OwnCall) (s : State) (cs : List (Ticket × OpenCall)) → turning s n ≡ [] → running s n ≡ cs
    → map (own_at s.whole) cs ≡ o ∷ [] → HasOne n o s
one_by n o s [] a b e = absurd cc
one_by n o s (x ∷ []) a b e = record { x = x; turns = a; calls = b; is = head_is (own_at s.whole x) o [] e }
one_by n o s (x ∷ y ∷ cs) a b e = absurd cc

has_one : (n : ℕ) (o : OwnCall) (s : State) → turning s n ≡ [] → runs n s ≡ o ∷ [] → HasOne n o s
has_one n o s turns e = one_by n o s (running s n) turns refl
    (ap (λ ms. map own_turn ms ++ map (own_at s.whole) (running s n)) (sym turns) ∙ e)

-- so it is where that call is a read or a write
turns_by : (o : OwnCall) (ms : List (Ticket × MaintCall)) (rest : List OwnCall) → IsOnBlocks o.call
    → map own_turn ms ++ rest ≡ o ∷ [] → ms ≡ []
turns_by o [] rest blocks e = refl
turns_by o (p ∷ ms) rest blocks e =
    absurd (subst IsOnBlocks (ap (λ (y : OwnCall). y.call) (sym (head_is (own_turn p) o (map own_turn ms ++ rest) e))) blocks)

pub has_blocks : (n : ℕ) (o : OwnCall) (s : State) → IsOnBlocks o.call → runs n s ≡ o ∷ [] → HasOne n o s
has_blocks n o s blocks e = has_one n o s (turns_by o (turning s n) (map (own_at s.whole) (running s n)) blocks e) e

pub idle_from : (n : ℕ) (s : State) → IsSound s → runs n s ≡ [] → IsIdle n s.calls
idle_from n s ok e = idle-calls n s.tickets s.calls ok.on.clients.paired (has_none n s e).calls

-- ---- where it stands

-- no two have one number
unique_number : (s : State) → IsSound s → (i j : ℕ) → i < length s.tickets → j < length s.tickets
    → (ticket_at s.tickets i).number ≡ (ticket_at s.tickets j).number → i ≡ j
unique_number s ok i j a b e = ⊎_elim
    (λ (low : i < j). absurd (ok.on.clients.order.numbered i j low b e))
    (λ (high : j ≤ i). ⊎_elim
    (λ (more : j < i). absurd (ok.on.clients.order.numbered j i more a (sym e)))
    (λ (same : i ≤ j). omega (arith, high, same))
    (cases_lt j i))
    (cases_lt i j)

module _ (n t : ℕ) (o : OwnCall) (s : State) (ok : IsSound s) (its : HasOne n o s) (number : o.number ≡ t) where
  one_open : IsOpen n t o.call s
  one_open = record {
    range = o.range;
    whole = o.whole;
    is = ap (map open_of) its.calls
        ∙ ap (λ (x : OwnCall). record { number = x.number; range = x.range; call = x.call; whole = x.whole } ∷ []) its.is
        ∙ ap (λ k. record { number = k; range = o.range; call = o.call; whole = o.whole } ∷ []) number;
  }

  -- where the ticket stands, its call is the stream's
  one_stands : (i : ℕ) → StandsAt s.tickets t i → IsOwnAt n o.call s i
  one_stands i stands = core_own_at n t o.call s i ok one_open stands

  one_is : (i : ℕ) → StandsAt s.tickets t i → own_at s.whole (ticket_at s.tickets i, open_at s.calls i) ≡ o
  one_is i stands =
      let at = one_stands i stands in
      ap (own_at s.whole) (at.is ∙ same at.x its.x (sym at.runs ∙ its.calls)) ∙ its.is
    where
      same : (x y : Ticket × OpenCall) → x ∷ [] ≡ y ∷ [] → x ≡ y
      same x y e = cc

  -- there is a place where it stands
  one_place : (i : ℕ) × StandsAt s.tickets t i
  one_place =
      let at = calls-place n s.tickets s.calls its.x its.calls in
      let there = calls-one n s.tickets s.calls at.0 its.x its.calls at.1 at.2 at.3 in
      let is : (ticket_at s.tickets at.0).number ≡ t =
      ap (λ (p : Ticket × OpenCall). p.0.number) there ∙ ap (λ (x : OwnCall). x.number) its.is ∙ number in (
        at.0,
        record {
          within = at.1;
          is = is;
          only = λ j within here. unique_number s ok j at.0 within at.1 (here ∙ sym is);
        },
      )

-- where the ticket of a read or a write stands
pub record IsAt (n : ℕ) (o : OwnCall) (s : State) (i : ℕ) : Type 0 where
  pub at : IsOwnAt n o.call s i
  pub other : (ticket_at s.tickets i).kind ≢ kind.Whole
  pub is : own_call (ticket_at s.tickets i, open_at s.calls i) ≡ o

module _ (a : Bool) (n t : ℕ) (o : OwnCall) (s : State) (ok : IsSound s) (own : IsOwn t o (view a n s))
    (blocks : IsOnBlocks o.call) where
  its : HasOne n o s
  its = has_blocks n o s blocks own.is

  pub opened : IsOpen n t o.call s
  opened = one_open n t o s ok its own.number

  pub own_stands : (i : ℕ) → StandsAt s.tickets t i → IsAt n o s i
  own_stands i stands =
      let at = one_stands n t o s ok its own.number i stands in
      let other = asks_range (ticket_at s.tickets i).kind (open_at s.calls i) o.call at.asked blocks in
      record {
        at = at;
        other = other;
        is = sym (plain_at s.whole (ticket_at s.tickets i, open_at s.calls i) other) ∙ one_is n t o s ok its own.number i stands;
      }

  pub own_place : (i : ℕ) × StandsAt s.tickets t i
  own_place = one_place n t o s ok its own.number

  -- the ticket and the call there are others now, of the same kind
  pub runs_put : (i : ℕ) → StandsAt s.tickets t i → (w : Option Whole) (u : Ticket) (y : OpenCall)
      → u.kind ≡ (ticket_at s.tickets i).kind → y.stream ≡ (open_at s.calls i).stream
      → map own_turn (turning s n) ++ map (own_at w) (calls_in n (set s.tickets i u) (set s.calls i y)) ≡ own_call (u, y) ∷ []
  runs_put i stands w u y kind same =
      let here = own_stands i stands in
      let inside : i < length s.calls = omega (arith, stands.within, ok.on.clients.paired) in
      let calls : calls_in n (set s.tickets i u) (set s.calls i y) ≡ (u, y) ∷ [] =
      calls-set_own n s.tickets s.calls i u y here.at.x here.at.runs stands.within inside here.at.stream
      (same ∙ here.at.stream) in
      (λ k. map own_turn (its.turns k) ++ map (own_at w) (calls k))
      ∙ ap (λ (z : OwnCall). z ∷ []) (plain_at w (u, y) (λ whole. here.other (sym kind ∙ whole)))

  -- the call alone is
  pub runs_set : (i : ℕ) → StandsAt s.tickets t i → (w : Option Whole) (y : OpenCall) → y.stream ≡ (open_at s.calls i).stream
      → map own_turn (turning s n) ++ map (own_at w)
      (calls_in n s.tickets (set s.calls i y)) ≡ own_call (ticket_at s.tickets i, y) ∷ []
  runs_set i stands w y same =
      ap (λ ts. map own_turn (turning s n) ++ map (own_at w) (calls_in n ts (set s.calls i y))) (sym (set-get_or s.tickets i no_ticket))
      ∙ runs_put i stands w (ticket_at s.tickets i) y refl same
