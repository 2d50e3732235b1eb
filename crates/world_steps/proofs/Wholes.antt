-- Where an operation on the whole volume stands, by what the worker of its stream sees.
use Rattle.std.proofs.Common.{◌≡◌, ◌≢◌, ℕ, ⊎_elim, Bool, true, false, cond, List, [], Option, Some, None, subst, sym, refl, ap, ◌∙◌, eq-eqb}
use Rattle.std.specs.List.{remove}
use Rattle.std.proofs.lemmas.Bool.{cases_order}
use Rattle.range_turns.specs.declared.ticket.Kind.TheVariants as kind
use Rattle.range_turns.specs.declared.ticket.Ticket.{Ticket}
use Rattle.range_turns.specs.Order.{ticket_at, StandsAt, Conflict, ConflictBy}
use Rattle.open_calls.specs.declared.open_call.OpenCall.{OpenCall}
use Rattle.step_answers.specs.declared.whole_op.WholeOp.{WholeOp}
use Rattle.open_calls.specs.Calls.{open_at}
use Rattle.open_calls.specs.declared.whole.Whole.{Whole}
use Rattle.open_calls.specs.Whole.{IsWhole}
use Rattle.volume_core.specs.State.{State, told_of, modes_in}
use Rattle.volume_core.specs.Sound.{IsSound}
use Rattle.volume_core.specs.Streams.{calls_in, MayGo}
use Rattle.volume_core.proofs.CallLemmas.{calls-remove_own}
use Rattle.volume_core.proofs.Keep.{calm_by}
use Rattle.volume_maint.specs.Answers as world
use Rattle.volume_maint.specs.Places as place
use Rattle.volume_maint.specs.Places.{ForCaller}
use Rattle.world_holder.specs.Laid.{parts_for, parts_of}
use Rattle.stream_steps.specs.Mine.{Mine, OwnCall}
use Rattle.stream_steps.specs.Maint.{HasWhole}
use Rattle.world_holder.specs.View.{own_call, parts_by, own_at, view}
use Rattle.world_steps.proofs.Places.{caller, place_of, IsOf, parts_apart}
use Rattle.world_steps.proofs.Shapes.{HasCall, has_call}

-- the operation of the ticket is open; it waits for its start; it has started
abbrev pub HasSome : ℕ → Mine → Type 0
HasSome t m = (op : WholeOp) × (turn : List OwnCall) × (o : OwnCall) × HasWhole t op turn o m

abbrev pub Waits : ℕ → Mine → Type 0
Waits t m = (op : WholeOp) × (turn : List OwnCall) × (o : OwnCall) × HasWhole t op turn o m × (o.started ≡ false)

abbrev pub HasBegun : ℕ → Mine → Type 0
HasBegun t m = (op : WholeOp) × (turn : List OwnCall) × (o : OwnCall) × HasWhole t op turn o m × (o.started ≡ true)

module _ (a : Bool) where
  -- ---- where the operation stands

  pub none_of : (t : ℕ) (v : Option Whole) → v ≡ None → IsOf t v
  none_of t v e = subst (IsOf t) (sym e) tt

  pub one_of : (t : ℕ) (v : Option Whole) (w : Whole) → v ≡ Some w → w.number ≡ t → IsOf t v
  one_of t v w e number = subst (IsOf t) (sym e) number

  module _ (n : ℕ) (s : State) (t : ℕ) (op : WholeOp) (turn : List OwnCall) (o : OwnCall) (x : HasCall a n s t op turn o) where
    pub started_as : x.q.0.started ≡ o.started
    started_as = ap (λ (y : OwnCall). y.started) x.is

    pub kind_here : (ticket_at s.tickets x.at.place).kind ≡ kind.Whole
    kind_here = ap (λ (u : Ticket). u.kind) x.at.ticket ∙ x.kind

    pub number_here : (i : ℕ) → StandsAt s.tickets t i → i ≡ x.at.place
    number_here i = place_of n s x.q x.at t i x.number

    pub stands_here : StandsAt s.tickets t x.at.place
    stands_here = subst (λ k. StandsAt s.tickets k x.at.place) x.number x.at.stands

    awaits_here : o.started ≡ false → (i : ℕ) × place.AwaitsWhole s t i
    awaits_here waits = (
      x.at.place,
      record {
        stands = stands_here;
        kind = kind_here;
        waits = ap (λ (u : Ticket). u.started) x.at.ticket ∙ started_as
            ∙ waits;
      },
    )

    -- at its place the call is the stream's
    pub stream_at : (i : ℕ) → StandsAt s.tickets t i → (open_at s.calls i).stream ≡ n
    stream_at i at = ap (λ k. (open_at s.calls k).stream) (number_here i at) ∙ ap (λ (c : OpenCall). c.stream) x.at.call ∙ x.at.by

    pub saw_at : (i : ℕ) → StandsAt s.tickets t i → (open_at s.calls i).saw ≡ o.saw
    saw_at i at = ap (λ k. (open_at s.calls k).saw) (number_here i at) ∙ ap (λ (c : OpenCall). c.saw) x.at.call
        ∙ ap (λ (y : OwnCall). y.saw) x.is

    -- the operation that the World keeps there is this one
    pub same_op : (i : ℕ) (p : WholeOp) → StandsAt s.tickets t i → (open_at s.calls i).op ≡ Some p → p ≡ op
    same_op i p at is = some_same p op (sym is ∙ ap (λ k. (open_at s.calls k).op) (number_here i at)
        ∙ ap (λ (c : OpenCall). c.op) x.at.call ∙ x.does)
      where
        some_same : (p q : WholeOp) → Some p ≡ Some q → p ≡ q
        some_same p q e = cc

    -- what the own call is while the World keeps that operation of its ticket, started or not
    pub own_as : (w : Whole) (b : Bool) → w.number ≡ t
        → own_at (Some w) (record x.q.0 { started = b }, x.q.1) ≡ record o { started = b; parts = w.parts }
    own_as w b number =
        let own = own_call (record x.q.0 { started = b }, x.q.1) in
        ap (λ k. record own { parts = parts_by k x.q.1.parts (parts_for (Some w) x.q.0) }) x.kind
        ∙ ap (λ (y : Bool). record own { parts = cond y w.parts [] })
        (eq-eqb w.number x.q.0.number (number ∙ sym x.number))
        ∙ ap (λ (y : OwnCall). record y { started = b; parts = w.parts }) x.is

    -- it keeps that of this ticket
    pub whole_op : IsSound s → (w : Whole) → s.whole ≡ Some w → w.number ≡ t → w.op ≡ op
    whole_op ok w is number =
        let st = subst (IsWhole (told_of s) (modes_in s) s.tickets s.calls s.nodes) is ok.whole in
        same_op st.place w.op (subst (λ k. StandsAt s.tickets k st.place) number st.stands) st.op

    module _ (w : Whole) (is : s.whole ≡ Some w) (number : w.number ≡ t) where
      pub parts_are : o.parts ≡ w.parts
      parts_are = ap (λ (y : OwnCall). y.parts) (sym x.is ∙ ap (λ v. own_at v x.q) is ∙ own_as w x.q.0.started number)

    -- once it has started, the World keeps it
    module _ (ok : IsSound s) (begun : o.started ≡ true) where
      begun_here : (ticket_at s.tickets x.at.place).started ≡ true
      begun_here = ap (λ (u : Ticket). u.started) x.at.ticket ∙ started_as ∙ begun

      conflict : (u v : Ticket) → u.kind ≡ kind.Whole → Conflict u v
      conflict u v whole = subst (λ k. ConflictBy k v.kind u.range v.range) (sym whole) tt

      pub whole_on : (w : Whole) → s.whole ≡ Some w → place.IsWholeOn s t w x.at.place
      whole_on w is =
          let st = subst (IsWhole (told_of s) (modes_in s) s.tickets s.calls s.nodes) is ok.whole in
          let same : st.place ≡ x.at.place = ⊎_elim
          (λ same. same)
          (λ other. ⊎_elim
          (λ below. absurd (ok.on.clients.order.apart x.at.place x.at.stands.within begun_here st.place below
          (conflict (ticket_at s.tickets st.place) (ticket_at s.tickets x.at.place) st.kind)))
          (λ above. absurd (ok.on.clients.order.apart st.place st.stands.within st.started x.at.place above
          (conflict (ticket_at s.tickets x.at.place) (ticket_at s.tickets st.place) kind_here)))
          other)
          (cases_order st.place x.at.place) in
          record {
            is = is;
            number = sym st.stands.is ∙ ap (λ k. (ticket_at s.tickets k).number) same ∙ stands_here.is;
            stands = stands_here;
          }

      pub kept_whole : (w : Whole) × (s.whole ≡ Some w)
      kept_whole = by s.whole refl
        where
          clash : (b : Bool) → b ≡ true → b ≡ false → ⊥
          clash true e f = cc
          clash false e f = cc

          by : (v : Option Whole) → s.whole ≡ v → (w : Whole) × (s.whole ≡ Some w)
          by None e =
              let none = subst (IsWhole (told_of s) (modes_in s) s.tickets s.calls s.nodes) e ok.whole in
              absurd (clash (ticket_at s.tickets x.at.place).started begun_here (none x.at.place x.at.stands.within kind_here))
          by (Some w) e = (w, e)

    -- while it waits with nothing in its way, the World keeps none
    pub none_kept : IsSound s → (i : ℕ) (p : WholeOp) → world.IsWaiting s t i p → s.whole ≡ None
    none_kept ok i p w = calm_by s i ok w.awaits.stands.within w.clear (λ k. w.awaits.waits)

    module _ (s2 : State) (may : MayGo n s s2) where
      -- other streams' calls, where no operation but of this ticket is kept
      pub parts_else : IsOf t s.whole → IsOf t s2.whole → (m : ℕ) → m ≢ n → parts_of s2 m ≡ parts_of s m
      parts_else before after = parts_apart n s s2 x.q t x.at x.number may before after

    -- the stream has no call where it is taken away
    module _ (i : ℕ) (at : StandsAt s.tickets t i) where
      pub calls_left : IsSound s → calls_in n (remove s.tickets i) (remove s.calls i) ≡ []
      calls_left ok = calls-remove_own n s.tickets s.calls i x.q x.calls ok.on.clients.paired at.within (stream_at i at)

  -- ---- by what the stream knows

  module _ (n t : ℕ) (s : State) (ok : IsSound s) where
    -- what is so for the caller of the ticket is so for the stream
    pub whole_owner : HasSome t (view a n s) → (fact : ℕ → Type 0) → ForCaller s t fact → fact n
    whole_owner w fact held = let x = has_call a n s t w.0 w.1 w.2 ok w.3 in caller n s x.q x.at t fact x.number held

    pub whole_waits : Waits t (view a n s) → (i : ℕ) × place.AwaitsWhole s t i
    whole_waits w = awaits_here n s t w.0 w.1 w.2 (has_call a n s t w.0 w.1 w.2 ok w.3) w.4

    -- any call of the stream under that ticket is the one that has started
    pub begun_all : HasBegun t (view a n s) → (op : WholeOp) (turn : List OwnCall) (o : OwnCall) → HasWhole t op turn o (view a n s)
        → o.started ≡ true
    begun_all w op turn o h =
        let d = has_call a n s t w.0 w.1 w.2 ok w.3 in
        let b = has_call a n s t op turn o ok h in
        sym (started_as n s t op turn o b)
        ∙ ap (λ (u : Ticket). u.started) (sym b.at.ticket)
        ∙ ap (λ k. (ticket_at s.tickets k).started) (number_here n s t w.0 w.1 w.2 d b.at.place (stands_here n s t op turn o b))
        ∙ ap (λ (u : Ticket). u.started) d.at.ticket
        ∙ started_as n s t w.0 w.1 w.2 d
        ∙ w.4
