-- What stood against a step on a read or a write, as the stream of the call sees it: its own call has started.
use Rattle.std.proofs.Common.{◌≡◌, ⊎_elim, ℕ, Bool, [], Result, Ok, OnErr, IfErr, subst, sym, ap, ◌∙◌, Err as Failed}
use Rattle.std.proofs.Common.{◌+◌, true, None, Some, ◌≢◌, false, List, ◌∷◌, length, ◌⊎◌, inl, inr, refl, Option}
use Rattle.range_turns.specs.declared.ticket.Kind.{Kind}
use Rattle.range_turns.specs.Order.{ticket_at, StandsAt}
use Rattle.range_turns.specs.declared.ticket.Kind.TheVariants as kind
use Rattle.volume_model.specs.declared.call.Call.{Call}
use Rattle.volume_model.specs.Modes.{mode_of}
use Rattle.volume_model.specs.declared.mode.Mode.{Mode}
use Rattle.volume_model.specs.declared.mode.Mode.TheVariants.{Rw}
use Rattle.volume_model.specs.declared.call.Call.TheVariants as call
use Rattle.open_calls.specs.Calls.{open_at, call_asked, whole_asked}
use Rattle.step_answers.specs.Parts.{part_at, IsTaken, is_pending_at}
use Rattle.open_calls.specs.declared.open_call.OpenCall.{OpenCall}
use Rattle.step_answers.specs.declared.parts.Part.{Part}
use Rattle.step_answers.specs.declared.parts.Part.TheVariants.{Acked}
use Rattle.step_answers.specs.declared.whole_op.WholeOp.{WholeOp}
use Rattle.step_answers.specs.declared.answers.NotThis.{NotThis}
use Rattle.volume_core.specs.Places.{IsCallAt, IsWriteAt, IsReadAt, IsWaitingAt}
use Rattle.volume_core.specs.State.{State, opening_of, modes_in}
use Rattle.volume_core.specs.Sound.{IsSound}
use Rattle.volume_core.specs.Answers.{AreBlocksOfWrite}
use Rattle.volume_core.specs.Against as core
use Rattle.step_answers.specs.declared.answers.NotThis.TheVariants as against
use Rattle.stream_steps.specs.Mine.{Mine, OwnCall, IsOwn}
use Rattle.stream_steps.specs.Against.{RefusesAck, RefusesFault, RefusesEnd, AwaitsIn, AgainstTake, AgainstGive}
use Rattle.stream_steps.specs.Steps.{HasStarted, IsOnBlocks, HasNotStarted, AreBlocksOfCall, IsStartedWrite}
use Rattle.stream_steps.specs.Steps.{IsStartedRead, IsWriteCall, IsReadCall}
use Rattle.world_holder.proofs.Entries.{own_last}
use Rattle.world_holder.specs.View.{view}
use Rattle.world_steps.proofs.Own.{IsAt, own_stands, own_place}

-- ---- where the own call stands

whole_no_write : (op : Option WholeOp) → IsWriteCall (whole_asked op) → ⊥
whole_no_write None w = w
whole_no_write (Some op) w = w

whole_no_read : (op : Option WholeOp) → IsReadCall (whole_asked op) → ⊥
whole_no_read None r = r
whole_no_read (Some op) r = r

asks_write : (k : Kind) (c : OpenCall) (d : Call) → call_asked k c ≡ d → IsWriteCall d → k ≡ kind.Write
asks_write kind.Read c d e w = absurd (subst IsWriteCall (sym e) w)
asks_write kind.Write c d e w = refl
asks_write kind.Whole c d e w = absurd (whole_no_write c.op (subst IsWriteCall (sym e) w))

asks_read : (k : Kind) (c : OpenCall) (d : Call) → call_asked k c ≡ d → IsReadCall d → k ≡ kind.Read
asks_read kind.Read c d e r = refl
asks_read kind.Write c d e r = absurd (subst IsReadCall (sym e) r)
asks_read kind.Whole c d e r = absurd (whole_no_read c.op (subst IsReadCall (sym e) r))

write_or_read : (k : Kind) → k ≢ kind.Whole → (k ≡ kind.Write) ⊎ (k ≡ kind.Read)
write_or_read kind.Read other = inr refl
write_or_read kind.Write other = inl refl
write_or_read kind.Whole other = absurd (other refl)

module _ (a : Bool) (n t : ℕ) (o : OwnCall) (s : State) (ok : IsSound s) (own : IsOwn t o (view a n s))
    (blocks : IsOnBlocks o.call) where
  place : ℕ
  place = (own_place a n t o s ok own blocks).0

  stands : StandsAt s.tickets t place
  unfolding place
  stands = (own_place a n t o s ok own blocks).1

  here : IsAt n o s place
  here = own_stands a n t o s ok own blocks place stands

  write_place : IsStartedWrite o → (i : ℕ) × IsWriteAt s t i
  write_place w = (
    place,
    record {
      stands = stands;
      writes = record {
        started = ap (λ (x : OwnCall). x.started) here.is ∙ w.0;
        writes = asks_write (ticket_at s.tickets place).kind (open_at s.calls place) o.call here.at.asked w.1;
      };
    },
  )

  read_place : IsStartedRead o → (i : ℕ) × IsReadAt s t i
  read_place r = (
    place,
    record {
      stands = stands;
      reads = record {
        started = ap (λ (x : OwnCall). x.started) here.is ∙ r.0;
        reads = asks_read (ticket_at s.tickets place).kind (open_at s.calls place) o.call here.at.asked r.1;
      };
    },
  )

  call_place : HasStarted o → (i : ℕ) × IsCallAt s t i
  call_place b = (
    place,
    record { stands = stands; started = ap (λ (x : OwnCall). x.started) here.is ∙ b.0; range = here.other },
  )

  -- ---- a step on one replica

  against_take : (r : ℕ) → IsStartedWrite o → (why : NotThis) → core.AgainstWrite s t r why → AgainstTake (modes_in s) r why
  against_take r w against.Ticket stood = let p = write_place w in absurd (stood p.0 p.1)
  against_take r w (against.Mode m) stood = stood
  against_take r w against.Page stood = stood
  against_take r w (against.Pending q) stood = stood
  against_take r w (against.Count c) stood = stood

  against_give : (r : ℕ) → IsStartedRead o → (why : NotThis) → core.AgainstRead s t r why → AgainstGive (modes_in s) r why
  against_give r b against.Ticket stood = let p = read_place b in absurd (stood p.0 p.1)
  against_give r b (against.Mode m) stood = stood
  against_give r b against.Page stood = stood
  against_give r b (against.Pending q) stood = stood
  against_give r b (against.Count c) stood = stood

  not_taken : (r : ℕ) → core.HadNoStep s t r → ¬ IsTaken (part_at o.parts r)
  not_taken r h = subst (λ (x : OwnCall). ¬ IsTaken (part_at x.parts r)) (own_stands a n t o s ok own blocks h.0 h.1.stands).is h.2

  against_ack : (r : ℕ) → HasStarted o → (why : NotThis) → core.AgainstAck s t r why → RefusesAck (modes_in s) o r why
  against_ack r b against.Ticket stood = let p = call_place b in absurd (stood p.0 p.1)
  against_ack r b (against.Mode m) stood = (stood.0, stood.1, not_taken r stood.2)
  against_ack r b against.Page stood = stood
  against_ack r b (against.Pending q) stood = (stood.0, not_taken r stood.2)
  against_ack r b (against.Count c) stood = stood

  -- ---- the end

  awaits_write : (k : Kind) (c : OpenCall) (modes : List Mode) (parts : List Part) (r : ℕ) → k ≡ kind.Write
      → is_pending_at (mode_of modes r) (part_at parts r) ≡ true → AwaitsIn (call_asked k c) modes parts r
  awaits_write kind.Read c modes parts r e h = absurd cc
  awaits_write kind.Write c modes parts r e h = h
  awaits_write kind.Whole c modes parts r e h = absurd cc

  awaits_read : (k : Kind) (c : OpenCall) (modes : List Mode) (parts : List Part) (r : ℕ) → k ≡ kind.Read
      → (mode_of modes r ≡ Rw) × ((q : ℕ) → part_at parts q ≢ Acked) → AwaitsIn (call_asked k c) modes parts r
  awaits_read kind.Read c modes parts r e h = h
  awaits_read kind.Write c modes parts r e h = absurd cc
  awaits_read kind.Whole c modes parts r e h = absurd cc

  awaits : (r i : ℕ) → StandsAt s.tickets t i
      → AwaitsIn (call_asked (ticket_at s.tickets i).kind (open_at s.calls i)) (modes_in s) (open_at s.calls i).parts r
      → AwaitsIn o.call (modes_in s) o.parts r
  awaits r i at h = subst (λ (x : OwnCall). AwaitsIn x.call (modes_in s) x.parts r) (own_stands a n t o s ok own blocks i at).is h

  against_end : HasStarted o → (why : NotThis) → core.AgainstEnd s t why → RefusesEnd (modes_in s) o why
  against_end b against.Ticket w =
      let p = call_place b in
      ⊎_elim
      (λ x. absurd (w.0 p.0 (record { stands = p.1.stands; writes = record { started = p.1.started; writes = x } })))
      (λ x. absurd (w.1 p.0 (record { stands = p.1.stands; reads = record { started = p.1.started; reads = x } })))
      (write_or_read (ticket_at s.tickets p.0).kind p.1.range)
  against_end b (against.Pending r) stood = ⊎_elim
      (λ w. awaits r w.0 w.1.stands
      (awaits_write (ticket_at s.tickets w.0).kind (open_at s.calls w.0) (modes_in s) (open_at s.calls w.0).parts r
      w.1.writes.writes w.2))
      (λ d. awaits r d.0 d.1.stands
      (awaits_read (ticket_at s.tickets d.0).kind (open_at s.calls d.0) (modes_in s) (open_at s.calls d.0).parts r
      d.1.reads.reads d.2))
      stood
  against_end b (against.Mode m) w = w
  against_end b against.Page w = w
  against_end b (against.Count c) w = w

-- ---- what the clauses of a step ask of its call

pub write_blocks : (c : Call) → IsWriteCall c → IsOnBlocks c
write_blocks (call.Read offset count) w = tt
write_blocks (call.Write offset bytes) w = tt
write_blocks call.Ping w = w
write_blocks (call.Other k) w = w
write_blocks (call.Command c) w = w

pub read_blocks : (c : Call) → IsReadCall c → IsOnBlocks c
read_blocks (call.Read offset count) r = tt
read_blocks (call.Write offset bytes) r = tt
read_blocks call.Ping r = r
read_blocks (call.Other k) r = r
read_blocks (call.Command c) r = r

-- the stream has that read or write open
abbrev pub HasOpen : ℕ → Mine → Type 0
HasOpen t m = (o : OwnCall) × IsOwn t o m × IsOnBlocks o.call

abbrev pub waits_open : (t : ℕ) (m : Mine) → ((o : OwnCall) × IsOwn t o m × HasNotStarted o) → HasOpen t m
waits_open t m op = (op.0, op.1, op.2.range)

abbrev pub started_open : (t : ℕ) (m : Mine) → ((o : OwnCall) × IsOwn t o m × HasStarted o) → HasOpen t m
started_open t m op = (op.0, op.1, op.2.1)

abbrev pub write_open : (t : ℕ) (m : Mine) → ((o : OwnCall) × IsOwn t o m × IsStartedWrite o) → HasOpen t m
write_open t m op = (op.0, op.1, write_blocks op.0.call op.2.1)

abbrev pub read_open : (t : ℕ) (m : Mine) → ((o : OwnCall) × IsOwn t o m × IsStartedRead o) → HasOpen t m
read_open t m op = (op.0, op.1, read_blocks op.0.call op.2.1)

-- the stream has one call open, so it is this one
same_call : (x y : OwnCall) → x ∷ [] ≡ y ∷ [] → x ≡ y
same_call x y e = cc

pub open_as : (t : ℕ) (m : Mine) → HasOpen t m → (o : OwnCall) → IsOwn t o m → IsOnBlocks o.call
open_as t m op o own = subst (λ (x : OwnCall). IsOnBlocks x.call) (same_call op.0 o (sym op.1.is ∙ own.is)) op.2

started_as : (t : ℕ) (m : Mine) → ((o : OwnCall) × IsOwn t o m × HasStarted o) → (o : OwnCall) → IsOwn t o m → HasStarted o
started_as t m op o own = subst HasStarted (same_call op.0 o (sym op.1.is ∙ own.is)) op.2

-- ---- what the core asks of the place where it stands

module _ (a : Bool) (n t : ℕ) (s : State) (ok : IsSound s) (op : HasOpen t (view a n s)) where
  at : (i : ℕ) → StandsAt s.tickets t i → IsAt n op.0 s i
  at i stands = own_stands a n t op.0 s ok op.1 op.2 i stands

  -- it waits there
  pub waits_at : op.0.started ≡ false → (i : ℕ) × IsWaitingAt s t i
  waits_at waits =
      let place = own_place a n t op.0 s ok op.1 op.2 in
      let here = at place.0 place.1 in
      (place.0, record { stands = place.1; waits = ap (λ (x : OwnCall). x.started) here.is ∙ waits; range = here.other })

  -- a buffer has as many bytes
  pub buffer_at : (into : List ℕ) → length into ≡ length op.0.buffer → (i : ℕ) → IsReadAt s t i
      → length into ≡ (open_at s.calls i).length
  buffer_at into long i read =
      long ∙ ap (λ (x : OwnCall). length x.buffer) (sym (at i read.stands).is)
      ∙ (ok.on.clients.fits i read.stands.within).buffer read.reads

  -- blocks are those of the write
  pub blocks_at : (blocks : List (Option (List ℕ))) → AreBlocksOfCall op.0 blocks → (i : ℕ) → IsWriteAt s t i
      → AreBlocksOfWrite (ticket_at s.tickets i) (open_at s.calls i) blocks
  blocks_at blocks b i write =
      let is = (at i write.stands).is in
      record {
        full = b.full;
        count = ap (λ (x : OwnCall). x.range.first + length blocks) is ∙ b.count ∙ ap (λ (x : OwnCall). x.range.end) (sym is);
        bytes = b.bytes ∙ ap (λ (x : OwnCall). x.whole) (sym is);
      }

-- ---- of a refused step, after which the World is as it was

module _ {A : Type 0} (a : Bool) (n t r : ℕ) (s s2 : State) (ok : IsSound s) where
  pub takes_why : (res : Result A NotThis) → ((o : OwnCall) × IsOwn t o (view a n s) × IsStartedWrite o) → OnErr res (s2 ≡ s)
      → IfErr res (core.AgainstWrite s t r) → IfErr res (AgainstTake (modes_in s2) r)
  takes_why (Ok x) op same stood = tt
  takes_why (Failed why) op same stood = subst (λ (x : State). AgainstTake (modes_in x) r why) (sym same)
      (against_take a n t op.0 s ok op.1 (write_open t (view a n s) op).2 r op.2 why stood)

  pub gives_why : (res : Result A NotThis) → ((o : OwnCall) × IsOwn t o (view a n s) × IsStartedRead o) → OnErr res (s2 ≡ s)
      → IfErr res (core.AgainstRead s t r) → IfErr res (AgainstGive (modes_in s2) r)
  gives_why (Ok x) op same stood = tt
  gives_why (Failed why) op same stood = subst (λ (x : State). AgainstGive (modes_in x) r why) (sym same)
      (against_give a n t op.0 s ok op.1 (read_open t (view a n s) op).2 r op.2 why stood)

  module _ (op : (o : OwnCall) × IsOwn t o (view a n s) × HasStarted o) where
    pub acks_why : (res : Result A NotThis) → OnErr res (s2 ≡ s) → IfErr res (core.AgainstAck s t r)
        → IfErr res (λ why. (o : OwnCall) → IsOwn t o (view a n s) → RefusesAck (modes_in s2) o r why)
    acks_why (Ok x) same stood = tt
    acks_why (Failed why) same stood = λ o own. subst (λ (x : State). RefusesAck (modes_in x) o r why) (sym same)
        (against_ack a n t o s ok own (started_as t (view a n s) op o own).1 r (started_as t (view a n s) op o own) why stood)

    pub ends_why : (res : Result A NotThis) → OnErr res (s2 ≡ s) → IfErr res (core.AgainstEnd s t)
        → IfErr res (λ why. (o : OwnCall) → IsOwn t o (view a n s) → RefusesEnd (modes_in s2) o why)
    ends_why (Ok x) same stood = tt
    ends_why (Failed why) same stood = λ o own. subst (λ (x : State). RefusesEnd (modes_in x) o why) (sym same)
        (against_end a n t o s ok own (started_as t (view a n s) op o own).1 (started_as t (view a n s) op o own) why stood)

  pub faults_why : (count : ℕ) (res : Result A NotThis) → OnErr res (s2 ≡ s) → IfErr res (core.AgainstFault s n r count)
      → IfErr res (RefusesFault (modes_in s2) (view a n s) r count)
  faults_why count (Ok x) same stood = tt
  faults_why count (Failed why) same stood =
      subst (λ (x : State). RefusesFault (modes_in x) (view a n s) r count why) (sym same) (by why stood)
    where
      by : (why : NotThis) → core.AgainstFault s n r count why → RefusesFault (modes_in s) (view a n s) r count why
      by against.Ticket w = w
      by (against.Mode m) w = w
      by against.Page w = w
      by (against.Pending q) w = w
      by (against.Count last) w = (w.0 ∙ sym (own_last n r (opening_of s) s.book.entries), w.1)
