-- Each step that changes no more than the open calls and the replicas keeps the invariant.
use Rattle.std.proofs.Common.{◌≡◌, ◌≢◌, ℕ, ◌+◌, ◌<◌, ◌≤◌, Bool, true, false, cond, List, [], ◌∷◌, length, set, refl, sym, subst, arith}
use Rattle.std.specs.Prelude.{Result, Ok, Err as Failed, OnErr}
use Rattle.std.specs.List.{count_by}
use Rattle.std.proofs.lemmas.List.Sums.{sum_by-set, sum_by-remove, sum_by-append}
use Rattle.volume_model.specs.declared.mode.Mode.TheVariants.{Rw, Err}
use Rattle.volume_model.specs.PlainState.{Volume}
use Rattle.volume_model.specs.Modes.{mode_of}
use Rattle.range_turns.specs.declared.ticket.Ticket.{Ticket}
use Rattle.range_turns.specs.declared.ticket.Kind.{Kind}
use Rattle.range_turns.specs.declared.ticket.Kind.TheVariants as kind
use Rattle.range_turns.specs.Order.{ticket_at, no_ticket, with_started, IsFresh, IsClear}
use Rattle.replica_node.specs.Node.{Node}
use Rattle.open_calls.specs.declared.open_call.OpenCall.{OpenCall}
use Rattle.step_answers.specs.Parts.{part_at, IsTaken}
use Rattle.open_calls.specs.Calls.{open_at, node_at, begun, with_part_at, read_from}
use Rattle.step_answers.specs.declared.parts.Part.TheVariants.{Taken, Acked}
use Rattle.open_calls.specs.Clients.{AreClients, IsWriting, IsReading, Fits, IsIdle, behind_last}
use Rattle.open_calls.proofs.Enrolled.{enrolled_clients}
use Rattle.open_calls.proofs.FreeLemmas.{not_both, write_no_read}
use Rattle.open_calls.proofs.Gone.{left_clients}
use Rattle.open_calls.proofs.OneCall.{acked_clients, wrote_clients, read_clients}
use Rattle.open_calls.proofs.Started.{same_keeps, roomed_clients, begun_clients}
use Rattle.volume_core.specs.State.{State, told_of, modes_in}
use Rattle.volume_core.specs.Data.{owed_call, owed_data}
use Rattle.volume_core.specs.Steps.{with_place, with_rooms, with_data, enrolled, started, without_call, acked, wrote, has_read}
use Rattle.volume_core.specs.Sound.{IsSoundOn, IsCalm}
use Rattle.volume_core.specs.Answers.{IsRoomier, BeginsBy}
use Rattle.volume_core.proofs.DataLemmas.{owed_push, owed_set, owed_less, owed_gone, read_no_more}

abbrev pub as_number : Bool → ℕ
as_number b = cond b 1 0

pub counts : (b : Bool) → b ≡ true → as_number b ≡ 1
counts b e = rw e refl

pub counts_not : (b : Bool) → b ≡ false → as_number b ≡ 0
counts_not b e = rw e refl

-- ---- more places

pub place_sound : (v : Volume) (ns : List Node) (s : State) → IsSoundOn v ns s → IsSoundOn v ns (with_place s)
place_sound v ns s ok = record {
  opened = ok.opened;
  told = record { legal = ok.told.legal; ordered = ok.told.ordered };
  clients = ok.clients;
  spare = omega (arith, ok.spare);
  spare_data = ok.spare_data;
}

pub data_sound : (v : Volume) (ns : List Node) (s : State) (n : ℕ) → IsSoundOn v ns s → IsSoundOn v ns (with_data s n)
data_sound v ns s n ok = record {
  opened = ok.opened;
  told = record { legal = ok.told.legal; ordered = ok.told.ordered };
  clients = ok.clients;
  spare = ok.spare;
  spare_data = omega (arith, ok.spare_data);
}

pub roomier_sound : (s s2 : State) → IsCalm s → IsRoomier s s2 → IsCalm s2
roomier_sound s s2 ok is = subst IsCalm (sym is.state) (record {
  opened = ok.opened;
  told = record { legal = ok.told.legal; ordered = ok.told.ordered };
  clients = roomed_clients (told_of s).volume s.size (length s.indices) s.book.entries (modes_in s) s.tickets s.calls
      s.nodes is.nodes ok.clients is.keeps;
  spare = omega (arith, ok.spare, is.more);
  spare_data = omega (arith, ok.spare_data, is.more_data);
})

pub same_room : (s : State) → IsRoomier s s
same_room s = record {
  nodes = s.nodes;
  spare = s.book.spare;
  spare_data = s.book.spare_data;
  keeps = same_keeps s.nodes;
  more = omega arith;
  more_data = omega arith;
  state = refl;
}

pub on_err : {A E : Type 0} (r : Result A E) (P : Type 0) → P → OnErr r P
on_err (Ok a) P p = tt
on_err (Failed e) P p = p

pub same_err : {A E : Type 0} (r : Result A E) (s s2 : State) → OnErr r (s2 ≡ s) → OnErr r (IsRoomier s s2)
same_err (Ok a) s s2 e = tt
same_err (Failed x) s s2 e = subst (IsRoomier s) (sym e) (same_room s)

-- ---- a replica has its step, and acknowledges it

call_in : (s : State) (i : ℕ) → IsCalm s → i < length s.tickets → i < length s.calls
call_in s i ok h = omega (arith, ok.clients.paired, h)

pub acked_sound : (s : State) (i r : ℕ) → IsCalm s → i < length s.tickets → IsTaken (part_at (open_at s.calls i).parts r)
    → IsCalm (acked s i r)
acked_sound s i r ok h mine = record {
  opened = ok.opened;
  told = ok.told;
  clients = acked_clients (told_of s).volume s.size (length s.indices) s.book.entries (modes_in s) s.tickets s.calls s.nodes
      i r ok.clients h mine;
  spare = ok.spare;
  spare_data = owed_less s.calls i (with_part_at (open_at s.calls i) r Acked) s.book.spare_data (call_in s i ok h)
      (omega arith) ok.spare_data;
}

pub wrote_sound : (s : State) (i r : ℕ) → IsCalm s → i < length s.tickets → IsWriting (ticket_at s.tickets i)
    → mode_of (modes_in s) r ≢ Err → IsCalm (wrote s i r)
wrote_sound s i r ok h w up = record {
  opened = ok.opened;
  told = ok.told;
  clients = wrote_clients (told_of s).volume s.size (length s.indices) s.book.entries (modes_in s) s.tickets s.calls s.nodes
      i r ok.clients h w up;
  spare = ok.spare;
  spare_data = owed_less s.calls i (with_part_at (open_at s.calls i) r Taken) s.book.spare_data (call_in s i ok h)
      (omega arith) ok.spare_data;
}

pub has_read_sound : (s : State) (i r : ℕ) → IsCalm s → i < length s.tickets → IsReading (ticket_at s.tickets i)
    → mode_of (modes_in s) r ≡ Rw → IsCalm (has_read s i r)
has_read_sound s i r ok h w read = record {
  opened = ok.opened;
  told = ok.told;
  clients = read_clients (told_of s).volume s.size (length s.indices) s.book.entries (modes_in s) s.tickets s.calls s.nodes
      i r ok.clients h w read;
  spare = ok.spare;
  spare_data = owed_less s.calls i (read_from (open_at s.calls i) r (node_at s.nodes r)) s.book.spare_data
      (call_in s i ok h) (read_no_more (open_at s.calls i) r (node_at s.nodes r)) ok.spare_data;
}

-- ---- a call is enrolled, starts, is withdrawn

pub enrolled_sound : (v : Volume) (ns : List Node) (s : State) (t : Ticket) (c : OpenCall) → IsSoundOn v ns s
    → t.started ≡ false → IsFresh s.tickets t.number → Fits s.size (length s.indices) (length ns) t c
    → IsIdle c.stream s.calls → behind_last c.stream s.book.entries ≤ c.saw → c.saw ≤ length s.book.entries
    → owed_data s.calls + owed_call c ≤ s.book.spare_data → IsSoundOn v ns (enrolled s t c)
enrolled_sound v ns s t c ok new fresh fit idle past saw room = record {
  opened = ok.opened;
  told = ok.told;
  clients = enrolled_clients v s.size (length s.indices) s.book.entries (modes_in s) s.tickets s.calls ns t c ok.clients new
      fresh fit idle past saw;
  spare = omega (arith, ok.spare, sum_by-append (λ (x : Ticket). cond x.started 1 0) s.tickets (t ∷ []), counts_not t.started new);
  spare_data = omega (arith, room, owed_push s.calls c);
}

started_room : (tickets : List Ticket) (i : ℕ) → i < length tickets → (ticket_at tickets i).started ≡ false
    → count_by (λ t. t.started) (with_started tickets i) ≡ count_by (λ t. t.started) tickets + 1
started_room tickets i h waits =
    omega (
      arith,
      sum_by-set (λ (x : Ticket). cond x.started 1 0) tickets i
          (record (ticket_at tickets i) { started = true }) no_ticket h,
      counts_not (ticket_at tickets i).started waits,
    )

begun_sound : (s s2 : State) (i : ℕ) → IsCalm s → i < length s.tickets → (ticket_at s.tickets i).started ≡ false
    → (nodes : List Node) (front back buffer : List ℕ) (room : ℕ)
    → AreClients (told_of s).volume s.size (length s.indices) s.book.entries (modes_in s) (with_started s.tickets i)
    (set s.calls i (begun (open_at s.calls i) (modes_in s) front back buffer)) nodes
    → owed_data (set s.calls i (begun (open_at s.calls i) (modes_in s) front back buffer)) ≤ room
    → s2 ≡ started (with_rooms s (s.book.spare + 1) room) i nodes front back buffer → IsCalm s2
begun_sound s s2 i ok h waits nodes front back buffer room clients owed is = subst IsCalm (sym is) (record {
  opened = ok.opened;
  told = record { legal = ok.told.legal; ordered = ok.told.ordered };
  clients = clients;
  spare = omega (arith, ok.spare, started_room s.tickets i h waits);
  spare_data = owed;
})

pub begins_sound : (s s2 : State) (i source : ℕ) → IsCalm s → i < length s.tickets → (ticket_at s.tickets i).started ≡ false
    → IsClear s.tickets i → mode_of (modes_in s) source ≡ Rw
    → (k : Kind) → (ticket_at s.tickets i).kind ≡ k → BeginsBy k (with_place s) i source s2 → IsCalm s2
begins_sound s s2 i source ok h waits clear read kind.Read is b =
    let v = (told_of s).volume in
    let c = open_at s.calls i in
    begun_sound s s2 i ok h waits s.nodes [] [] b.buffer (with_data s c.length).book.spare_data
    (begun_clients v s.size (length s.indices) s.book.entries (modes_in s) s.tickets s.calls s.nodes i [] [] b.buffer
    ok.clients h waits clear source s.nodes ok.clients read
    (λ _. b.count) (λ w. absurd (write_no_read (ticket_at s.tickets i).kind w is))
    (λ w. absurd (write_no_read (ticket_at s.tickets i).kind w is)))
    (omega (arith, owed_set s.calls i (begun c (modes_in s) [] [] b.buffer) (call_in s i ok h), b.count)) b.state
begins_sound s s2 i source ok h waits clear read kind.Write is b =
    let v = (told_of s).volume in
    let c = open_at s.calls i in
    begun_sound s s2 i ok h waits b.nodes b.front b.back [] s.book.spare_data
    (begun_clients v s.size (length s.indices) s.book.entries (modes_in s) s.tickets s.calls b.nodes i b.front b.back []
    (roomed_clients v s.size (length s.indices) s.book.entries (modes_in s) s.tickets s.calls s.nodes b.nodes ok.clients b.keeps) h
    waits clear source s.nodes ok.clients read
    (λ w. absurd (write_no_read (ticket_at s.tickets i).kind is w)) (λ _. b.edges) (λ _. b.room))
    (owed_less s.calls i (begun c (modes_in s) b.front b.back []) s.book.spare_data (call_in s i ok h) (omega arith) ok.spare_data)
    b.state
begins_sound s s2 i source ok h waits clear read kind.Whole is b = absurd b

pub withdrawn_sound : (v : Volume) (ns : List Node) (s : State) (i : ℕ) → IsSoundOn v ns s → i < length s.tickets
    → (ticket_at s.tickets i).started ≡ false → IsSoundOn v ns (without_call s i)
withdrawn_sound v ns s i ok h waits = record {
  opened = ok.opened;
  told = ok.told;
  clients = left_clients v s.size (length s.indices) s.book.entries (modes_in s) s.tickets s.calls ns i ok.clients h
      (λ r e w. not_both (ticket_at s.tickets i).started waits w.started);
  spare = omega (arith, ok.spare, sum_by-remove (λ (x : Ticket). cond x.started 1 0) s.tickets i no_ticket h);
  spare_data = omega (arith, ok.spare_data, owed_gone s.calls i (omega (arith, ok.clients.paired, h)));
}
