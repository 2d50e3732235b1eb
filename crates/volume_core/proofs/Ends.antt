-- Each step that answers a call keeps the invariant.
use Rattle.std.proofs.Common.{◌≡◌, ◌≢◌, ℕ, ◌+◌, ◌<◌, ◌≤◌, true, cond, List, [], ◌∷◌, ◌++◌, length, set, length-set}
use Rattle.std.proofs.Common.{refl, sym, ap, subst, ◌∙◌, pos, arith}
use Rattle.std.specs.Prelude.{None, Some}
use Rattle.std.specs.List.{count_by, remove}
use Rattle.std.proofs.lemmas.List.Sums.{sum_by-remove}
use Rattle.volume_model.specs.declared.command.Command.TheVariants as command
use Rattle.volume_model.specs.declared.call.Call.{Call}
use Rattle.volume_model.specs.declared.call.Call.TheVariants as call
use Rattle.volume_model.specs.declared.call.Refusal.TheVariants.{NoReplica, OutOfRange}
use Rattle.volume_model.specs.declared.call.Reply.{Reply}
use Rattle.volume_model.specs.declared.call.Reply.TheVariants as reply
use Rattle.volume_model.specs.declared.entry.Answer.{Answer}
use Rattle.volume_model.specs.declared.entry.Entry.{Entry}
use Rattle.volume_model.specs.declared.entry.Entry.TheVariants as entry
use Rattle.volume_model.specs.declared.mode.Mode.{Mode}
use Rattle.volume_model.specs.History.{IsAnswered}
use Rattle.volume_model.specs.Modes.{modes_after, is_change, HasNoSource}
use Rattle.volume_model.specs.PlainState.{PlainState, Volume, written}
use Rattle.volume_model.specs.PlainStep.{refusal_of, step_unless, after_call}
use Rattle.volume_model.specs.Rebuilds.{added_by}
use Rattle.volume_model.specs.Replay.{after_entry}
use Rattle.volume_model.proofs.OwnNames.{IsOwn}
use Rattle.volume_model.proofs.PushLemmas.{modes_after-push}
use Rattle.volume_model.proofs.StepLemmas.{replay-push}
use Rattle.range_turns.specs.declared.ticket.Kind.{Kind}
use Rattle.range_turns.specs.declared.ticket.Kind.TheVariants as kind
use Rattle.range_turns.specs.declared.ticket.Ticket.{Ticket}
use Rattle.range_turns.specs.Order.{ticket_at, no_ticket}
use Rattle.replica_node.specs.Node.{Node}
use Rattle.open_calls.specs.declared.open_call.OpenCall.{OpenCall}
use Rattle.step_answers.specs.declared.parts.Part.TheVariants.{Acked}
use Rattle.step_answers.specs.Parts.{part_at, IsTaken}
use Rattle.open_calls.specs.Calls.{open_at, call_asked}
use Rattle.open_calls.specs.Clients.{AreClients, IsWriting, IsReading, IsIdle, behind_last}
use Rattle.open_calls.proofs.FreeLemmas.{not_both, write_no_read, write_no_whole, read_no_whole}
use Rattle.open_calls.proofs.Gone.{left_clients, written_clients, seen_clients}
use Rattle.open_calls.proofs.SeenLemmas.{seen_answer, idle_once_gone, behind_within}
use Rattle.volume_core.specs.State.{State, opening_of, told_of, modes_in, index_at}
use Rattle.packed_entries.specs.Plain.{data_in}
use Rattle.volume_core.specs.Data.{owed_data}
use Rattle.volume_core.specs.Steps.{with_place, answered, ended}
use Rattle.volume_core.specs.Sound.{IsSoundOn, IsCalm, is_up, owed_end}
use Rattle.step_answers.specs.Asked.{IsOnRange}
use Rattle.volume_core.specs.Answers.{EndsWrite, placed_for}
use Rattle.volume_core.proofs.Answered.{no_command, no_add, asks_one, write_free, read_free, refused_plainly, done_plainly, none_answered}
use Rattle.volume_core.proofs.DataLemmas.{room_left, ended_room}
use Rattle.volume_core.proofs.Rows.{counts, place_sound, data_sound}
use Rattle.volume_core.proofs.Told.{answer_told}

-- the same clients of what is the same
pub same_clients : (v : Volume) (size n m : ℕ) (es : List Entry) (ms ks : List Mode) (tickets : List Ticket)
    (calls : List OpenCall) (nodes : List Node) → n ≡ m → ms ≡ ks
    → AreClients v size n es ms tickets calls nodes → AreClients v size m es ks tickets calls nodes
same_clients v size n m es ms ks tickets calls nodes f g ok =
    subst (λ x. AreClients v size m es x tickets calls nodes) g
    (subst (λ x. AreClients v size x es ms tickets calls nodes) f ok)

-- ---- an answer

module _ (s : State) (stream saw : ℕ) (c : Call) (r : Reply) where
  abbrev pub its_answer : Answer
  its_answer = record { call = c; reply = r; index = index_at s.indices stream; saw = saw; stream = stream }

  -- of a stream of which no call is open then, with these clients
  pub answered_on : (v0 v : Volume) (ns0 ns : List Node) (tickets : List Ticket) (calls : List OpenCall)
      → IsSoundOn v0 ns0 s → IsIdle stream calls → stream < length s.indices → behind_last stream s.book.entries ≤ saw
      → saw ≤ length s.book.entries → added_by c ≡ None → IsOwn (told_of s) (entry.Answer its_answer)
      → IsAnswered (told_of s) (modes_in s) its_answer
      → AreClients v s.size (length s.indices) s.book.entries (modes_in s) tickets calls ns
      → count_by (λ t. t.started) tickets + length s.commands + count_by is_up (modes_in s) + owed_end s.rebuild + 1 ≤ s.book.spare
      → owed_data calls + length (data_in c r) ≤ s.book.spare_data
      → IsSoundOn v ns (answered (record s { tickets = tickets; calls = calls }) stream saw c r)
  answered_on v0 v ns0 ns tickets calls ok idle within past seen none is_own may clients room brings =
      let o = opening_of s in
      let e = entry.Answer its_answer in
      let longer = s.book.entries ++ e ∷ [] in
      let modes : modes_in s ≡ modes_after o.modes longer = sym (modes_after-push o.modes s.book.entries e) in
      record {
        opened = ok.opened;
        told = answer_told o s.book.entries s.indices s.rebuild s.ended its_answer ok.told is_own none may within refl past seen;
        clients = same_clients v s.size (length s.indices) (length (set s.indices stream (index_at s.indices stream + 1)))
            longer (modes_in s) (modes_after o.modes longer) tickets calls ns
            (sym (length-set s.indices stream (index_at s.indices stream + 1))) modes
            (seen_clients v s.size (length s.indices) s.book.entries longer (modes_in s) tickets calls ns
            (seen_answer s.book.entries calls clients.seen its_answer idle) clients);
        spare = omega (arith, room, ap (count_by is_up) modes);
        spare_data = room_left (owed_data calls) s.book.spare_data (data_in c r) brings;
      }

  -- the same where no call on the whole volume is started, with those of the volume that it leaves
  pub answered_sound : (tickets : List Ticket) (calls : List OpenCall) (v : Volume) → IsCalm s → IsIdle stream calls
      → stream < length s.indices → behind_last stream s.book.entries ≤ saw → saw ≤ length s.book.entries
      → added_by c ≡ None → IsOwn (told_of s) (entry.Answer its_answer) → IsAnswered (told_of s) (modes_in s) its_answer
      → (after_entry (told_of s) (entry.Answer its_answer)).volume ≡ v
      → AreClients v s.size (length s.indices) s.book.entries (modes_in s) tickets calls s.nodes
      → count_by (λ t. t.started) tickets + length s.commands + count_by is_up (modes_in s) + owed_end s.rebuild + 1 ≤ s.book.spare
      → owed_data calls + length (data_in c r) ≤ s.book.spare_data
      → IsCalm (answered (record s { tickets = tickets; calls = calls }) stream saw c r)
  answered_sound tickets calls v ok idle within past seen none is_own may after clients room brings =
      subst (λ (w : Volume). IsSoundOn w s.nodes (answered (record s { tickets = tickets; calls = calls }) stream saw c r))
      (sym after ∙ ap (λ (p : PlainState). p.volume) (sym (replay-push (opening_of s).state s.book.entries (entry.Answer its_answer))))
      (answered_on (told_of s).volume v s.nodes s.nodes tickets calls ok idle within past seen none is_own may clients room brings)

-- ---- a call that is refused as it is enrolled

range_own : (p : PlainState) (a : Answer) → IsOnRange a.call → IsOwn p (entry.Answer a)
range_own p a on = λ name e. absurd (subst IsOnRange e on)

range_no_add : (c : Call) → IsOnRange c → added_by c ≡ None
range_no_add (call.Read offset n) on = refl
range_no_add (call.Write offset bytes) on = refl
range_no_add call.Ping on = absurd on
range_no_add (call.Other k) on = absurd on
range_no_add (call.Command c) on = absurd on

pub refused_sound : (v : Volume) (ns : List Node) (s : State) (stream : ℕ) (c : Call) → IsSoundOn v ns s
    → stream < length s.indices → IsIdle stream s.calls → IsOnRange c
    → refusal_of (modes_in s) (told_of s) c ≡ Some OutOfRange
    → IsSoundOn v ns (answered (placed_for s c) stream (length s.book.entries) c (reply.Refused OutOfRange))
refused_sound v ns s stream c ok within idle on refused =
    let refused_c = data_in c (reply.Refused OutOfRange) in
    let ok2 = data_sound v ns (with_place s) (length refused_c) (place_sound v ns s ok) in
    let a = its_answer (placed_for s c) stream (length s.book.entries) c (reply.Refused OutOfRange) in
    answered_on (placed_for s c) stream (length s.book.entries) c (reply.Refused OutOfRange) v v ns ns s.tickets s.calls ok2
    idle within (behind_within stream s.book.entries) (omega arith)
    (range_no_add c on) (range_own (told_of s) a on)
    (refused_plainly (modes_in s) (told_of s) a OutOfRange refused refl (λ r e. subst IsOnRange e on)) ok.clients
    (omega (arith, ok.spare)) (omega arith)

-- ---- a call on a range ends

module _ (s : State) (i : ℕ) (ok : IsCalm s) (h : i < length s.tickets) where
  abbrev c : OpenCall
  c = open_at s.calls i

  abbrev k : Kind
  k = (ticket_at s.tickets i).kind

  abbrev its : Reply → Answer
  its r = record { call = call_asked k c; reply = r; index = index_at s.indices c.stream; saw = c.saw; stream = c.stream }

  call_in : i < length s.calls
  call_in = omega (arith, ok.clients.paired)

  pub ended_sound : (r : Reply) (v : Volume) → k ≢ kind.Whole
      → ((bytes : List ℕ) → r ≡ reply.Read bytes → bytes ≡ c.buffer) → IsAnswered (told_of s) (modes_in s) (its r)
      → (after_entry (told_of s) (entry.Answer (its r))).volume ≡ v
      → AreClients v s.size (length s.indices) s.book.entries (modes_in s) (remove s.tickets i) (remove s.calls i) s.nodes
      → count_by (λ t. t.started) (remove s.tickets i) + length s.commands + count_by is_up (modes_in s) + owed_end
      s.rebuild + 1 ≤ s.book.spare → IsCalm (ended s i r)
  ended_sound r v range own may after clients room =
      answered_sound s c.stream c.saw (call_asked k c) r (remove s.tickets i) (remove s.calls i) v ok
      (idle_once_gone s.book.entries s.calls ok.clients.seen i call_in) (ok.clients.fits i h).stream
      (ok.clients.seen.past i call_in) (ok.clients.seen.saw i call_in)
      (no_add k c range) (λ name e. absurd (no_command k c (command.Snapshot name) range e)) may after clients room
      (ended_room s.calls i k r s.book.spare_data call_in range own ok.spare_data)

  -- the place that a started call has in the journal
  pub started_room : (ticket_at s.tickets i).started ≡ true
      → count_by (λ t. t.started) (remove s.tickets i) + length s.commands + count_by is_up (modes_in s) + owed_end
      s.rebuild + 1 ≤ s.book.spare
  started_room e = omega (
    arith,
    ok.spare,
    sum_by-remove (λ (t : Ticket). cond t.started 1 0) s.tickets i no_ticket h,
    counts (ticket_at s.tickets i).started e,
  )

  -- nothing stands against a call on a range
  on_range : (x : Kind) → k ≡ x → x ≢ kind.Whole → refusal_of (modes_in s) (told_of s) (call_asked x c) ≡ None
  on_range kind.Read e n = let f = ok.clients.fits i h in
      read_free (modes_in s) (told_of s) c.at c.length (omega (arith, f.lies.good, ok.clients.agree.disk)) (f.short e)
  on_range kind.Write e n = let f = ok.clients.fits i h in
      write_free (modes_in s) (told_of s) c.at c.bytes (omega (arith, f.lies.good, f.count e, ok.clients.agree.disk))
  on_range kind.Whole e n = absurd (n refl)

  -- no replica is left for it
  pub none_sound : k ≢ kind.Whole → HasNoSource (modes_in s)
      → count_by (λ t. t.started) (remove s.tickets i) + length s.commands + count_by is_up (modes_in s) + owed_end
      s.rebuild + 1 ≤ s.book.spare → IsCalm (ended s i (reply.Refused NoReplica))
  none_sound range none room =
      ended_sound (reply.Refused NoReplica) (told_of s).volume range (λ bytes e. absurd cc)
      (none_answered (modes_in s) (told_of s) (its (reply.Refused NoReplica)) (on_range k refl range) (asks_one k c range)
      (λ x e. no_command k c x range e) refl none) refl
      (left_clients (told_of s).volume s.size (length s.indices) s.book.entries (modes_in s) s.tickets s.calls s.nodes i
      ok.clients h (λ r e w. none r e)) room

  as_asked : (x : Kind) → k ≡ x → call_asked k c ≡ call_asked x c
  as_asked x e = ap (λ y. call_asked y c) e

  pub write_sound : IsWriting (ticket_at s.tickets i) → (r : Reply) → EndsWrite s i r → IsCalm (ended s i r)
  write_sound w reply.Done end =
      let is = as_asked kind.Write w.writes in
      let p = told_of s in
      let v = written p.volume (pos c.at) c.bytes in
      ended_sound reply.Done v (write_no_whole k w.writes) (λ bytes e. absurd cc)
      (done_plainly (modes_in s) p (its reply.Done)
      (ap (refusal_of (modes_in s) p) is ∙ on_range kind.Write w.writes (λ e. cc))
      (sym (ap (λ x. (step_unless None (modes_in s) p x).1) is)) (λ x e. no_command k c x (write_no_whole k w.writes) e)
      (λ _. end.reply))
      (ap (λ x. (after_call p x).volume) is)
      (written_clients p.volume s.size (length s.indices) s.book.entries (modes_in s) s.tickets s.calls s.nodes i ok.clients
      h w end.acknowledged)
      (started_room w.started)
  write_sound w (reply.Read bytes) end = absurd end.reply
  write_sound w (reply.Status layers modes) end = absurd end.reply
  write_sound w (reply.Aborted place) end = absurd end.reply
  write_sound w (reply.Refused why) end =
      subst (λ x. IsCalm (ended s i (reply.Refused x))) (sym end.reply.0)
      (none_sound (write_no_whole k w.writes) end.reply.1 (started_room w.started))

  -- a read that a replica acknowledged
  pub read_sound : IsReading (ticket_at s.tickets i) → (r : ℕ) → part_at c.parts r ≡ Acked → IsCalm (ended s i (reply.Read c.buffer))
  read_sound w r acked =
      let is = as_asked kind.Read w.reads in
      let p = told_of s in
      let bytes = (ok.clients.reads i h w).read r (subst IsTaken (sym acked) tt) in
      ended_sound (reply.Read c.buffer) p.volume (read_no_whole k w.reads) (λ bytes e. cc)
      (done_plainly (modes_in s) p (its (reply.Read c.buffer))
      (ap (refusal_of (modes_in s) p) is ∙ on_range kind.Read w.reads (λ e. cc))
      (ap reply.Read bytes ∙ sym (ap (λ x. (step_unless None (modes_in s) p x).1) is))
      (λ x e. no_command k c x (read_no_whole k w.reads) e)
      (λ change. absurd (not_both (is_change (call_asked k c)) (ap is_change is) change)))
      (ap (λ x. (after_call p x).volume) is)
      (left_clients p.volume s.size (length s.indices) s.book.entries (modes_in s) s.tickets s.calls s.nodes i ok.clients h
      (λ q e v. write_no_read k v.writes w.reads))
      (started_room w.started)

-- a call that waits, and for which no replica is left
pub refused_start_sound : (s : State) (i : ℕ) → IsCalm s → i < length s.tickets → (ticket_at s.tickets i).kind ≢ kind.Whole
    → HasNoSource (modes_in s) → IsCalm (ended (with_place s) i (reply.Refused NoReplica))
refused_start_sound s i ok h range none =
    none_sound (with_place s) i (place_sound (told_of s).volume s.nodes s ok) h range none
    (omega (arith, ok.spare, sum_by-remove (λ (t : Ticket). cond t.started 1 0) s.tickets i no_ticket h))
