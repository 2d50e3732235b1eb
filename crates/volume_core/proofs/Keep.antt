-- Each step keeps the invariant, with the call on the whole volume and the maintenance turn.
use Rattle.std.proofs.Common.{◌≡◌, ◌≢◌, ℕ, zero, suc, ◌+◌, ◌%◌, ◌<◌, ◌≤◌, Bool, true, false, cond, List, [], ◌∷◌}
use Rattle.std.proofs.Common.{length, set, length-set, refl, sym, ap, subst, ◌∙◌, arith}
use Rattle.std.specs.Prelude.{Option, None, Some}
use Rattle.std.specs.List.{remove}
use Rattle.vol_units.specs.declared.range.BlockRange.{BlockRange}
use Rattle.vol_units.specs.Range.{blocks_around}
use Rattle.volume_model.specs.declared.call.Call.{Call}
use Rattle.volume_model.specs.declared.call.Refusal.TheVariants.{OutOfRange, NoReplica}
use Rattle.volume_model.specs.declared.call.Reply.{Reply}
use Rattle.volume_model.specs.declared.call.Reply.TheVariants as reply
use Rattle.volume_model.specs.declared.entry.Answer.{Answer}
use Rattle.volume_model.specs.declared.entry.Entry.{Entry}
use Rattle.volume_model.specs.declared.entry.Entry.TheVariants as entry
use Rattle.volume_model.specs.declared.mode.Mode.{Mode}
use Rattle.volume_model.specs.declared.mode.Mode.TheVariants.{Rw, Err}
use Rattle.volume_model.specs.Modes.{mode_of, HasNoSource}
use Rattle.volume_model.specs.PlainState.{PlainState}
use Rattle.volume_model.specs.PlainStep.{longest_call, refusal_of, after_call}
use Rattle.volume_model.specs.Replay.{after_entry, is_refusal}
use Rattle.volume_model.specs.Snapshots.{Snapshots}
use Rattle.volume_model.proofs.PushLemmas.{modes_after-push}
use Rattle.volume_model.proofs.StepLemmas.{replay-push}
use Rattle.range_turns.specs.declared.ticket.Kind.{Kind}
use Rattle.range_turns.specs.declared.ticket.Kind.TheVariants as kind
use Rattle.range_turns.specs.declared.ticket.Ticket.{Ticket}
use Rattle.range_turns.specs.Order.{ticket_at, with_started, IsFresh, IsClear}
use Rattle.replica_node.specs.Node.{Node}
use Rattle.replica_node.specs.Room.{put_at}
use Rattle.open_calls.specs.declared.open_call.OpenCall.{OpenCall}
use Rattle.step_answers.specs.Parts.{part_at, IsTaken}
use Rattle.open_calls.specs.Calls.{open_at, node_at, call_asked, begun, with_part_at, read_from}
use Rattle.step_answers.specs.declared.parts.Part.TheVariants.{Acked}
use Rattle.open_calls.specs.Clients.{IsWriting, IsReading, IsIdle}
use Rattle.open_calls.specs.Starts.{KeepsNodes}
use Rattle.open_calls.proofs.Enrolled.{enrolled_fits}
use Rattle.open_calls.proofs.FreeLemmas.{not_both, write_no_read, write_no_whole, read_no_whole}
use Rattle.open_calls.proofs.PartLemmas.{acked_was}
use Rattle.open_rebuild.specs.Claim.{IsRebuilding}
use Rattle.open_rebuild.proofs.RangeSteps as keeps
use Rattle.replica_node.specs.Held.{IsChained}
use Rattle.open_calls.proofs.SeenLemmas.{behind_within}
use Rattle.open_calls.specs.declared.maint.MaintCall.{MaintCall}
use Rattle.open_calls.specs.declared.whole.Whole.{Whole}
use Rattle.open_calls.specs.Due.{due, forms}
use Rattle.open_calls.specs.Whole.{IsWhole}
use Rattle.open_calls.specs.Maint.{HasNoCommand, FitsMaint, AreMaint}
use Rattle.open_calls.proofs.Kept.{none_whole, whole_enrolled, whole_left, each_push, each_left, each_set}
use Rattle.open_calls.proofs.Kept.{queued_answer, fits_still, fits_range, range_alone}
use Rattle.volume_core.specs.State.{State, opening_of, told_of, modes_in, index_at}
use Rattle.volume_core.specs.Steps.{with_place, with_rooms, with_data, answered, enrolled, without_call, started}
use Rattle.volume_core.specs.Steps.{wrote, has_read, acked, ended}
use Rattle.volume_core.specs.Sound.{IsSound, IsSoundOn, IsCalm, AreAdds, AreCaused, NoneGaveUp}
use Rattle.volume_core.proofs.Caused.{caused_answer}
use Rattle.volume_core.proofs.RebuildKept.{roomed}
use Rattle.step_answers.specs.Asked.{IsOnRange}
use Rattle.volume_core.specs.Answers.{IsRoomier, BeginsBy, EndsWrite, placed_for}
use Rattle.volume_core.proofs.Ends as ends
use Rattle.volume_core.proofs.Rows as rows

-- ---- what is the same

pub same_whole : (p q : PlainState) (ms ks : List Mode) (ts : List Ticket) (cs : List OpenCall) (ns : List Node)
    (w : Option Whole) → p ≡ q → ms ≡ ks → IsWhole p ms ts cs ns w → IsWhole q ks ts cs ns w
same_whole p q ms ks ts cs ns w e f is = subst (λ (x : List Mode). IsWhole q x ts cs ns w) f
    (subst (λ (x : PlainState). IsWhole x ms ts cs ns w) e is)

pub same_maint : (a b : Snapshots) (n m : ℕ) (es : List Entry) (ms ks : List Mode) (ts : List Ticket) (cs : List OpenCall)
    (ns : List Node) (maint : List Ticket) (commands : List MaintCall) → a ≡ b → n ≡ m → ms ≡ ks
    → AreMaint a n es ms ts cs ns maint commands → AreMaint b m es ks ts cs ns maint commands
same_maint a b n m es ms ks ts cs ns maint commands e f g is =
    subst (λ (x : List Mode). AreMaint b m es x ts cs ns maint commands) g
    (subst (λ (x : ℕ). AreMaint b x es ms ts cs ns maint commands) f
    (subst (λ (x : Snapshots). AreMaint x n es ms ts cs ns maint commands) e is))

pub on_same : (w : Option Whole) (p q : PlainState) (ns : List Node) (s : State) → p ≡ q
    → IsSoundOn (due w p.volume) (forms w ns) s → IsSoundOn (due w q.volume) (forms w ns) s
on_same w p q ns s e on = subst (λ (x : PlainState). IsSoundOn (due w x.volume) (forms w ns) s) e on

-- ---- while no call on the whole volume is started

-- a ticket is clear, or has started, that is not of the whole volume
pub calm_by : (s : State) (i : ℕ) → IsSound s → i < length s.tickets → IsClear s.tickets i
    → ((ticket_at s.tickets i).kind ≡ kind.Whole → (ticket_at s.tickets i).started ≡ false) → s.whole ≡ None
calm_by s i ok h clear not = none_whole (told_of s) (modes_in s) s.tickets s.calls s.nodes s.whole i ok.whole
    ok.on.clients.order h clear not

pub started_calm : (s : State) (i : ℕ) → IsSound s → i < length s.tickets → (ticket_at s.tickets i).started ≡ true
    → (ticket_at s.tickets i).kind ≢ kind.Whole → s.whole ≡ None
started_calm s i ok h on range = calm_by s i ok h (ok.on.clients.order.apart i h on) (λ w. absurd (range w))

pub calm_of : (s : State) → IsSound s → s.whole ≡ None → IsCalm s
calm_of s ok none = subst (λ (w : Option Whole). IsSoundOn (due w (told_of s).volume) (forms w s.nodes) s) none ok.on

-- a call on a range has started
pub calm_at : (s : State) (i : ℕ) → IsSound s → i < length s.tickets → (ticket_at s.tickets i).started ≡ true
    → (ticket_at s.tickets i).kind ≢ kind.Whole → IsCalm s
calm_at s i ok h on range = calm_of s ok (started_calm s i ok h on range)

-- a step that leaves it so
pub of_calm : (s : State) → s.whole ≡ None → IsCalm s → IsWhole (told_of s) (modes_in s) s.tickets s.calls s.nodes None
    → AreMaint (told_of s).volume.snapshots (length s.indices) s.book.entries (modes_in s) s.tickets s.calls s.nodes s.maint s.commands
    → IsRebuilding s.size (modes_in s) s.tickets s.calls None s.nodes s.rebuild
    → AreAdds s.maint s.commands s.rebuild s.ended → (NoneGaveUp s.gave_up → AreCaused s.maint s.commands s.book.entries)
    → length s.gave_up ≡ length s.indices → IsSound s
of_calm s none calm whole maint rebuild adds caused streams = record {
  on = subst (λ (w : Option Whole). IsSoundOn (due w (told_of s).volume) (forms w s.nodes) s) (sym none) calm;
  whole = subst (λ (w : Option Whole). IsWhole (told_of s) (modes_in s) s.tickets s.calls s.nodes w) (sym none) whole;
  maint = maint;
  disk = calm.clients.agree.disk;
  rebuild = subst (λ (w : Option Whole). IsRebuilding s.size (modes_in s) s.tickets s.calls w s.nodes s.rebuild) (sym none) rebuild;
  adds = adds;
  caused = caused;
  streams = streams;
}

none_of : (s : State) → IsSound s → s.whole ≡ None → IsWhole (told_of s) (modes_in s) s.tickets s.calls s.nodes None
none_of s ok none = subst (λ (w : Option Whole). IsWhole (told_of s) (modes_in s) s.tickets s.calls s.nodes w) none ok.whole

pub rebuild_of_none : (s : State) → IsSound s → s.whole ≡ None → IsRebuilding s.size (modes_in s) s.tickets s.calls None s.nodes s.rebuild
rebuild_of_none s ok none = subst (λ (w : Option Whole). IsRebuilding s.size (modes_in s) s.tickets s.calls w s.nodes s.rebuild) none
    ok.rebuild

-- ---- more places

pub place_kept : (s : State) → IsSound s → IsSound (with_place s)
place_kept s ok = record {
  on = rows.place_sound (due s.whole (told_of s).volume) (forms s.whole s.nodes) s ok.on;
  whole = ok.whole;
  maint = record { queued = ok.maint.queued; fits = ok.maint.fits };
  disk = ok.disk;
  rebuild = ok.rebuild;
  adds = ok.adds;
  caused = ok.caused;
  streams = ok.streams;
}

pub data_kept : (s : State) (n : ℕ) → IsSound s → IsSound (with_data s n)
data_kept s n ok = record {
  on = rows.data_sound (due s.whole (told_of s).volume) (forms s.whole s.nodes) s n ok.on;
  whole = ok.whole;
  maint = record { queued = ok.maint.queued; fits = ok.maint.fits };
  disk = ok.disk;
  rebuild = ok.rebuild;
  adds = ok.adds;
  caused = ok.caused;
  streams = ok.streams;
}

same_layers : (s : State) (nodes : List Node) → KeepsNodes s.nodes nodes → (r : ℕ) → (node_at nodes r).layers ≡ (node_at s.nodes r).layers
same_layers s nodes keeps r = ap (λ (n : Node). n.layers) (keeps.same r)

pub roomier_kept : (s s2 : State) → IsSound s → s.whole ≡ None → IsRoomier s s2 → IsSound s2
roomier_kept s s2 ok none is =
    let s_changed_here = record (with_rooms s is.spare is.spare_data) { nodes = is.nodes } in
    let calm = rows.roomier_sound s s_changed_here (calm_of s ok none)
    (record {
      nodes = is.nodes;
      spare = is.spare;
      spare_data = is.spare_data;
      keeps = is.keeps;
      more = is.more;
      more_data = is.more_data;
      state = refl;
    }) in
    subst IsSound (sym is.state) (of_calm s_changed_here none calm (none_of s ok none)
    (record {
      queued = ok.maint.queued;
      fits = λ i l. fits_still (told_of s).volume.snapshots (modes_in s) (modes_in s) s.nodes is.nodes s.maint s.commands
          (ticket_at s.tickets i) (open_at s.calls i) (λ r e. e) (same_layers s is.nodes is.keeps) (ok.maint.fits i l);
    })
    (roomed s.size (modes_in s) s.tickets s.calls s.nodes is.nodes s.rebuild is.keeps (rebuild_of_none s ok none)) ok.adds
    ok.caused ok.streams)

-- and one place more before that
pub roomier_place : (s s2 : State) → IsRoomier (with_place s) s2 → IsRoomier s s2
roomier_place s s2 is = record {
  nodes = is.nodes;
  spare = is.spare;
  spare_data = is.spare_data;
  keeps = is.keeps;
  more = omega (arith, is.more);
  more_data = is.more_data;
  state = is.state;
}

-- ---- a call is enrolled

pub enrolled_kept : (s : State) (t : Ticket) (c : OpenCall) → IsSound s → t.kind ≢ kind.Whole
    → HasNoCommand c.stream s.commands → t.started ≡ false → IsFresh s.tickets t.number
    → IsSoundOn (due s.whole (told_of s).volume) (forms s.whole s.nodes) (enrolled s t c) → IsSound (enrolled s t c)
enrolled_kept s t c ok range none new fresh on = record {
  on = on;
  whole = whole_enrolled (told_of s) (modes_in s) s.tickets s.calls s.nodes s.whole t c ok.whole ok.on.clients.paired new fresh;
  maint = record {
    queued = ok.maint.queued;
    fits = each_push (FitsMaint (told_of s).volume.snapshots (modes_in s) s.nodes s.maint s.commands) s.tickets s.calls t c
        ok.on.clients.paired ok.maint.fits
        (fits_range (told_of s).volume.snapshots (modes_in s) s.nodes s.maint s.commands t c range none);
  };
  disk = ok.disk;
  rebuild = keeps.call_enrolled s.size (modes_in s) s.tickets s.calls s.whole s.nodes s.rebuild t c ok.on.clients.paired new ok.rebuild;
  adds = ok.adds;
  caused = ok.caused;
  streams = ok.streams;
}

at_most : (n : ℕ) → n ≤ n
at_most n = omega arith

-- as a read or a write is enrolled
pub call_enrolled : (s : State) (k : Kind) (number stream at n : ℕ) (range : BlockRange) (bytes : List ℕ) → IsSound s
    → k ≢ kind.Whole → HasNoCommand stream s.commands → s.size % 2097152 ≡ 0
    → range ≡ blocks_around at n → at + n ≤ s.size → (k ≡ kind.Read → n ≤ longest_call)
    → (k ≡ kind.Write → length bytes ≡ n) → stream < length s.indices → IsIdle stream s.calls → IsFresh s.tickets number
    → IsSound (enrolled (with_data s (length bytes)) (record { number = number; range = range; kind = k; started = false })
    (record {
      stream = stream;
      saw = length s.book.entries;
      at = at;
      length = n;
      bytes = bytes;
      front = [];
      back =
          [];
      buffer = [];
      parts = [];
      op = None;
    }))
call_enrolled s k number stream at n range bytes ok call none whole is good short count within idle fresh =
    let roomy = with_data s (length bytes) in
    let ok2 = data_kept s (length bytes) ok in
    enrolled_kept roomy _ _ ok2 call none refl fresh
    (rows.enrolled_sound (due s.whole (told_of s).volume) (forms s.whole s.nodes) roomy _ _ ok2.on refl fresh
    (enrolled_fits s.size (length s.indices) (length (forms s.whole s.nodes)) _ _ whole is refl good short count within)
    idle (behind_within stream s.book.entries) (at_most (length s.book.entries)) (omega arith))

-- ---- a call that waits is taken back

pub withdrawn_kept : (s : State) (i : ℕ) → IsSound s → i < length s.tickets → (ticket_at s.tickets i).started ≡ false
    → IsSound (without_call s i)
withdrawn_kept s i ok h waits = record {
  on = rows.withdrawn_sound (due s.whole (told_of s).volume) (forms s.whole s.nodes) s i ok.on h waits;
  whole = whole_left (told_of s) (modes_in s) s.tickets s.calls s.nodes s.whole i ok.whole ok.on.clients.paired h (λ w. waits);
  maint = record {
    queued = ok.maint.queued;
    fits =
        each_left (FitsMaint (told_of s).volume.snapshots (modes_in s) s.nodes s.maint s.commands) s.tickets s.calls i
        ok.on.clients.paired h ok.maint.fits;
  };
  disk = ok.disk;
  rebuild = keeps.call_gone s.size (modes_in s) s.tickets s.calls s.whole s.nodes s.rebuild i ok.on.clients.paired h
      (λ w. not_both (ticket_at s.tickets i).started waits w.started) ok.rebuild;
  adds = ok.adds;
  caused = ok.caused;
  streams = ok.streams;
}

-- ---- an answer that changes nothing, of a stream with no call open

module _ (s : State) (ok : IsSound s) (stream : ℕ) (c : Call) (r : Reply) (within : stream < length s.indices)
    (none : HasNoCommand stream s.commands) (room : ℕ) where
  abbrev pub next : State
  next = answered (with_rooms s (s.book.spare + 1) room) stream (length s.book.entries) c r

  pub quiet_kept : told_of next ≡ told_of s → IsSoundOn (due s.whole (told_of s).volume) (forms s.whole s.nodes) next → IsSound next
  quiet_kept same on =
      let length_set_here = length-set s.indices stream (index_at s.indices stream + 1) in
      let a = ends.its_answer (with_place s) stream (length s.book.entries) c r in
      let modes : modes_in s ≡ modes_in next = sym (modes_after-push (opening_of s).modes s.book.entries (entry.Answer a)) in
      record {
        on = on_same s.whole (told_of s) (told_of next) s.nodes next (sym same) on;
        whole = same_whole (told_of s) (told_of next) (modes_in s) (modes_in next) s.tickets s.calls s.nodes s.whole
            (sym same) modes ok.whole;
        maint = same_maint (told_of s).volume.snapshots (told_of next).volume.snapshots (length s.indices)
            (length next.indices) next.book.entries (modes_in s) (modes_in next) s.tickets s.calls s.nodes s.maint
            s.commands
            (ap (λ (p : PlainState). p.volume.snapshots) (sym same)) (sym length_set_here) modes
            (record {
              queued = queued_answer (length s.indices) s.book.entries a s.maint s.commands ok.maint.queued none;
              fits = ok.maint.fits;
            });
        disk = ap (λ (p : PlainState). length p.volume.disk) same ∙ ok.disk;
        rebuild = subst (λ (ms : List Mode). IsRebuilding s.size ms s.tickets s.calls s.whole s.nodes s.rebuild) modes ok.rebuild;
        adds = ok.adds;
        caused = λ none. caused_answer s.maint s.commands s.book.entries (ok.caused none) a;
        streams = ok.streams ∙ sym length_set_here;
      }

  pub told_next : (cond (is_refusal r) (told_of s) (after_call (told_of s) c)) ≡ told_of s → told_of next ≡ told_of s
  told_next same = replay-push (opening_of s).state s.book.entries
      (entry.Answer (ends.its_answer (with_place s) stream (length s.book.entries) c r)) ∙ same

pub refused_kept : (s : State) (stream : ℕ) (c : Call) → IsSound s → stream < length s.indices → IsIdle stream s.calls
    → HasNoCommand stream s.commands → IsOnRange c → refusal_of (modes_in s) (told_of s) c ≡ Some OutOfRange
    → IsSound (answered (placed_for s c) stream (length s.book.entries) c (reply.Refused OutOfRange))
refused_kept s stream c ok within idle none on refused =
    let room = (placed_for s c).book.spare_data in
    quiet_kept s ok stream c (reply.Refused OutOfRange) within none room
    (told_next s ok stream c (reply.Refused OutOfRange) within none room refl)
    (ends.refused_sound (due s.whole (told_of s).volume) (forms s.whole s.nodes) s stream c ok.on within idle on refused)

-- ---- the steps of a started call on a range

module _ (s : State) (i : ℕ) (ok : IsSound s) (h : i < length s.tickets) (on : (ticket_at s.tickets i).started ≡ true)
    (range : (ticket_at s.tickets i).kind ≢ kind.Whole) where
  calm_here : s.whole ≡ None
  calm_here = started_calm s i ok h on range

  -- its call changes, and replicas but for their layers
  stepped : (c : OpenCall) (ns : List Node) → c.stream ≡ (open_at s.calls i).stream
      → ((r : ℕ) → (node_at ns r).layers ≡ (node_at s.nodes r).layers)
      → IsRebuilding s.size (modes_in s) s.tickets (set s.calls i c) None ns s.rebuild
      → IsCalm (record s { nodes = ns; calls = set s.calls i c }) → IsSound (record s { nodes = ns; calls = set s.calls i c })
  stepped c ns same layers rebuild calm =
      let old = ok.maint.fits i h in
      let Q = FitsMaint (told_of s).volume.snapshots (modes_in s) ns s.maint s.commands in
      let t = ticket_at s.tickets i in
      let each = λ (j : ℕ) (l : j < length s.tickets). fits_still (told_of s).volume.snapshots (modes_in s) (modes_in s)
      s.nodes ns s.maint s.commands (ticket_at s.tickets j) (open_at s.calls j) (λ r e. e) layers (ok.maint.fits j l) in
      of_calm (record s { nodes = ns; calls = set s.calls i c }) calm_here calm (none_of s ok calm_here)
      (record {
        queued = ok.maint.queued;
        fits = subst (λ (ts : List Ticket). (j : ℕ) → j < length ts → Q (ticket_at ts j) (open_at (set s.calls i c) j))
            (lib.Seq.set-get_or s.tickets i Rattle.range_turns.specs.Order.no_ticket)
            (each_set Q s.tickets s.calls i t c ok.on.clients.paired h each
            (fits_range (told_of s).volume.snapshots (modes_in s) ns s.maint s.commands t c range
            (subst (λ n. HasNoCommand n s.commands) (sym same)
            (range_alone (told_of s).volume.snapshots (modes_in s) s.nodes s.maint s.commands t (open_at s.calls i) range
            old))));
      }) rebuild ok.adds ok.caused ok.streams

  call_in : i < length s.calls
  call_in = omega (arith, h, ok.on.clients.paired)

  pub acked_kept : (r : ℕ) → IsTaken (part_at (open_at s.calls i).parts r) → IsSound (acked s i r)
  acked_kept r mine = stepped _ s.nodes refl (λ q. refl)
      (keeps.call_changed s.size (modes_in s) s.tickets s.calls None s.nodes s.rebuild i
      (with_part_at (open_at s.calls i) r Acked) call_in h refl
      (λ _ q tk. acked_was (open_at s.calls i).parts r q mine tk) (rebuild_of_none s ok calm_here))
      (rows.acked_sound s i r (calm_of s ok calm_here) h mine)

  pub wrote_kept : (r count : ℕ) → IsWriting (ticket_at s.tickets i) → mode_of (modes_in s) r ≢ Err
      → IsChained (node_at s.nodes r) count → IsSound (wrote s i r)
  wrote_kept r count w up chained =
      let calm = calm_of s ok calm_here in
      stepped _ (wrote s i r).nodes refl
      (λ q. same_put s.nodes r q (ticket_at s.tickets i).range.first
      (Rattle.open_calls.specs.Calls.whole_of (open_at s.calls i)))
      (keeps.wrote (told_of s).volume s.size (length s.indices) s.book.entries (modes_in s) s.tickets s.calls s.nodes i r
      count calm.clients h w up chained s.rebuild (rebuild_of_none s ok calm_here))
      (rows.wrote_sound s i r calm h w up)
    where
      same_put : (ns : List Node) (r q first : ℕ) (bytes : List ℕ)
          → (node_at (set ns r (put_at (node_at ns r) first bytes)) q).layers ≡ (node_at ns q).layers
      same_put [] r q first bytes = refl
      same_put (n ∷ ns) zero zero first bytes = refl
      same_put (n ∷ ns) zero (suc q) first bytes = refl
      same_put (n ∷ ns) (suc r) zero first bytes = refl
      same_put (n ∷ ns) (suc r) (suc q) first bytes = same_put ns r q first bytes

  pub has_read_kept : (r : ℕ) → IsReading (ticket_at s.tickets i) → mode_of (modes_in s) r ≡ Rw → IsSound (has_read s i r)
  has_read_kept r w read = stepped _ s.nodes refl (λ q. refl)
      (keeps.call_changed s.size (modes_in s) s.tickets s.calls None s.nodes s.rebuild i
      (read_from (open_at s.calls i) r (node_at s.nodes r)) call_in h refl
      (λ v. absurd (write_no_read (ticket_at s.tickets i).kind v.writes w.reads)) (rebuild_of_none s ok calm_here))
      (rows.has_read_sound s i r (calm_of s ok calm_here) h w read)

-- ---- a call on a range starts

pub begins_kept : (s s2 : State) (i source : ℕ) → IsSound s → i < length s.tickets → (ticket_at s.tickets i).started ≡ false
    → IsClear s.tickets i → mode_of (modes_in s) source ≡ Rw
    → (k : Kind) → (ticket_at s.tickets i).kind ≡ k → BeginsBy k (with_place s) i source s2 → IsSound s2
begins_kept s s2 i source ok h waits clear read k is b =
    by k is b (rows.begins_sound s s2 i source (calm_of s ok none) h waits clear read k is b)
  where
    none : s.whole ≡ None
    none = calm_by s i ok h clear (λ w. waits)

    begun_kept : (k : Kind) → (ticket_at s.tickets i).kind ≡ k → k ≢ kind.Whole
        → (ns : List Node) (front back buffer : List ℕ) (room : ℕ) → KeepsNodes s.nodes ns
        → s2 ≡ started (with_rooms s (s.book.spare + 1) room) i ns front back buffer → IsCalm s2 → IsSound s2
    begun_kept k is range ns front back buffer room more state calm =
        let c = begun (open_at s.calls i) (modes_in s) front back buffer in
        let t = record (ticket_at s.tickets i) { started = true } in
        let Q = FitsMaint (told_of s).volume.snapshots (modes_in s) ns s.maint s.commands in
        let each = λ (j : ℕ) (l : j < length s.tickets). fits_still (told_of s).volume.snapshots (modes_in s) (modes_in s)
        s.nodes ns s.maint s.commands (ticket_at s.tickets j) (open_at s.calls j) (λ r e. e) (same_layers s ns more)
        (ok.maint.fits j l) in
        let in_range : (ticket_at s.tickets i).kind ≢ kind.Whole = λ e. range (sym is ∙ e) in
        let next = started (with_rooms s (s.book.spare + 1) room) i ns front back buffer in
        subst IsSound (sym state) (of_calm next none (subst IsCalm state calm)
        (started_none in_range)
        (record {
          queued = ok.maint.queued;
          fits = each_set Q s.tickets s.calls i t c ok.on.clients.paired h each
              (fits_range (told_of s).volume.snapshots (modes_in s) ns s.maint s.commands t c in_range
              (range_alone (told_of s).volume.snapshots (modes_in s) s.nodes s.maint s.commands (ticket_at s.tickets i)
              (open_at s.calls i) in_range (ok.maint.fits i h)));
        })
        (keeps.call_started s.size (modes_in s) s.tickets s.calls s.nodes ns s.rebuild i front back buffer
        (omega (arith, h, ok.on.clients.paired)) h more (rebuild_of_none s ok none))
        ok.adds ok.caused ok.streams)
      where
        started_none : (ticket_at s.tickets i).kind ≢ kind.Whole → (j : ℕ) → j < length (with_started s.tickets i)
            → (ticket_at (with_started s.tickets i) j).kind ≡ kind.Whole
            → (ticket_at (with_started s.tickets i) j).started ≡ false
        started_none range j l = Rattle.open_calls.proofs.ListLemmas.at_set
            (λ (x : Ticket). x.kind ≡ kind.Whole → x.started ≡ false) s.tickets i j
            (record (ticket_at s.tickets i) { started = true }) Rattle.range_turns.specs.Order.no_ticket h
            (λ e w. absurd (range w))
            (λ n. none_of s ok none j
            (omega (arith, l, length-set s.tickets i (record (ticket_at s.tickets i) { started = true }))))

    by : (k : Kind) → (ticket_at s.tickets i).kind ≡ k → BeginsBy k (with_place s) i source s2 → IsCalm s2 → IsSound s2
    by kind.Read is b calm = begun_kept kind.Read is (λ e. cc) s.nodes [] [] b.buffer
        (with_data s (open_at s.calls i).length).book.spare_data
        (Rattle.open_calls.proofs.Started.same_keeps s.nodes) b.state calm
    by kind.Write is b calm = begun_kept kind.Write is (λ e. cc) b.nodes b.front b.back [] s.book.spare_data b.keeps b.state calm
    by kind.Whole is b calm = absurd b

-- ---- a call on a range ends

module _ (s : State) (i : ℕ) (ok : IsSound s) (h : i < length s.tickets) (range : (ticket_at s.tickets i).kind ≢ kind.Whole)
    (none : s.whole ≡ None) where
  -- what is left of the snapshots
  same_snapshots : (k : Kind) (r : Reply) → k ≢ kind.Whole
      → (after_entry (told_of s)
      (entry.Answer (record {
        call = call_asked k (open_at s.calls i);
        reply = r;
        index =
            index_at s.indices (open_at s.calls i).stream;
        saw = (open_at s.calls i).saw;
        stream =
            (open_at s.calls i).stream;
      }))).volume.snapshots ≡ (told_of s).volume.snapshots
  same_snapshots kind.Read r n = by (is_refusal r)
    where
      by : (b : Bool) → (cond b (told_of s) (after_call (told_of s) (call_asked kind.Read (open_at s.calls i)))).volume.snapshots
          ≡ (told_of s).volume.snapshots
      by true = refl
      by false = refl
  same_snapshots kind.Write r n = by (is_refusal r)
    where
      by : (b : Bool) → (cond b (told_of s) (after_call (told_of s) (call_asked kind.Write (open_at s.calls i)))).volume.snapshots
          ≡ (told_of s).volume.snapshots
      by true = refl
      by false = refl
  same_snapshots kind.Whole r n = absurd (n refl)

  pub ended_kept : (spare room : ℕ) (r : Reply)
      → IsRebuilding s.size (modes_in s) (remove s.tickets i) (remove s.calls i) None s.nodes s.rebuild
      → IsCalm (ended (with_rooms s spare room) i r) → IsSound (ended (with_rooms s spare room) i r)
  ended_kept spare room r rebuild calm =
      let next : State = ended (with_rooms s spare room) i r in
      let c = open_at s.calls i in
      let a : Answer = record {
        call = call_asked (ticket_at s.tickets i).kind c;
        reply = r;
        index =
            index_at s.indices c.stream;
        saw = c.saw;
        stream = c.stream;
      } in
      let modes : modes_in s ≡ modes_in next = sym (modes_after-push (opening_of s).modes s.book.entries (entry.Answer a)) in
      let snaps : (told_of s).volume.snapshots ≡ (told_of next).volume.snapshots =
      sym (ap (λ (p : PlainState). p.volume.snapshots) (replay-push (opening_of s).state s.book.entries (entry.Answer a))
      ∙ same_snapshots (ticket_at s.tickets i).kind r range) in
      let alone = range_alone (told_of s).volume.snapshots (modes_in s) s.nodes s.maint s.commands (ticket_at s.tickets i) c
      range (ok.maint.fits i h) in
      of_calm next none calm
      (λ j l. whole_left (told_of s) (modes_in s) s.tickets s.calls s.nodes None i (none_of s ok none) ok.on.clients.paired
      h (λ w. absurd (range w)) j l)
      (same_maint (told_of s).volume.snapshots (told_of next).volume.snapshots (length s.indices) (length next.indices)
      next.book.entries (modes_in s) (modes_in next) next.tickets next.calls s.nodes s.maint s.commands
      snaps (sym (length-set s.indices c.stream (index_at s.indices c.stream + 1))) modes
      (record {
        queued = queued_answer (length s.indices) s.book.entries a s.maint s.commands ok.maint.queued alone;
        fits = each_left (FitsMaint (told_of s).volume.snapshots (modes_in s) s.nodes s.maint s.commands) s.tickets s.calls
            i ok.on.clients.paired h ok.maint.fits;
      }))
      (subst (λ (ms : List Mode). IsRebuilding s.size ms (remove s.tickets i) (remove s.calls i) None s.nodes s.rebuild) modes rebuild)
      ok.adds (λ n. caused_answer s.maint s.commands s.book.entries (ok.caused n) a)
      (ok.streams ∙ sym (length-set s.indices c.stream (index_at s.indices c.stream + 1)))

  -- a call that was no started write
  gone_kept : (IsWriting (ticket_at s.tickets i) → ⊥)
      → IsRebuilding s.size (modes_in s) (remove s.tickets i) (remove s.calls i) None s.nodes s.rebuild
  gone_kept other = keeps.call_gone s.size (modes_in s) s.tickets s.calls None s.nodes s.rebuild i ok.on.clients.paired h
      other (rebuild_of_none s ok none)

-- a write or a read that has started
pub write_kept : (s : State) (i : ℕ) → IsSound s → i < length s.tickets → IsWriting (ticket_at s.tickets i) → (r : Reply)
    → EndsWrite s i r → IsSound (ended s i r)
write_kept s i ok h w r end =
    let range = write_no_whole (ticket_at s.tickets i).kind w.writes in
    let none = started_calm s i ok h w.started range in
    let calm = calm_of s ok none in
    ended_kept s i ok h range none s.book.spare s.book.spare_data r
    (keeps.write_ended (told_of s).volume s.size (length s.indices) s.book.entries (modes_in s) s.tickets s.calls s.nodes i
    calm.clients h w end.acknowledged s.rebuild (rebuild_of_none s ok none))
    (ends.write_sound s i calm h w r end)

pub read_kept : (s : State) (i : ℕ) → IsSound s → i < length s.tickets → IsReading (ticket_at s.tickets i) → (r : ℕ)
    → part_at (open_at s.calls i).parts r ≡ Rattle.step_answers.specs.declared.parts.Part.TheVariants.Acked
    → IsSound (ended s i (reply.Read (open_at s.calls i).buffer))
read_kept s i ok h w r acked =
    let range = read_no_whole (ticket_at s.tickets i).kind w.reads in
    let none = started_calm s i ok h w.started range in
    ended_kept s i ok h range none s.book.spare s.book.spare_data (reply.Read (open_at s.calls i).buffer)
    (gone_kept s i ok h range none (λ v. write_no_read (ticket_at s.tickets i).kind v.writes w.reads))
    (ends.read_sound s i (calm_of s ok none) h w r acked)

-- and a read for which no replica is left
pub none_kept : (s : State) (i : ℕ) → IsSound s → i < length s.tickets → IsReading (ticket_at s.tickets i)
    → HasNoSource (modes_in s) → IsSound (ended s i (reply.Refused NoReplica))
none_kept s i ok h w gone =
    let range = read_no_whole (ticket_at s.tickets i).kind w.reads in
    let none = started_calm s i ok h w.started range in
    let calm = calm_of s ok none in
    ended_kept s i ok h range none s.book.spare s.book.spare_data (reply.Refused NoReplica)
    (gone_kept s i ok h range none (λ v. write_no_read (ticket_at s.tickets i).kind v.writes w.reads))
    (ends.none_sound s i calm h range gone (ends.started_room s i calm h w.started))

pub refused_start_kept : (s : State) (i : ℕ) → IsSound s → i < length s.tickets → IsClear s.tickets i
    → (ticket_at s.tickets i).started ≡ false → (ticket_at s.tickets i).kind ≢ kind.Whole → HasNoSource (modes_in s)
    → IsSound (ended (with_place s) i (reply.Refused NoReplica))
refused_start_kept s i ok h clear waits range gone =
    let none = calm_by s i ok h clear (λ w. waits) in
    ended_kept s i ok h range none (s.book.spare + 1) s.book.spare_data (reply.Refused NoReplica)
    (gone_kept s i ok h range none (λ w. not_both (ticket_at s.tickets i).started waits w.started))
    (ends.refused_start_sound s i (calm_of s ok none) h range gone)
