-- A call on the whole volume is refused, or ends once it has started, and the invariant is kept.
use Rattle.std.proofs.Common.{◌≡◌, ◌≢◌, ℕ, ◌+◌, ◌<◌, ◌≤◌, false, cond, List, [], ◌∷◌, ◌++◌, length, refl, sym, ap, subst, ◌∙◌, arith}
use Rattle.std.specs.Prelude.{Option, None, Some}
use Rattle.std.specs.List.{count_by, remove}
use Rattle.std.proofs.lemmas.List.Sums.{sum_by-remove}
use Rattle.volume_model.specs.declared.command.Command.TheVariants as command
use Rattle.volume_model.specs.declared.call.Refusal.{Refusal}
use Rattle.volume_model.specs.declared.call.Refusal.TheVariants.{NoReplica}
use Rattle.volume_model.specs.declared.call.Reply.TheVariants as reply
use Rattle.volume_model.specs.declared.entry.Entry.TheVariants as entry
use Rattle.volume_model.specs.declared.mark.FoldOrDrop.{FoldOrDrop}
use Rattle.volume_model.specs.declared.mark.Mark.TheVariants as mark
use Rattle.volume_model.specs.declared.mode.Mode.{Mode}
use Rattle.volume_model.specs.Modes.{modes_after, HasSource, HasNoSource}
use Rattle.volume_model.specs.PlainState.{PlainState, Volume, purged}
use Rattle.volume_model.specs.Snapshots.{Snapshots}
use Rattle.volume_model.proofs.FaultLemmas.{rise-purged}
use Rattle.volume_model.proofs.PushLemmas.{modes_after-push, IsLegal-push}
use Rattle.volume_model.proofs.FallLemmas.{behind_falls_purged}
use Rattle.volume_model.proofs.RebuildLemmas.{rebuild_of-purged}
use Rattle.volume_model.proofs.StepLemmas.{replay-push}
use Rattle.range_turns.specs.declared.ticket.Kind.TheVariants as kind
use Rattle.range_turns.specs.declared.ticket.Ticket.{Ticket}
use Rattle.range_turns.specs.Order.{ticket_at, no_ticket, IsClear}
use Rattle.step_answers.specs.declared.whole_op.WholeOp.{WholeOp}
use Rattle.step_answers.specs.declared.whole_op.WholeOp.TheVariants as whole
use Rattle.step_answers.specs.Asked.{command_of}
use Rattle.open_calls.specs.Calls.{open_at}
use Rattle.open_calls.specs.Clients.{AreClients}
use Rattle.open_calls.proofs.Gone.{left_clients, seen_clients}
use Rattle.open_calls.proofs.SeenLemmas.{seen_mark}
use Rattle.open_calls.specs.declared.whole.Whole.{Whole}
use Rattle.open_calls.specs.Due.{due_of, formed}
use Rattle.open_calls.specs.Whole.{IsWhole, IsStarted, MayBeDone}
use Rattle.open_calls.specs.Maint.{HasTurn, IsAskedBy, FitsMaint, AreMaint}
use Rattle.open_calls.proofs.Answered.{marked_maint, unmarked_maint}
use Rattle.open_calls.proofs.Ends.{ended_still, done_clients, lost_clients, due_maint, lost_maint}
use Rattle.open_calls.proofs.Kept.{whole_left}
use Rattle.open_calls.proofs.Ops.{IsPlain}
use Rattle.volume_core.specs.State.{State, opening_of, told_of, modes_in, index_at}
use Rattle.volume_core.specs.Steps.{with_place}
use Rattle.volume_core.specs.Data.{owed_data}
use Rattle.volume_core.specs.Sound.{IsSound, IsSoundOn, is_up, owed_end}
use Rattle.volume_core.proofs.Caused.{caused_mark}
use Rattle.volume_core.proofs.Ends.{same_clients}
use Rattle.volume_core.proofs.DataLemmas.{owed_gone}
use Rattle.volume_core.proofs.Keep.{place_kept, calm_by, calm_of, of_calm, rebuild_of_none}
use Rattle.open_rebuild.specs.Claim.{IsRebuilding}
use Rattle.open_rebuild.proofs.RangeSteps.{call_gone}
use Rattle.open_rebuild.proofs.WholeSteps as rebuilds
use Rattle.volume_core.proofs.Rows.{counts}
use Rattle.volume_core.proofs.Told.{mark_ordered}
use Rattle.volume_maint.specs.Steps.{without_whole, whole_ended, whole_marked, barrier_ended}
use Rattle.volume_maint.specs.Places.{IsWholeOn}
use Rattle.volume_maint.specs.Answers.{refused_in, MayBegin, whole_done, whole_lost, AreDone}
use Rattle.volume_maint.proofs.Adds.{none_read, settled, free_claim}
use Rattle.volume_maint.proofs.Barriers.{past_told, past_owed, past_adds, past_rebuilding}
use Rattle.volume_core.proofs.TurnLemmas.{told_named}
use Rattle.volume_maint.proofs.WholeSound.{is_started, on_due, its_rebuild, place_is}
use Rattle.volume_maint.proofs.WholeAnswers.{IsPart, EndsSo, answer_at, asked_by, after_done, done_answered, lost_answered}
use Rattle.volume_maint.proofs.WholeAnswers.{refused_answered, ends_other, ends_kept}

-- ---- one that is refused as it asks to start

no_write : kind.Whole ≢ kind.Write
no_write e = cc

-- of a barrier no rebuild was begun
refused_so : (s : State) (op : WholeOp) (why : Refusal) → MayBegin s op → EndsSo s op (reply.Refused why)
refused_so s (whole.Snapshot name) why may = tt
refused_so s (whole.Remove name) why may = tt
refused_so s (whole.Revert name) why may = tt
refused_so s (whole.Purge f) why may = tt
refused_so s (whole.Barrier r) why may = (refl, may.closed, may.first)

pub refused_whole : (s : State) (i : ℕ) (op : WholeOp) (why : Refusal) → IsSound s → i < length s.tickets
    → (ticket_at s.tickets i).kind ≡ kind.Whole → (ticket_at s.tickets i).started ≡ false → IsClear s.tickets i
    → (open_at s.calls i).op ≡ Some op → MayBegin s op → refused_in s (command_of op) ≡ Some why
    → IsSound (whole_ended (with_place s) i op (reply.Refused why))
refused_whole s i op why ok h is waits clear asks begins refused =
    let none = calm_by s i ok h clear (λ w. waits) in
    let calm = calm_of s ok none in
    ends_kept (with_place s) i op (told_of s).volume (reply.Refused why) (place_kept s ok) h is asks
    (record {
      none = λ j l. whole_left (told_of s) (modes_in s) s.tickets s.calls s.nodes None i
          (subst (λ (x : Option Whole). IsWhole (told_of s) (modes_in s) s.tickets s.calls s.nodes x) none ok.whole)
          ok.on.clients.paired h (λ w. waits) j l;
      clients = left_clients (told_of s).volume s.size (length s.indices) s.book.entries (modes_in s) s.tickets s.calls
          s.nodes i calm.clients h (λ r e t. no_write (sym is ∙ t.writes));
      left = lost_maint (told_of s).volume.snapshots (modes_in s) s.tickets s.calls s.nodes i s.maint s.commands
          ok.on.clients.paired h ok.maint.fits;
      room = omega (arith, ok.on.spare, sum_by-remove (λ (t : Ticket). cond t.started 1 0) s.tickets i no_ticket h);
      rebuild = call_gone s.size (modes_in s) s.tickets s.calls None s.nodes s.rebuild i ok.on.clients.paired h
          (λ t. no_write (sym is ∙ t.writes)) (rebuild_of_none s ok none);
      may = refused_answered s op (open_at s.calls i).stream (open_at s.calls i).saw
          (index_at s.indices (open_at s.calls i).stream) why refused;
      after = refl;
      so = refused_so s op why begins;
    })

-- ---- the one that has started

module _ (s : State) (w : Whole) (ok : IsSound s) (has : s.whole ≡ Some w) where
  abbrev p : PlainState
  p = told_of s

  its_start : IsStarted (told_of s) (modes_in s) s.tickets s.calls s.nodes w
  its_start = is_started s w ok has

  abbrev at : ℕ
  at = its_start.place

  here : AreClients (due_of w.op p.volume) s.size (length s.indices) s.book.entries (modes_in s) s.tickets s.calls
      (formed w.op w.parts s.nodes)
  here = (on_due s w ok has).clients

  gone_none : (j : ℕ) → j < length (remove s.tickets at) → (ticket_at (remove s.tickets at) j).kind ≡ kind.Whole
      → (ticket_at (remove s.tickets at) j).started ≡ false
  gone_none j l k = ended_still p s.size (length s.indices) s.book.entries (modes_in s) s.tickets s.calls s.nodes w its_start here j l

  gone_room : count_by (λ t. t.started) (remove s.tickets at) + length s.commands + count_by is_up (modes_in s) + owed_end
      s.rebuild + 1 ≤ s.book.spare
  gone_room = omega (
    arith,
    ok.on.spare,
    sum_by-remove (λ (t : Ticket). cond t.started 1 0) s.tickets at no_ticket
        its_start.stands.within,
    counts (ticket_at s.tickets at).started its_start.started,
  )

  gone_data : owed_data (remove s.calls at) ≤ s.book.spare_data
  gone_data = omega (arith, ok.on.spare_data, owed_gone s.calls at (omega (arith, its_start.stands.within, ok.on.clients.paired)))

  gone_lost : HasNoSource (modes_in s) → AreClients p.volume s.size (length s.indices) s.book.entries (modes_in s)
      (remove s.tickets at) (remove s.calls at) s.nodes
  gone_lost none = lost_clients p s.size (length s.indices) s.book.entries (modes_in s) s.tickets s.calls s.nodes w
      its_start here (settled (modes_in s) s.rebuild (none_read (modes_in s) s.rebuild ok.rebuild.roles none) ok.rebuild.roles)
      none

  gone_done : AreDone s w → AreClients (due_of w.op p.volume) s.size (length s.indices) s.book.entries (modes_in s)
      (remove s.tickets at) (remove s.calls at) s.nodes
  gone_done done = done_clients p s.size (length s.indices) s.book.entries (modes_in s) s.tickets s.calls s.nodes w its_start here done

  -- a rebuild goes on where the call is done, and none was open where no replica is read
  rebuild_done : AreDone s w → IsRebuilding s.size (modes_in s) (remove s.tickets at) (remove s.calls at) None s.nodes s.rebuild
  rebuild_done done =
      rebuilds.whole_ended s.size (modes_in s) s.tickets s.calls s.nodes w at ok.on.clients.order its_start.stands.within
      its_start.kind its_start.started (gone_done done).agree.as_many its_start.owes done s.rebuild
      (its_rebuild s w ok has)

  rebuild_lost : HasNoSource (modes_in s) → IsRebuilding s.size (modes_in s) (remove s.tickets at) (remove s.calls at) None
      s.nodes s.rebuild
  rebuild_lost none =
      free_claim s.size (modes_in s) s.tickets (remove s.tickets at) s.calls (remove s.calls at) s.whole None s.nodes s.nodes s.rebuild
      (none_read (modes_in s) s.rebuild ok.rebuild.roles none) ok.rebuild

  left_lost : (j : ℕ) → j < length (remove s.tickets at)
      → FitsMaint p.volume.snapshots (modes_in s) s.nodes s.maint s.commands (ticket_at (remove s.tickets at) j)
      (open_at (remove s.calls at) j)
  left_lost = lost_maint p.volume.snapshots (modes_in s) s.tickets s.calls s.nodes at s.maint s.commands
      ok.on.clients.paired its_start.stands.within ok.maint.fits

  left_done : (j : ℕ) → j < length (remove s.tickets at)
      → FitsMaint (due_of w.op p.volume).snapshots (modes_in s) s.nodes s.maint s.commands
      (ticket_at (remove s.tickets at) j) (open_at (remove s.calls at) j)
  left_done = due_maint s.book.entries p (modes_in s) s.tickets s.calls s.nodes w s.maint s.commands (told_named s ok)
      ok.on.clients.seen ok.on.clients.paired its_start ok.maint.fits

  -- done, with its answer
  done_ends : AreDone s w → HasSource (modes_in s) → IsPlain w.op → (IsPart w.op → ⊥) → IsSound (whole_ended s at w.op reply.Done)
  done_ends done source other not =
      ends_kept s at w.op (due_of w.op p.volume) reply.Done ok its_start.stands.within its_start.kind its_start.op
      (record {
        none = gone_none;
        clients = gone_done done;
        left = left_done;
        room = gone_room;
        rebuild = rebuild_done done;
        may = done_answered w.op (modes_in s) p (answer_at s at w.op reply.Done) other its_start.may source not refl refl;
        after = after_done w.op p (index_at s.indices (open_at s.calls at).stream) (open_at s.calls at).saw (open_at s.calls at).stream not;
        so = ends_other s w.op reply.Done other;
      })

  -- given up, with its answer
  lost_ends : HasNoSource (modes_in s) → IsPlain w.op → IsSound (whole_ended s at w.op (reply.Refused NoReplica))
  lost_ends none other =
      ends_kept s at w.op p.volume (reply.Refused NoReplica) ok its_start.stands.within its_start.kind its_start.op
      (record {
        none = gone_none;
        clients = gone_lost none;
        left = left_lost;
        room = gone_room;
        rebuild = rebuild_lost none;
        may = lost_answered w.op (modes_in s) p (answer_at s at w.op (reply.Refused NoReplica)) other its_start.may none refl refl;
        after = refl;
        so = ends_other s w.op (reply.Refused NoReplica) other;
      })

  -- a part of a purge, with its mark
  mark_ends : (f : FoldOrDrop) → w.op ≡ whole.Purge f → AreDone s w → HasSource (modes_in s) → IsSound (whole_marked s at f)
  mark_ends f part done source =
      let length_here = length s.indices in
      let o = opening_of s in
      let es = s.book.entries in
      let e = entry.Mark (mark.Purged f) in
      let longer = es ++ e ∷ [] in
      let s2 : State = whole_marked s at f in
      let modes : modes_in s ≡ modes_in s2 = sym (modes_after-push o.modes es e) in
      let v = purged p.volume f in
      let told : v ≡ (told_of s2).volume = ap (λ (x : PlainState). x.volume) (sym (replay-push o.state es e)) in
      let clients : AreClients v s.size length_here es (modes_in s) s2.tickets s2.calls s.nodes =
      subst (λ (x : WholeOp). AreClients (due_of x p.volume) s.size length_here es (modes_in s) s2.tickets s2.calls s.nodes)
      part (gone_done done) in
      let left : (j : ℕ) → j < length (remove s.tickets at)
      → FitsMaint v.snapshots (modes_in s) s.nodes s.maint s.commands (ticket_at (remove s.tickets at) j)
      (open_at (remove s.calls at) j) =
      subst (λ (x : WholeOp). (j : ℕ) → j < length (remove s.tickets at)
      → FitsMaint (due_of x p.volume).snapshots (modes_in s) s.nodes s.maint s.commands
      (ticket_at (remove s.tickets at) j) (open_at (remove s.calls at) j)) part left_done in
      let turn : HasTurn s.maint s.commands (open_at s.calls at).stream command.Purge =
      subst (IsAskedBy s.maint s.commands (open_at s.calls at).stream) part
      (asked_by s ok at w.op its_start.stands.within its_start.kind its_start.op) in
      let may : MayBeDone (whole.Purge f) p = subst (λ (x : WholeOp). MayBeDone x p) part its_start.may in
      let on : IsSoundOn v s.nodes s2 = record {
        opened = ok.on.opened;
        told = record {
          legal = IsLegal-push o es e ok.on.told.legal (may, source);
          ordered = mark_ordered o es s.indices s.rebuild s.rebuild s.ended s.ended (mark.Purged f) ok.on.told.ordered tt
              (rise-purged es f ok.on.told.ordered.rise)
              (λ q. rebuild_of-purged q es f ∙ ok.on.told.ordered.rebuild q);
        };
        clients = same_clients v s.size length_here length_here longer (modes_in s) (modes_after o.modes longer) s2.tickets
            s2.calls s.nodes refl modes
            (seen_clients v s.size length_here es longer (modes_in s) s2.tickets s2.calls s.nodes
            (seen_mark es s2.calls clients.seen (mark.Purged f)) clients);
        spare = omega (arith, gone_room, ap (count_by is_up) modes);
        spare_data = omega (arith, gone_data);
      } in
      of_calm s2 refl (subst (λ (x : Volume). IsSoundOn x s.nodes s2) told on) gone_none
      (subst (λ (x : Snapshots). AreMaint x (length s2.indices) s2.book.entries (modes_in s2) s2.tickets s2.calls s2.nodes
      s2.maint s2.commands) (ap (λ (x : Volume). x.snapshots) told)
      (subst (λ (x : List Mode). AreMaint v.snapshots (length s2.indices) s2.book.entries x s2.tickets s2.calls s2.nodes
      s2.maint s2.commands) modes
      (marked_maint p.volume.snapshots v.snapshots length_here es (modes_in s) s.tickets s.calls s.nodes s.maint s.commands
      at w.op ok.on.clients.seen ok.on.clients.paired its_start.stands.within its_start.kind its_start.op ok.maint left
      (mark.Purged f))))
      (subst (λ (x : List Mode). IsRebuilding s.size x s2.tickets s2.calls None s2.nodes s2.rebuild) modes (rebuild_done done)) ok.adds
      (λ n. let was = ok.caused n in
      caused_mark s.maint s.commands es was (mark.Purged f) command.Purge length_here (open_at s.calls at).stream
      (behind_falls_purged es f was.fell) refl turn ok.maint.queued) ok.streams

  -- or without one
  gone_ends : HasNoSource (modes_in s) → IsSound (without_whole s at)
  gone_ends none =
      of_calm (without_whole s at) refl
      (record {
        opened = ok.on.opened;
        told = ok.on.told;
        clients = gone_lost none;
        spare = omega (arith, gone_room);
        spare_data = gone_data;
      })
      gone_none
      (unmarked_maint p.volume.snapshots p.volume.snapshots (length s.indices) s.book.entries (modes_in s) s.tickets s.calls
      s.nodes s.maint s.commands at w.op ok.on.clients.seen ok.on.clients.paired its_start.stands.within its_start.kind
      its_start.op ok.maint left_lost)
      (rebuild_lost none) ok.adds ok.caused ok.streams

  -- a barrier, behind which its rebuild goes on, if it is open
  barrier_ends : AreClients p.volume s.size (length s.indices) s.book.entries (modes_in s) (remove s.tickets at) (remove s.calls at) s.nodes
      → ((j : ℕ) → j < length (remove s.tickets at)
      → FitsMaint p.volume.snapshots (modes_in s) s.nodes s.maint s.commands (ticket_at (remove s.tickets at) j)
      (open_at (remove s.calls at) j))
      → IsRebuilding s.size (modes_in s) (remove s.tickets at) (remove s.calls at) None s.nodes s.rebuild → IsSound (barrier_ended s at)
  barrier_ends clients left rebuild =
      of_calm (barrier_ended s at) refl
      (record {
        opened = ok.on.opened;
        told = past_told (opening_of s) s.book.entries s.indices s.rebuild s.ended
            ok.on.told;
        clients = clients;
        spare = omega (arith, gone_room, past_owed s.rebuild);
        spare_data = gone_data;
      })
      gone_none
      (unmarked_maint p.volume.snapshots p.volume.snapshots (length s.indices) s.book.entries (modes_in s) s.tickets s.calls
      s.nodes s.maint s.commands at w.op ok.on.clients.seen ok.on.clients.paired its_start.stands.within its_start.kind
      its_start.op ok.maint left)
      (past_rebuilding s.size (modes_in s) (remove s.tickets at) (remove s.calls at) s.nodes s.rebuild rebuild)
      (past_adds s.maint s.commands s.rebuild s.ended ok.adds) ok.caused ok.streams

  barrier_done : (r : ℕ) → w.op ≡ whole.Barrier r → AreDone s w → IsSound (barrier_ended s at)
  barrier_done r e done =
      barrier_ends
      (subst (λ (x : WholeOp). AreClients (due_of x p.volume) s.size (length s.indices) s.book.entries (modes_in s)
      (remove s.tickets at) (remove s.calls at) s.nodes) e (gone_done done))
      (subst (λ (x : WholeOp). (j : ℕ) → j < length (remove s.tickets at)
      → FitsMaint (due_of x p.volume).snapshots (modes_in s) s.nodes s.maint s.commands
      (ticket_at (remove s.tickets at) j) (open_at (remove s.calls at) j)) e left_done)
      (rebuild_done done)

  done_by : (op : WholeOp) → w.op ≡ op → AreDone s w → HasSource (modes_in s) → IsSound (whole_done s at op)
  done_by (whole.Snapshot name) e done source = subst (λ (x : WholeOp). IsSound (whole_ended s at x reply.Done)) e
      (done_ends done source (subst IsPlain (sym e) tt) (λ k. subst IsPart e k))
  done_by (whole.Remove name) e done source = subst (λ (x : WholeOp). IsSound (whole_ended s at x reply.Done)) e
      (done_ends done source (subst IsPlain (sym e) tt) (λ k. subst IsPart e k))
  done_by (whole.Revert name) e done source = subst (λ (x : WholeOp). IsSound (whole_ended s at x reply.Done)) e
      (done_ends done source (subst IsPlain (sym e) tt) (λ k. subst IsPart e k))
  done_by (whole.Purge f) e done source = mark_ends f e done source
  done_by (whole.Barrier r) e done source = barrier_done r e done

  lost_by : (op : WholeOp) → w.op ≡ op → HasNoSource (modes_in s) → IsSound (whole_lost s at op)
  lost_by (whole.Snapshot name) e none = subst (λ (x : WholeOp). IsSound (whole_ended s at x (reply.Refused NoReplica))) e
      (lost_ends none (subst IsPlain (sym e) tt))
  lost_by (whole.Remove name) e none = subst (λ (x : WholeOp). IsSound (whole_ended s at x (reply.Refused NoReplica))) e
      (lost_ends none (subst IsPlain (sym e) tt))
  lost_by (whole.Revert name) e none = subst (λ (x : WholeOp). IsSound (whole_ended s at x (reply.Refused NoReplica))) e
      (lost_ends none (subst IsPlain (sym e) tt))
  lost_by (whole.Purge f) e none = gone_ends none
  lost_by (whole.Barrier r) e none = barrier_ends (gone_lost none) left_lost (rebuild_lost none)

  -- it ends where a replica is read
  pub done_kept : (t i : ℕ) → IsWholeOn s t w i → AreDone s w → HasSource (modes_in s) → IsSound (whole_done s i w.op)
  unfolding its_start
  done_kept t i on done source = subst (λ (x : ℕ). IsSound (whole_done s x w.op)) (sym (place_is s w ok has t i on))
      (done_by w.op refl done source)

  -- and where none is
  pub lost_kept : (t i : ℕ) → IsWholeOn s t w i → HasNoSource (modes_in s) → IsSound (whole_lost s i w.op)
  unfolding its_start
  lost_kept t i on none = subst (λ (x : ℕ). IsSound (whole_lost s x w.op)) (sym (place_is s w ok has t i on)) (lost_by w.op refl none)
