-- A replica fails: the journal gets its mark, and behind it the end of the rebuild in which it has a part.
use Rattle.std.proofs.Common.{◌≡◌, ◌≢◌, ℕ, ◌+◌, ◌<◌, ◌≤◌, cond, List, [], ◌∷◌, ◌++◌, length, set, length-set}
use Rattle.std.proofs.Common.{get_or-set_same, refl, sym, ap, subst, ◌∙◌, arith, ⊎_elim}
use Rattle.std.specs.Prelude.{Option, None, Some}
use Rattle.std.specs.List.{count_by}
use Rattle.std.proofs.lemmas.List.{append_assoc, length-append}
use Rattle.std.proofs.lemmas.List.Sums.{sum_by-set}
use lib.Seq.{set-get_or}
use Rattle.volume_model.specs.declared.command.Command.TheVariants as command
use Rattle.volume_model.specs.declared.call.Call.{Call}
use Rattle.volume_model.specs.declared.call.Call.TheVariants as call
use Rattle.volume_model.specs.declared.call.Reply.{Reply}
use Rattle.volume_model.specs.declared.call.Reply.TheVariants as reply
use Rattle.volume_model.specs.declared.entry.Answer.{Answer}
use Rattle.volume_model.specs.declared.entry.Entry.{Entry}
use Rattle.volume_model.specs.declared.entry.Entry.TheVariants as entry
use Rattle.volume_model.specs.declared.mark.Mark.{Mark}
use Rattle.volume_model.specs.declared.mark.Mark.TheVariants as mark
use Rattle.volume_model.specs.declared.mark.Rebuild.{Rebuild}
use Rattle.volume_model.specs.declared.mode.Mode.{Mode}
use Rattle.volume_model.specs.declared.mode.Mode.TheVariants.{Rw, Wo, Err}
use Rattle.volume_model.specs.Faults.{last_count, CountsRise}
use Rattle.volume_model.specs.History.{Spot, IsLegal}
use Rattle.volume_model.specs.Modes.{modes_after, modes_after_mark, mode_of}
use Rattle.volume_model.specs.PlainState.{PlainState, Volume}
use Rattle.volume_model.specs.Rebuilds.{added_by, rebuild_of, rebuild_after_mark, MayFall}
use Rattle.volume_model.specs.Replay.{replay}
use Rattle.volume_model.proofs.FaultLemmas.{rise-fault, rise-failed, rise-aborted}
use Rattle.volume_model.proofs.LegalLemmas.{LegalAfter-append}
use Rattle.volume_model.proofs.OwnNames.{IsOwn}
use Rattle.volume_model.proofs.PushLemmas.{modes_after-push, IsLegal-push}
use Rattle.volume_model.proofs.RebuildLemmas.{rebuild_of-push, legal_fall, legal_fail}
use Rattle.range_turns.specs.declared.ticket.Ticket.{Ticket}
use Rattle.replica_node.specs.Node.{Node}
use Rattle.open_calls.specs.declared.open_call.OpenCall.{OpenCall}
use Rattle.open_calls.specs.Clients.{AreClients, IsIdle, behind_last, place_behind}
use Rattle.open_calls.proofs.Gone.{failed_clients, seen_clients}
use Rattle.open_calls.proofs.PartLemmas.{up_in}
use Rattle.open_calls.proofs.SeenLemmas.{mark_more, seen_mark, seen_answer, behind_within}
use Rattle.open_rebuild.specs.declared.rebuilding.Rebuilding.{Rebuilding}
use Rattle.open_rebuild.specs.Claim.{IsApart}
use Rattle.volume_core.specs.declared.world.EndedRebuild.{EndedRebuild}
use Rattle.volume_core.specs.State.{State, opening_of, told_of, modes_in, index_at}
use Rattle.packed_entries.specs.Plain.{data_in}
use Rattle.volume_core.specs.Data.{owed_data}
use Rattle.volume_core.specs.Steps.{with_place, answered, marked, aborted, failed}
use Rattle.volume_core.specs.Sound.{IsOpened, IsOrdered, IsSoundOn, is_up, how_far, owed_end, owed_entries}
use Rattle.volume_core.specs.Answers.{failed_in, after_fail}
use Rattle.volume_core.proofs.Answered.{plainly}
use Rattle.volume_core.proofs.DataLemmas.{room_left}
use Rattle.volume_core.proofs.Ends.{same_clients, its_answer}
use Rattle.volume_core.proofs.FarLemmas.{not_in, begun_of, only_of, far_aborted, GoesOn, Aborts, behind}
use Rattle.volume_core.proofs.Told.{answer_ordered, mark_ordered}

-- ---- the modes

rw≢err : Rw ≢ Err
rw≢err e = cc

wo≢err : Wo ≢ Err
wo≢err e = cc

-- a replica that had failed
set_again : (modes : List Mode) (r : ℕ) → mode_of modes r ≡ Err → set modes r Err ≡ modes
set_again modes r e = ap (set modes r) (sym e) ∙ set-get_or modes r Err

-- whether it had or not
pub failed_again : (v : Volume) (size streams r : ℕ) (es : List Entry) (modes : List Mode) (ts : List Ticket)
    (cs : List OpenCall) (ns : List Node) → AreClients v size streams es modes ts cs ns
    → AreClients v size streams es (set modes r Err) ts cs ns
failed_again v size streams r es modes ts cs ns ok = by (mode_of modes r) refl
  where
    by : (m : Mode) → mode_of modes r ≡ m → AreClients v size streams es (set modes r Err) ts cs ns
    by Err e = subst (λ (ms : List Mode). AreClients v size streams es ms ts cs ns) (sym (set_again modes r e)) ok
    by Rw e = failed_clients v size streams r es modes ts cs ns (λ f. rw≢err (sym e ∙ f)) ok
    by Wo e = failed_clients v size streams r es modes ts cs ns (λ f. wo≢err (sym e ∙ f)) ok

abbrev as_up : Mode → ℕ
as_up m = cond (is_up m) 1 0

pub failed_room : (modes : List Mode) (r : ℕ) → mode_of modes r ≢ Err → count_by is_up (set modes r Err) + 1 ≡ count_by is_up modes
failed_room modes r up = omega (arith, sum_by-set as_up modes r Err Err (up_in modes r up), one (mode_of modes r) up)
  where
    one : (m : Mode) → m ≢ Err → as_up m ≡ 1
    one Rw n = refl
    one Wo n = refl
    one Err n = absurd (n refl)

-- and then no more of them are left
pub fewer_up : (modes : List Mode) (r : ℕ) → count_by is_up (set modes r Err) ≤ count_by is_up modes
fewer_up modes r = by (mode_of modes r) refl
  where
    by : (m : Mode) → mode_of modes r ≡ m → count_by is_up (set modes r Err) ≤ count_by is_up modes
    by Err e = omega (arith, ap (count_by is_up) (set_again modes r e))
    by Rw e = omega (arith, failed_room modes r (λ f. rw≢err (sym e ∙ f)))
    by Wo e = omega (arith, failed_room modes r (λ f. wo≢err (sym e ∙ f)))

-- ---- the marks

-- the mark lets the replica fail, and tells nothing else
pub record IsFall (m : Mark) (r : ℕ) : Type 0 where
  pub modes : (ms : List Mode) → modes_after_mark ms m ≡ set ms r Err
  pub far : (q place : ℕ) (x : Rebuild) → rebuild_after_mark q place x m ≡ x
  pub own : (p : PlainState) → IsOwn p (entry.Mark m)

pub fault_falls : (stream r count : ℕ) → IsFall (mark.Fault stream r count) r
fault_falls stream r count = record { modes = λ ms. refl; far = λ q place x. refl; own = λ p. tt }

pub failed_falls : (r : ℕ) → IsFall (mark.Failed r) r
failed_falls r = record { modes = λ ms. refl; far = λ q place x. refl; own = λ p. tt }

module _ (v : Volume) (ns : List Node) (s : State) (r : ℕ) (m : Mark) (ok : IsSoundOn v ns s) (falls : IsFall m r)
    (rise : CountsRise (s.book.entries ++ entry.Mark m ∷ [])) where
  abbrev o : Spot
  o = opening_of s

  abbrev pub fell : List Entry
  fell = s.book.entries ++ entry.Mark m ∷ []

  modes_fell : set (modes_in s) r Err ≡ modes_after o.modes fell
  modes_fell = sym (modes_after-push o.modes s.book.entries (entry.Mark m) ∙ falls.modes (modes_in s))

  far_fell : (q : ℕ) → rebuild_of q fell ≡ how_far s.rebuild s.ended q
  far_fell q = rebuild_of-push q s.book.entries (entry.Mark m)
      ∙ falls.far q (length s.book.entries) (rebuild_of q s.book.entries) ∙ ok.told.ordered.rebuild q

  ordered_fell : IsOrdered o fell s.indices s.rebuild s.ended
  ordered_fell = mark_ordered o s.book.entries s.indices s.rebuild s.rebuild s.ended s.ended m ok.told.ordered
      (falls.own (replay o.state s.book.entries)) rise far_fell

  clients_fell : AreClients v s.size (length s.indices) fell (modes_after o.modes fell) s.tickets s.calls ns
  clients_fell =
      same_clients v s.size (length s.indices) (length s.indices) fell (set (modes_in s) r Err) (modes_after o.modes fell)
      s.tickets s.calls ns refl modes_fell
      (seen_clients v s.size (length s.indices) s.book.entries fell (set (modes_in s) r Err) s.tickets s.calls ns
      (seen_mark s.book.entries s.calls ok.clients.seen m)
      (failed_again v s.size (length s.indices) r s.book.entries (modes_in s) s.tickets s.calls ns ok.clients))

  room_fell : mode_of (modes_in s) r ≢ Err → count_by (λ t. t.started) s.tickets + length s.commands + count_by is_up
      (modes_after o.modes fell) + owed_end s.rebuild + 1 ≤ s.book.spare
  room_fell up = omega (arith, ok.spare, failed_room (modes_in s) r up, ap (count_by is_up) modes_fell)

  -- and the end of the rebuild behind it
  abbrev pub over : Rebuilding → List Entry
  over b = fell ++ entry.Mark (mark.Aborted b.target) ∷ []

  abbrev pub end_of : Rebuilding → EndedRebuild
  end_of b = record { target = b.target; place = length fell }

  modes_over : (b : Rebuilding) → set (set (modes_in s) r Err) b.target Err ≡ modes_after o.modes (over b)
  modes_over b = ap (λ ms. set ms b.target Err) modes_fell ∙ sym (modes_after-push o.modes fell (entry.Mark (mark.Aborted b.target)))

  ordered_over : (b : Rebuilding) → s.rebuild ≡ Some b → IsOrdered o (over b) s.indices None (Some (end_of b))
  ordered_over b begun =
      let was : IsOrdered o fell s.indices (Some b) s.ended = subst (λ x. IsOrdered o fell s.indices x s.ended) begun ordered_fell in
      mark_ordered o fell s.indices (Some b) None s.ended (Some (end_of b)) (mark.Aborted b.target) was tt
      (rise-aborted fell b.target rise) (far_aborted fell b s.ended was.rebuild)

  clients_over : (b : Rebuilding) → AreClients v s.size (length s.indices) (over b) (modes_after o.modes (over b)) s.tickets s.calls ns
  clients_over b =
      let set_here = set (modes_after o.modes fell) b.target Err in
      let e = mark.Aborted b.target in
      same_clients v s.size (length s.indices) (length s.indices) (over b) set_here (modes_after o.modes (over b)) s.tickets
      s.calls ns refl (sym (modes_after-push o.modes fell (entry.Mark e)))
      (seen_clients v s.size (length s.indices) fell (over b) set_here s.tickets s.calls ns (seen_mark fell s.calls clients_fell.seen e)
      (failed_again v s.size (length s.indices) b.target fell (modes_after o.modes fell) s.tickets s.calls ns clients_fell))

  room_over : (b : Rebuilding) → s.rebuild ≡ Some b → mode_of (modes_in s) r ≢ Err
      → count_by (λ t. t.started) s.tickets + length s.commands + count_by is_up
      (modes_after o.modes (over b)) + 2 ≤ s.book.spare
  room_over b begun up = omega (
    arith,
    ok.spare,
    ap owed_end begun,
    failed_room (modes_in s) r up,
    fewer_up (set (modes_in s) r Err) b.target,
    ap (count_by is_up) (modes_over b),
  )

  -- how far rebuilds are before them, where that one is open
  far_begun : (b : Rebuilding) → s.rebuild ≡ Some b → (q : ℕ) → rebuild_of q s.book.entries ≡ how_far (Some b) s.ended q
  far_begun b begun q = ok.told.ordered.rebuild q ∙ ap (λ x. how_far x s.ended q) begun

  -- a replica without a part in the open rebuild may fall
  falls_apart : mode_of (modes_in s) r ≢ Err → IsApart s.rebuild r → (after : List Entry) → MayFall (modes_in s) s.book.entries after r
  falls_apart up apart after =
      record {
        up = up;
        ends =
            λ q t is who. absurd (not_in s.rebuild s.ended q t r (sym (ok.told.ordered.rebuild q) ∙ is) apart who);
      }

-- ---- a line fails

module _ (v : Volume) (ns : List Node) (s : State) (stream r count : ℕ) (ok : IsSoundOn v ns s)
    (up : mode_of (modes_in s) r ≢ Err) (above : last_count stream r s.book.entries < count) where
  abbrev m : Mark
  m = mark.Fault stream r count

  abbrev falls : IsFall m r
  falls = fault_falls stream r count

  rise : CountsRise (s.book.entries ++ entry.Mark m ∷ [])
  rise = rise-fault s.book.entries stream r count above ok.told.ordered.rise

  -- and its replica has no part in a rebuild, or it has
  pub fault_on : IsApart s.rebuild r → IsSoundOn v ns (marked s m)
  fault_on apart = record {
    opened = ok.opened;
    told = record {
      legal = IsLegal-push (opening_of s) s.book.entries (entry.Mark m) ok.told.legal (falls_apart v ns s r m ok falls rise up apart []);
      ordered = ordered_fell v ns s r m ok falls rise;
    };
    clients = clients_fell v ns s r m ok falls rise;
    spare = omega (arith, room_fell v ns s r m ok falls rise up);
    spare_data = omega (arith, ok.spare_data);
  }

  pub fault_over : (b : Rebuilding) → s.rebuild ≡ Some b → IsSoundOn v ns (aborted (marked s m) b.target)
  fault_over b begun =
      let far = far_begun v ns s r m ok falls rise b begun in
      record {
        opened = ok.opened;
        told = record {
          legal = subst (IsLegal (opening_of s))
              (sym (append_assoc s.book.entries (entry.Mark m ∷ []) (entry.Mark (mark.Aborted b.target) ∷ [])))
              (legal_fall (opening_of s) s.book.entries stream r count b.target b.source ok.told.legal up
              (begun_of s.book.entries b s.ended far) (only_of s.book.entries b s.ended far));
          ordered = ordered_over v ns s r m ok falls rise b begun;
        };
        clients = clients_over v ns s r m ok falls rise b;
        spare = omega (arith, room_over v ns s r m ok falls rise b begun up);
        spare_data = omega (arith, ok.spare_data);
      }

-- ---- a call is answered where the journal is in order, and legal with the answer

pub answered_legal : (v : Volume) (ns : List Node) (s : State) (stream : ℕ) (c : Call) (r : Reply) (saw : ℕ)
    → IsOpened (opening_of s) s.book.opening
    → IsLegal (opening_of s) (s.book.entries ++ entry.Answer (its_answer s stream saw c r) ∷ [])
    → IsOrdered (opening_of s) s.book.entries s.indices s.rebuild s.ended
    → AreClients v s.size (length s.indices) s.book.entries (modes_in s) s.tickets s.calls ns → IsIdle stream s.calls
    → stream < length s.indices → behind_last stream s.book.entries ≤ saw → saw ≤ length s.book.entries
    → added_by c ≡ None → IsOwn (told_of s) (entry.Answer (its_answer s stream saw c r)) → owed_entries s + 1 ≤ s.book.spare
    → owed_data s.calls + length (data_in c r) ≤ s.book.spare_data → IsSoundOn v ns (answered s stream saw c r)
answered_legal v ns s stream c r saw opened legal ordered clients idle within past seen none own room brings =
    let a = its_answer s stream saw c r in
    let longer = s.book.entries ++ entry.Answer a ∷ [] in
    let o = opening_of s in
    let modes : modes_in s ≡ modes_after o.modes longer = sym (modes_after-push o.modes s.book.entries (entry.Answer a)) in
    record {
      opened = opened;
      told = record {
        legal = legal;
        ordered = answer_ordered o s.book.entries s.indices s.rebuild s.ended a ordered own
            none within refl past seen;
      };
      clients = same_clients v s.size (length s.indices) (length (set s.indices stream (index_at s.indices stream + 1)))
          longer (modes_in s) (modes_after o.modes longer) s.tickets s.calls ns
          (sym (length-set s.indices stream (index_at s.indices stream + 1))) modes
          (seen_clients v s.size (length s.indices) s.book.entries longer (modes_in s) s.tickets s.calls ns
          (seen_answer s.book.entries s.calls clients.seen a idle) clients);
      spare = omega (arith, room, ap (count_by is_up) modes);
      spare_data = room_left (owed_data s.calls) s.book.spare_data (data_in c r) brings;
    }

-- ---- a replica is told to fail, and had not

module _ (v : Volume) (ns : List Node) (s : State) (stream r : ℕ) (ok : IsSoundOn v ns s)
    (within : stream < length s.indices) (idle : IsIdle stream s.calls) (up : mode_of (modes_in s) r ≢ Err) where
  abbrev mf : Mark
  mf = mark.Failed r

  abbrev falls_told : IsFall mf r
  falls_told = failed_falls r

  abbrev es : List Entry
  es = s.book.entries

  rise_told : CountsRise (es ++ entry.Mark mf ∷ [])
  rise_told = rise-failed es r ok.told.ordered.rise

  abbrev c : Call
  c = call.Command (command.Fail r)

  abbrev a : Answer
  a = its_answer s stream (length es) c reply.Done

  past_one : behind_last stream (es ++ entry.Mark mf ∷ []) ≤ length es
  past_one = subst (λ xs. place_behind 0 xs ≤ length es) (sym (mark_more es mf stream)) (behind_within stream es)

  same_replica : (q : ℕ) → c ≡ call.Command (command.Fail q) → r ≡ q
  same_replica q e = cc

  fail_on : IsApart s.rebuild r → IsSoundOn v ns (answered (marked (with_place s) mf) stream (length es) c reply.Done)
  fail_on apart =
      let o = opening_of s in
      let s1 = marked (with_place s) mf in
      let longer = es ++ entry.Mark mf ∷ [] in
      let has_failed : (q : ℕ) → c ≡ call.Command (command.Fail q) → mode_of (modes_after o.modes longer) q ≡ Err =
      λ q e. subst (λ n. mode_of (modes_after o.modes longer) n ≡ Err) (same_replica q e)
      (ap (λ ms. mode_of ms r) (sym (modes_fell v ns s r mf ok falls_told rise_told))
      ∙ get_or-set_same (modes_in s) r Err Err (up_in (modes_in s) r up)) in
      answered_legal v ns s1 stream c reply.Done (length es) ok.opened
      (subst (IsLegal o) (sym (append_assoc es (entry.Mark mf ∷ []) (entry.Answer a ∷ [])))
      (LegalAfter-append o [] es (entry.Mark mf ∷ entry.Answer a ∷ []) ok.told.legal (
        (falls_apart v ns s r mf ok falls_told rise_told up apart (entry.Answer a ∷ []), refl),
        (plainly (modes_after o.modes longer) (replay o.state longer) a refl has_failed (λ e. absurd cc) (λ e. absurd cc), tt),
      )))
      (ordered_fell v ns s r mf ok falls_told rise_told) (clients_fell v ns s r mf ok falls_told rise_told) idle within
      past_one (omega (arith, length-append es (entry.Mark mf ∷ [])))
      refl (λ name e. absurd cc) (omega (arith, room_fell v ns s r mf ok falls_told rise_told up))
      (omega (arith, ok.spare_data))

  fail_over : (b : Rebuilding) → s.rebuild ≡ Some b
      → IsSoundOn v ns (answered (aborted (marked (with_place s) mf) b.target) stream (length es) c reply.Done)
  fail_over b begun =
      let o = opening_of s in
      let e = mark.Aborted b.target in
      let longer = es ++ entry.Mark mf ∷ [] in
      let far = far_begun v ns s r mf ok falls_told rise_told b begun in
      answered_legal v ns (aborted (marked (with_place s) mf) b.target) stream c reply.Done (length es) ok.opened
      (subst (IsLegal o) (sym (append_assoc longer (entry.Mark e ∷ []) (entry.Answer a ∷ [])
      ∙ append_assoc es (entry.Mark mf ∷ []) (entry.Mark e ∷ entry.Answer a ∷ [])))
      (legal_fail o es r b.target b.source a ok.told.legal up (begun_of es b s.ended far) (only_of es b s.ended far) refl refl))
      (ordered_over v ns s r mf ok falls_told rise_told b begun) (clients_over v ns s r mf ok falls_told rise_told b) idle within
      (subst (λ xs. place_behind 0 xs ≤ length es) (sym (mark_more longer e stream)) past_one)
      (omega (arith, length-append es (entry.Mark mf ∷ []), length-append longer (entry.Mark e ∷ [])))
      refl (λ name f. absurd cc) (omega (arith, room_over v ns s r mf ok falls_told rise_told b begun up))
      (omega (arith, ok.spare_data))

  pub fails_on : IsSoundOn v ns (answered (failed (with_place s) r) stream (length es) c reply.Done)
  fails_on = ⊎_elim
      (λ (x : GoesOn (marked (with_place s) mf) r (failed (with_place s) r)). subst
      (λ (y : State). IsSoundOn v ns (answered y stream (length es) c reply.Done)) (sym x.state) (fail_on x.apart))
      (λ (x : Aborts (marked (with_place s) mf) r (failed (with_place s) r)). subst
      (λ (y : State). IsSoundOn v ns (answered y stream (length es) c reply.Done)) (sym x.state) (fail_over x.b x.begun))
      (behind (marked (with_place s) mf) r)

-- and a place is left for the answer of the call that told it so, or of any other that is answered at once
module _ (v : Volume) (ns : List Node) (s : State) (ok : IsSoundOn v ns s) where
  left_by : (r : ℕ) → mode_of (modes_in s) r ≢ Err → 0 < (failed (with_place s) r).book.spare
  left_by r up =
      let m = mark.Failed r in
      let room = failed_room (modes_in s) r up in
      ⊎_elim
      (λ (x : GoesOn (marked (with_place s) m) r (failed (with_place s) r)). subst (λ (y : State). 0 < y.book.spare)
      (sym x.state) (omega (arith, ok.spare, room)))
      (λ (x : Aborts (marked (with_place s) m) r (failed (with_place s) r)). subst (λ (y : State). 0 < y.book.spare)
      (sym x.state) (omega (arith, ok.spare, room, ap owed_end x.begun)))
      (behind (marked (with_place s) m) r)

  left_in : (r : ℕ) (m : Mode) → mode_of (modes_in s) r ≡ m → 0 < (failed_in m (with_place s) r).book.spare
  left_in r Err e = omega arith
  left_in r Rw e = left_by r (λ f. rw≢err (sym e ∙ f))
  left_in r Wo e = left_by r (λ f. wo≢err (sym e ∙ f))

  pub place_left : (failing : Option ℕ) → 0 < (after_fail (with_place s) failing).book.spare
  place_left None = omega arith
  place_left (Some r) = left_in r (mode_of (modes_in s) r) refl
