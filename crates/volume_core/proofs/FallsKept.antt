-- The fall of a replica keeps the invariant, also where it aborts a rebuild; and so does a call that is answered at once.
use Rattle.std.proofs.Common.{◌≡◌, ◌≢◌, ◌⊎◌, ℕ, ◌+◌, ◌-◌, ◌<◌, Bool, true, false, cond, List, [], ◌∷◌, ◌++◌, length}
use Rattle.std.proofs.Common.{set, length-set, refl, sym, ap, subst, ◌∙◌, arith, ⊎_elim}
use Rattle.std.specs.Prelude.{Option, None, Some, IfSome}
use Rattle.std.proofs.lemmas.List.{append_assoc}
use Rattle.volume_model.specs.declared.command.Command.TheVariants as command
use Rattle.volume_model.specs.declared.call.Call.{Call}
use Rattle.volume_model.specs.declared.call.Call.TheVariants as call
use Rattle.volume_model.specs.declared.call.Reply.TheVariants as reply
use Rattle.volume_model.specs.declared.entry.Answer.{Answer}
use Rattle.volume_model.specs.declared.entry.Entry.{Entry}
use Rattle.volume_model.specs.declared.entry.Entry.TheVariants as entry
use Rattle.volume_model.specs.declared.mark.Mark.{Mark}
use Rattle.volume_model.specs.declared.mark.Mark.TheVariants as mark
use Rattle.volume_model.specs.declared.mark.Rebuild.TheVariants as rebuild
use Rattle.volume_model.specs.declared.mode.Mode.{Mode}
use Rattle.volume_model.specs.declared.mode.Mode.TheVariants.{Rw, Wo, Err}
use Rattle.volume_model.specs.Faults.{last_count}
use Rattle.volume_model.specs.Modes.{mode_of}
use Rattle.volume_model.specs.PlainState.{PlainState}
use Rattle.volume_model.specs.PlainStep.{plain_step, after_call}
use Rattle.volume_model.specs.Rebuilds.{rebuild_of}
use Rattle.volume_model.specs.Replay.{is_refusal}
use Rattle.volume_model.proofs.FallLemmas.{behind_falls_fault, behind_falls_failed}
use Rattle.volume_model.proofs.FallLemmas.{behind_falls_fall, behind_falls_fail}
use Rattle.volume_model.proofs.PushLemmas.{modes_after-push}
use Rattle.volume_model.proofs.StepLemmas.{replay-push}
use Rattle.open_calls.specs.Clients.{IsIdle}
use Rattle.open_calls.proofs.PartLemmas.{up_in, rw_before}
use Rattle.open_calls.specs.Due.{due, forms}
use Rattle.open_calls.specs.Whole.{IsWhole}
use Rattle.open_calls.specs.Maint.{HasNoCommand, AreQueued}
use Rattle.open_calls.proofs.Kept.{whole_failed, queued_answer, queued_mark, fits_still}
use Rattle.range_turns.specs.Order.{ticket_at}
use Rattle.open_calls.specs.Calls.{open_at}
use Rattle.open_rebuild.specs.declared.rebuilding.Rebuilding.{Rebuilding}
use Rattle.open_rebuild.specs.Claim.{IsRebuilding, IsApart}
use Rattle.open_rebuild.proofs.ModeSteps.{other_failed, rebuild_failed}
use Rattle.open_rebuild.proofs.RangeSteps.{up_wo}
use Rattle.volume_core.specs.declared.world.EndedRebuild.{EndedRebuild}
use Rattle.volume_core.specs.State.{State, opening_of, told_of, modes_in, index_at}
use Rattle.volume_core.specs.Steps.{with_place, answered, marked, aborted, faulted, failed}
use Rattle.volume_core.specs.Sound.{IsSound, IsSoundOn, AreAdds, HasAdd, AreCaused, NoneGaveUp, how_far}
use Rattle.step_answers.specs.Asked.{IsNow}
use Rattle.volume_core.specs.Answers.{failed_by, failed_in, after_fail}
use Rattle.volume_core.proofs.Caused.{caused_answer, caused_more}
use Rattle.volume_core.proofs.Ends.{its_answer}
use Rattle.volume_core.proofs.Falls.{fault_on, fault_over}
use Rattle.volume_core.proofs.FarLemmas.{begun_of, GoesOn, Aborts, behind}
use Rattle.volume_core.proofs.Keep.{same_whole, same_maint, on_same, quiet_kept, told_next}
use Rattle.volume_core.proofs.Now.{now_on}

-- a mark brings no bytes, nor does a command
abbrev unpaid : ℕ → ℕ
unpaid room = room - 0

-- ---- the journal has more entries, of which marks let replicas fail, and no other changes modes or volume

module _ (s : State) (ok : IsSound s) (indices : List ℕ) (es : List Entry) (spare room : ℕ) (o : Option Rebuilding)
    (g : Option EndedRebuild) where
  abbrev pub fallen_to : State
  fallen_to = record s {
    indices = indices;
    book = record s.book { entries = es; spare = spare; spare_data = room };
    rebuild = o;
    ended = g;
  }

  pub fallen : (ms : List Mode) → ms ≡ modes_in fallen_to → told_of s ≡ told_of fallen_to
      → length s.indices ≡ length indices → IsWhole (told_of s) ms s.tickets s.calls s.nodes s.whole
      → ((q : ℕ) → mode_of ms q ≡ Rw → mode_of (modes_in s) q ≡ Rw) → AreQueued (length s.indices) es s.maint s.commands
      → IsRebuilding s.size ms s.tickets s.calls s.whole s.nodes o → AreAdds s.maint s.commands o g
      → (NoneGaveUp s.gave_up → AreCaused s.maint s.commands es)
      → IsSoundOn (due s.whole (told_of s).volume) (forms s.whole s.nodes) fallen_to → IsSound fallen_to
  fallen ms modes told many whole fewer queued rebuild adds caused on = record {
    on = on_same s.whole (told_of s) (told_of fallen_to) s.nodes fallen_to told on;
    whole = same_whole (told_of s) (told_of fallen_to) ms (modes_in fallen_to) s.tickets s.calls s.nodes s.whole told modes whole;
    maint = same_maint (told_of s).volume.snapshots (told_of fallen_to).volume.snapshots (length s.indices) (length indices)
        es ms (modes_in fallen_to) s.tickets s.calls s.nodes s.maint s.commands
        (ap (λ (p : PlainState). p.volume.snapshots) told) many modes
        (record {
          queued = queued;
          fits = λ i l. fits_still (told_of s).volume.snapshots (modes_in s) ms s.nodes s.nodes s.maint s.commands
              (ticket_at s.tickets i) (open_at s.calls i) fewer (λ q. refl) (ok.maint.fits i l);
        });
    disk = ap (λ (p : PlainState). length p.volume.disk) (sym told) ∙ ok.disk;
    rebuild = subst (λ (x : List Mode). IsRebuilding s.size x s.tickets s.calls s.whole s.nodes o) modes rebuild;
    adds = adds;
    caused = caused;
    streams = ok.streams ∙ many;
  }

-- ---- what a fall leaves: of the calls on the whole volume, of the modes, and of a rebuild in which it has a part

module _ (s : State) (ok : IsSound s) (r : ℕ) (up : mode_of (modes_in s) r ≢ Err) where
  in_modes : r < length (modes_in s)
  in_modes = up_in (modes_in s) r up

  abbrev pub one_fell : List Mode
  one_fell = set (modes_in s) r Err

  whole_one : IsWhole (told_of s) one_fell s.tickets s.calls s.nodes s.whole
  whole_one = whole_failed (told_of s) (modes_in s) s.tickets s.calls s.nodes s.whole r ok.whole in_modes

  fewer_one : (q : ℕ) → mode_of one_fell q ≡ Rw → mode_of (modes_in s) q ≡ Rw
  fewer_one q e = rw_before (modes_in s) r q in_modes e

  rebuild_one : IsApart s.rebuild r → IsRebuilding s.size one_fell s.tickets s.calls s.whole s.nodes s.rebuild
  rebuild_one apart = other_failed s.size (modes_in s) s.tickets s.calls s.whole s.nodes s.rebuild r apart ok.rebuild

  -- and so does its target
  abbrev pub both_fell : Rebuilding → List Mode
  both_fell b = set one_fell b.target Err

  is_open : (b : Rebuilding) → s.rebuild ≡ Some b → IsRebuilding s.size (modes_in s) s.tickets s.calls s.whole s.nodes (Some b)
  is_open b begun = subst (λ (x : Option Rebuilding). IsRebuilding s.size (modes_in s) s.tickets s.calls s.whole s.nodes x) begun ok.rebuild

  target_in : (b : Rebuilding) → s.rebuild ≡ Some b → b.target < length one_fell
  target_in b begun =
      let written = (is_open b begun).roles.target in
      let within = up_in (modes_in s) b.target (up_wo (mode_of (modes_in s) b.target) written) in
      omega (arith, within, length-set (modes_in s) r Err)

  whole_both : (b : Rebuilding) → s.rebuild ≡ Some b → IsWhole (told_of s) (both_fell b) s.tickets s.calls s.nodes s.whole
  whole_both b begun = whole_failed (told_of s) one_fell s.tickets s.calls s.nodes s.whole b.target whole_one (target_in b begun)

  fewer_both : (b : Rebuilding) → s.rebuild ≡ Some b → (q : ℕ) → mode_of (both_fell b) q ≡ Rw → mode_of (modes_in s) q ≡ Rw
  fewer_both b begun q e = fewer_one q (rw_before one_fell b.target q (target_in b begun) e)

  rebuild_both : (b : Rebuilding) → s.rebuild ≡ Some b → IsRebuilding s.size (both_fell b) s.tickets s.calls s.whole s.nodes None
  rebuild_both b begun = rebuild_failed s.size (modes_in s) s.tickets s.calls s.whole s.nodes b r (is_open b begun)

  adds_both : (b : Rebuilding) (place : ℕ) → s.rebuild ≡ Some b
      → AreAdds s.maint s.commands None (Some (record { target = b.target; place = place }))
  adds_both b place begun = record {
    of_begun = tt;
    of_ended = subst (λ (x : Option Rebuilding). IfSome x (λ y. HasAdd s.maint s.commands y.target)) begun ok.adds.of_begun;
    one = tt;
  }

  open_there : (b : Rebuilding) → s.rebuild ≡ Some b → rebuild_of b.target s.book.entries ≡ rebuild.Open b.source
  open_there b begun = begun_of s.book.entries b s.ended
      (λ q. ok.on.told.ordered.rebuild q ∙ ap (λ (x : Option Rebuilding). how_far x s.ended q) begun)

-- ---- a line fails

module _ (s : State) (stream r count : ℕ) (ok : IsSound s) (up : mode_of (modes_in s) r ≢ Err)
    (above : last_count stream r s.book.entries < count) where
  abbrev m : Mark
  m = mark.Fault stream r count

  abbrev longer : List Entry
  longer = s.book.entries ++ entry.Mark m ∷ []

  fault_alone : IsApart s.rebuild r → IsSound (marked s m)
  fault_alone apart =
      fallen s ok s.indices longer (s.book.spare - 1) (unpaid s.book.spare_data) s.rebuild s.ended (one_fell s ok r up)
      (sym (modes_after-push (opening_of s).modes s.book.entries (entry.Mark m)))
      (sym (replay-push (opening_of s).state s.book.entries (entry.Mark m))) refl
      (whole_one s ok r up) (fewer_one s ok r up)
      (queued_mark (length s.indices) s.book.entries m s.maint s.commands ok.maint.queued) (rebuild_one s ok r up apart)
      ok.adds
      (λ none. let was = ok.caused none in
      caused_more s.maint s.commands s.book.entries was (entry.Mark m ∷ [])
      (behind_falls_fault s.book.entries stream r count was.fell) (refl, tt))
      (fault_on (due s.whole (told_of s).volume) (forms s.whole s.nodes) s stream r count ok.on up above apart)

  fault_ends : (b : Rebuilding) → s.rebuild ≡ Some b → (r ≡ b.target) ⊎ (r ≡ b.source) → IsSound (aborted (marked s m) b.target)
  fault_ends b begun part =
      let e = mark.Aborted b.target in
      fallen s ok s.indices (longer ++ entry.Mark e ∷ []) (s.book.spare - 1 - 1) (unpaid (unpaid s.book.spare_data)) None
      (Some (record { target = b.target; place = length longer })) (both_fell s ok r up b)
      (sym (modes_after-push (opening_of s).modes longer (entry.Mark e)
      ∙ ap (λ (ms : List Mode). set ms b.target Err)
      (modes_after-push (opening_of s).modes s.book.entries (entry.Mark m))))
      (sym (replay-push (opening_of s).state longer (entry.Mark e) ∙ replay-push (opening_of s).state s.book.entries (entry.Mark m))) refl
      (whole_both s ok r up b begun) (fewer_both s ok r up b begun)
      (queued_mark (length s.indices) longer e s.maint s.commands
      (queued_mark (length s.indices) s.book.entries m s.maint s.commands ok.maint.queued))
      (rebuild_both s ok r up b begun) (adds_both s ok r up b (length longer) begun)
      (λ none. let was = ok.caused none in
      subst (AreCaused s.maint s.commands) (sym (append_assoc s.book.entries (entry.Mark m ∷ []) (entry.Mark e ∷ [])))
      (caused_more s.maint s.commands s.book.entries was (entry.Mark m ∷ entry.Mark e ∷ [])
      (behind_falls_fall s.book.entries stream r count b.target b.source was.fell (open_there s ok r up b begun) part)
      (refl, (refl, tt))))
      (fault_over (due s.whole (told_of s).volume) (forms s.whole s.nodes) s stream r count ok.on up above b begun)

  pub faulted_kept : IsSound (faulted s stream r count)
  faulted_kept = ⊎_elim
      (λ (x : GoesOn (marked s m) r (faulted s stream r count)). subst IsSound (sym x.state) (fault_alone x.apart))
      (λ (x : Aborts (marked s m) r (faulted s stream r count)). subst IsSound (sym x.state) (fault_ends x.b x.begun x.part))
      (behind (marked s m) r)

-- ---- a replica is told to fail, and had not

module _ (s : State) (stream r : ℕ) (ok : IsSound s) (within : stream < length s.indices)
    (no_command : HasNoCommand stream s.commands) (up : mode_of (modes_in s) r ≢ Err) where
  abbrev mf : Mark
  mf = mark.Failed r

  abbrev told_longer : List Entry
  told_longer = s.book.entries ++ entry.Mark mf ∷ []

  abbrev c : Call
  c = call.Command (command.Fail r)

  abbrev a : Answer
  a = its_answer s stream (length s.book.entries) c reply.Done

  abbrev counted : List ℕ
  counted = set s.indices stream (index_at s.indices stream + 1)

  abbrev after : State → State
  after x = answered x stream (length s.book.entries) c reply.Done

  queued_one : AreQueued (length s.indices) told_longer s.maint s.commands
  queued_one = queued_mark (length s.indices) s.book.entries mf s.maint s.commands ok.maint.queued

  fail_alone : IsApart s.rebuild r → IsSoundOn (due s.whole (told_of s).volume) (forms s.whole s.nodes)
      (after (marked (with_place s) mf)) → IsSound (after (marked (with_place s) mf))
  fail_alone apart on =
      fallen s ok counted (told_longer ++ entry.Answer a ∷ []) (s.book.spare + 1 - 1 - 1)
      (unpaid (unpaid s.book.spare_data)) s.rebuild s.ended (one_fell s ok r up)
      (sym (modes_after-push (opening_of s).modes told_longer (entry.Answer a)
      ∙ modes_after-push (opening_of s).modes s.book.entries (entry.Mark mf)))
      (sym (replay-push (opening_of s).state told_longer (entry.Answer a)
      ∙ replay-push (opening_of s).state s.book.entries (entry.Mark mf)))
      (sym (length-set s.indices stream (index_at s.indices stream + 1)))
      (whole_one s ok r up) (fewer_one s ok r up)
      (queued_answer (length s.indices) told_longer a s.maint s.commands queued_one no_command)
      (rebuild_one s ok r up apart) ok.adds
      (λ none. let was = ok.caused none in
      caused_answer s.maint s.commands told_longer (caused_more s.maint s.commands s.book.entries was (entry.Mark mf ∷ [])
      (behind_falls_failed s.book.entries r was.fell) (refl, tt)) a) on

  fail_ends : (b : Rebuilding) → s.rebuild ≡ Some b → (r ≡ b.target) ⊎ (r ≡ b.source)
      → IsSoundOn (due s.whole (told_of s).volume) (forms s.whole s.nodes)
      (after (aborted (marked (with_place s) mf) b.target))
      → IsSound (after (aborted (marked (with_place s) mf) b.target))
  fail_ends b begun part on =
      let e = mark.Aborted b.target in
      let over = told_longer ++ entry.Mark e ∷ [] in
      fallen s ok counted (over ++ entry.Answer a ∷ []) (s.book.spare + 1 - 1 - 1 - 1)
      (unpaid (unpaid (unpaid s.book.spare_data))) None
      (Some (record { target = b.target; place = length told_longer })) (both_fell s ok r up b)
      (sym (modes_after-push (opening_of s).modes over (entry.Answer a) ∙ modes_after-push (opening_of s).modes told_longer (entry.Mark e)
      ∙ ap (λ (ms : List Mode). set ms b.target Err) (modes_after-push (opening_of s).modes s.book.entries (entry.Mark mf))))
      (sym (replay-push (opening_of s).state over (entry.Answer a)
      ∙ replay-push (opening_of s).state told_longer (entry.Mark e)
      ∙ replay-push (opening_of s).state s.book.entries (entry.Mark mf)))
      (sym (length-set s.indices stream (index_at s.indices stream + 1)))
      (whole_both s ok r up b begun) (fewer_both s ok r up b begun)
      (queued_answer (length s.indices) over a s.maint s.commands
      (queued_mark (length s.indices) told_longer e s.maint s.commands queued_one) no_command)
      (rebuild_both s ok r up b begun) (adds_both s ok r up b (length told_longer) begun)
      (λ none. let was = ok.caused none in
      caused_answer s.maint s.commands over
      (subst (AreCaused s.maint s.commands) (sym (append_assoc s.book.entries (entry.Mark mf ∷ []) (entry.Mark e ∷ [])))
      (caused_more s.maint s.commands s.book.entries was (entry.Mark mf ∷ entry.Mark e ∷ [])
      (behind_falls_fail s.book.entries r b.target b.source was.fell (open_there s ok r up b begun) part)
      (refl, (refl, tt)))) a)
      on

  pub fails_kept : IsSoundOn (due s.whole (told_of s).volume) (forms s.whole s.nodes) (after (failed (with_place s) r))
      → IsSound (after (failed (with_place s) r))
  fails_kept on = ⊎_elim
      (λ (x : GoesOn (marked (with_place s) mf) r (failed (with_place s) r)). subst (λ (y : State). IsSound (after y)) (sym x.state)
      (fail_alone x.apart (subst (λ (y : State). IsSoundOn (due s.whole (told_of s).volume) (forms s.whole s.nodes) (after y)) x.state on)))
      (λ (x : Aborts (marked (with_place s) mf) r (failed (with_place s) r)). subst (λ (y : State). IsSound (after y)) (sym x.state)
      (fail_ends x.b x.begun x.part
      (subst (λ (y : State). IsSoundOn (due s.whole (told_of s).volume) (forms s.whole s.nodes) (after y)) x.state on)))
      (behind (marked (with_place s) mf) r)

-- ---- a call that is answered at once

pub now_sound : (s : State) (stream : ℕ) (c : Call) → IsSound s → stream < length s.indices → IsIdle stream s.calls
    → HasNoCommand stream s.commands → IsNow c
    → IsSound (answered (after_fail (with_place s) (failed_by c)) stream (length s.book.entries) c
    (plain_step (modes_in s) (told_of s) c).1)
now_sound s stream c ok within idle none now =
    by c now (now_on (due s.whole (told_of s).volume) (forms s.whole s.nodes) s stream c ok.on within idle now)
  where
    Now : Call → State
    Now c = answered (after_fail (with_place s) (failed_by c)) stream (length s.book.entries) c (plain_step (modes_in s) (told_of s) c).1

    quiet : (c : Call) → ((b : Bool) → cond b (told_of s) (after_call (told_of s) c) ≡ told_of s)
        → IsSoundOn (due s.whole (told_of s).volume) (forms s.whole s.nodes)
        (answered (with_place s) stream (length s.book.entries) c (plain_step (modes_in s) (told_of s) c).1)
        → IsSound (answered (with_place s) stream (length s.book.entries) c (plain_step (modes_in s) (told_of s) c).1)
    quiet c same on =
        let r = (plain_step (modes_in s) (told_of s) c).1 in
        let room = s.book.spare_data in
        quiet_kept s ok stream c r within none room (told_next s ok stream c r within none room (same (is_refusal r))) on

    rw≢err : Rw ≢ Err
    rw≢err e = cc

    wo≢err : Wo ≢ Err
    wo≢err e = cc

    by_mode : (r : ℕ) (m : Mode) → mode_of (modes_in s) r ≡ m
        → IsSoundOn (due s.whole (told_of s).volume) (forms s.whole s.nodes)
        (answered (failed_in m (with_place s) r) stream (length s.book.entries) (call.Command (command.Fail r))
        reply.Done)
        → IsSound (answered (failed_in m (with_place s) r) stream (length s.book.entries) (call.Command (command.Fail r)) reply.Done)
    by_mode r Err e on = quiet (call.Command (command.Fail r)) (λ b. same b) on
      where
        same : (b : Bool) → cond b (told_of s) (after_call (told_of s) (call.Command (command.Fail r))) ≡ told_of s
        same true = refl
        same false = refl
    by_mode r Rw e on = fails_kept s stream r ok within none (λ f. rw≢err (sym e ∙ f)) on
    by_mode r Wo e on = fails_kept s stream r ok within none (λ f. wo≢err (sym e ∙ f)) on

    by : (c : Call) → IsNow c → IsSoundOn (due s.whole (told_of s).volume) (forms s.whole s.nodes) (Now c) → IsSound (Now c)
    by (call.Read offset n) now on = quiet (call.Read offset n) (λ b. same b) on
      where
        same : (b : Bool) → cond b (told_of s) (after_call (told_of s) (call.Read offset n)) ≡ told_of s
        same true = refl
        same false = refl
    by (call.Write offset bytes) now on = absurd now
    by call.Ping now on = quiet call.Ping (λ b. same b) on
      where
        same : (b : Bool) → cond b (told_of s) (after_call (told_of s) call.Ping) ≡ told_of s
        same true = refl
        same false = refl
    by (call.Other k) now on = quiet (call.Other k) (λ b. same b) on
      where
        same : (b : Bool) → cond b (told_of s) (after_call (told_of s) (call.Other k)) ≡ told_of s
        same true = refl
        same false = refl
    by (call.Command (command.Snapshot name)) now on = absurd now
    by (call.Command (command.Remove name)) now on = absurd now
    by (call.Command (command.Revert name)) now on = absurd now
    by (call.Command command.Purge) now on = absurd now
    by (call.Command (command.Add r)) now on = absurd now
    by (call.Command (command.Backup backup snapshot)) now on = absurd now
    by (call.Command command.Status) now on = quiet (call.Command command.Status) (λ b. same b) on
      where
        same : (b : Bool) → cond b (told_of s) (after_call (told_of s) (call.Command command.Status)) ≡ told_of s
        same true = refl
        same false = refl
    by (call.Command (command.Fail r)) now on = by_mode r (mode_of (modes_in s) r) refl on
