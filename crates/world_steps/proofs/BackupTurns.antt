-- Each step of a backup that has the turn, in one turn: the World that was seen as s is found as x, left as y, and seen so
-- as u.
use Rattle.std.proofs.Common.{◌≡◌, ℕ, ◌*◌, ◌<◌, Bool, true, false, List, [], ◌∷◌, length, Option, Some, None, Result, Ok}
use Rattle.std.proofs.Common.{OnOk, OnErr, IfOk, IfErr, IfSome, IsSome, refl, sym, ap, subst, ◌∙◌}
use Rattle.std.proofs.Common.{Err as Failed}
use Rattle.vol_units.specs.Bytes.{bytes_at}
use Rattle.vol_units.specs.declared.size.TheConstants.{PAGE_BYTES}
use Rattle.volume_model.specs.declared.command.Command.{Command}
use Rattle.volume_model.specs.declared.command.Command.TheVariants as command
use Rattle.volume_model.specs.declared.call.Reply.{Reply}
use Rattle.volume_model.specs.declared.entry.Entry.TheVariants as entry
use Rattle.volume_model.specs.declared.mark.Mark.TheVariants as mark
use Rattle.volume_model.specs.Copies.{IsCopyOf, RemovesNone}
use Rattle.volume_model.specs.declared.mode.Mode.{Mode}
use Rattle.volume_model.specs.History.{Spot}
use Rattle.range_turns.specs.declared.ticket.Ticket.{Ticket}
use Rattle.step_answers.specs.declared.answers.NotThis.{NotThis}
use Rattle.step_answers.specs.declared.answers.NotThis.TheVariants as against
use Rattle.step_answers.specs.declared.whole_op.WholeOp.{WholeOp}
use Rattle.step_answers.specs.declared.whole_op.WholeOp.TheVariants as whole
use Rattle.open_calls.specs.declared.maint.MaintCall.{MaintCall}
use Rattle.open_calls.specs.declared.whole.Whole.{Whole}
use Rattle.open_calls.specs.Maint.{command_at}
use Rattle.open_calls.proofs.Folds.{IsBeside, IsSnapshot, idle_beside}
use Rattle.volume_core.specs.State.{State, told_of, modes_in, spot_of, gave_up_at}
use Rattle.volume_core.specs.Streams.{MayGo, HasFault}
use Rattle.volume_core.specs.Turn.{ForAsker, IsFreeTurn}
use Rattle.volume_maint.specs.Answers as world
use Rattle.volume_maint.specs.Answers.{snapshots_told}
use Rattle.volume_backup.specs.Copies.{copies_told, IsLive, copy_told, IsBesideTurn, NoneUnderTurn}
use Rattle.volume_backup.specs.Answers as core
use Rattle.volume_backup.proofs.Covers.{has_live}
use Rattle.desk_lock.specs.Account.{Each}
use Rattle.stream_steps.specs.Mine.{Mine, OwnCall}
use Rattle.stream_steps.specs.Does.{Does}
use Rattle.stream_steps.specs.Backup.{HasBackup, ForBackup, KeepsCopies, KeepsTold, GivesPage, AgainstGiving}
use Rattle.stream_steps.specs.Backup.{MayEndBackup, EndsBackup, RefusesEndBackup}
use Rattle.world_holder.specs.Counted as counted
use Rattle.world_holder.specs.View.{view, log_of, IsFound, Owes}
use Rattle.world_holder.proofs.Grow.{over, unchanged}
use Rattle.world_steps.proofs.BackupEnds.{may_end_backup, never_waits, refuses_end}
use Rattle.world_steps.proofs.FrameTurns.{found_in, look_owes}
use Rattle.world_steps.proofs.GaveUp.{flag_kept, ends_still}
use Rattle.world_steps.proofs.Heads.{same_command}
use Rattle.world_steps.proofs.MaintTurns.{owes_still, turn_go, turn_counted}
use Rattle.world_steps.proofs.ToldCopies.{told_is, told_kept, told_again, grown_copies, fault_removes}
use Rattle.world_steps.proofs.Turns.{turn_one, turn_command, free_turn, ended_at, ended_answer}

-- the backup of some snapshot has the turn
abbrev pub IsBackup : ℕ → Mine → Type 0
IsBackup t m = (backup snapshot : List ℕ) × (o : OwnCall) × HasBackup t backup snapshot o m

-- ---- what is found

-- beside a call on the whole volume that is a snapshot, none under the turn has started
calm_of : (w : Option Whole) → IsBeside w → NoneUnderTurn w
calm_of None beside = tt
calm_of (Some w) beside = by w.op beside
  where
    by : (op : WholeOp) → IsSnapshot op → IsBesideTurn op
    by (whole.Snapshot name) is = tt
    by (whole.Remove name) is = absurd is
    by (whole.Revert name) is = absurd is
    by (whole.Purge f) is = absurd is
    by (whole.Barrier r) is = absurd is

module _ (a : Bool) (n t : ℕ) (s x : State) (found : IsFound a n s x) (h : IsBackup t (view a n s)) where
  found_backup : IsBackup t (view a n x)
  found_backup = found_in a n s x found (IsBackup t) h

  -- each snapshot that could be used has its copy
  copies_found : counted.AreCopiesKept s x
  copies_found =
      let f = found_backup in
      let one = turn_one a n t x found.sound (command.Backup f.0 f.1) f.2 f.3 in
      (subst (Each (λ (p : Ticket × MaintCall). counted.KeepsCopies p.0 s x)) (sym found.later.turns ∙ one.turns)
      found.later.copies).0 (ap (λ (o : OwnCall). o.started) one.is ∙ f.3.started)

  backup_free : IsFreeTurn x t
  backup_free =
      let f = found_backup in
      free_turn a n t x found.sound (command.Backup f.0 f.1) f.2 f.3

  -- and no operation of a command under the turn has started
  pub calm_found : NoneUnderTurn x.whole
  calm_found = calm_of x.whole (idle_beside (told_of x) (snapshots_told x) (modes_in x) (modes_in x) x.nodes x.nodes x.maint
      x.commands x.tickets x.calls x.whole found.sound.on.clients.paired backup_free.idle found.sound.maint.fits found.sound.whole)

  -- a snapshot that could be used is live
  pub live_found : (name : List ℕ) → IsSome (copies_told s name) → IsLive x name
  live_found name some = by (copies_told s name) refl some
    where
      by : (o : Option (List ℕ)) → copies_told s name ≡ o → IsSome o → IsLive x name
      by (Some disk) e is = (copies_found name disk (told_is s name disk e)).live
      by None e is = absurd cc

  -- ---- a look leaves it so

  module _ (u : State) (left : u ≡ x) where
    pub look_kept : KeepsCopies (copies_told s) (copies_told u)
    look_kept = subst (λ (z : State). KeepsCopies (copies_told s) (copies_told z)) (sym left) (told_kept s x copies_found)

    pub look_told : KeepsTold (view a n u) (copies_told u)
    look_told = subst (λ (z : State). KeepsTold (view a n z) (copies_told z)) (sym left) (told_again a n x found.sound)

-- what is so of what was found is so of what is seen
pub look_so : (P : State → Type 0) (x u : State) → u ≡ x → P x → P u
look_so P x u left h = subst P (sym left) h

-- ---- a page

-- by a step that leaves the World as it was found
pub page_owes : (a : Bool) (n : ℕ) (s x y : State) → y ≡ x → IsFound a n s x → Owes n x y
page_owes a n s x y same found = subst (Owes n x) (sym same) (look_owes a n s x x refl found)

module _ (a : Bool) (n t r page : ℕ) (name : List ℕ) (s x y : State) (found : IsFound a n s x) (h : IsBackup t (view a n s))
    (same : y ≡ x) (res : Result (Unit {0}) NotThis) (given : List ℕ) (u : State) (left : u ≡ y) where
  pub page_gives : OnOk res (core.GivesPage x r name page given)
      → OnOk res (GivesPage (modes_in u) r (copies_told u name) page given)
  page_gives ok = subst (λ (z : State). OnOk res (GivesPage (modes_in z) r (copies_told z name) page given)) (sym (left ∙ same))
      (by res ok)
    where
      bytes : core.GivesPage x r name page given → (o : Option (List ℕ)) → copies_told x name ≡ o
          → IfSome o (λ disk. given ≡ bytes_at disk (page * PAGE_BYTES) PAGE_BYTES)
      bytes d None e = tt
      bytes d (Some disk) e = d.bytes
          ∙ ap (λ (l : List ℕ). bytes_at l (page * PAGE_BYTES) PAGE_BYTES) (sym (has_live (told_of x).volume name disk e).1)

      by : (q : Result (Unit {0}) NotThis) → OnOk q (core.GivesPage x r name page given)
          → OnOk q (GivesPage (modes_in x) r (copies_told x name) page given)
      by (Ok v) d = record { read = d.read; bytes = bytes d (copies_told x name) refl }
      by (Failed e) d = tt

  -- there is such a page, so that where it is not given the replica is not read
  pub page_why : IfSome (copies_told s name) (λ disk. page * PAGE_BYTES < length disk) → IsSome (copies_told s name)
      → IfErr res (core.AgainstPage x r name page) → IfErr res (AgainstGiving (modes_in u) r)
  page_why inside some why = subst (λ (z : State). IfErr res (AgainstGiving (modes_in z) r)) (sym (left ∙ same)) (by res why)
    where
      there : (o : Option (List ℕ)) → copies_told s name ≡ o → IsSome o → IfSome o (λ disk. page * PAGE_BYTES < length disk)
          → page * PAGE_BYTES < length (copy_told x name)
      there (Some disk) e is within = subst (λ (l : List ℕ). page * PAGE_BYTES < length l)
          (sym (copies_found a n t s x found h name disk (told_is s name disk e)).copy) within
      there None e is within = absurd cc

      readable : core.IsReadable x name page
      readable = record {
        calm = calm_found a n t s x found h;
        live = live_found a n t s x found h name some;
        inside = there (copies_told s name) refl some inside;
      }

      one : (e : NotThis) → core.AgainstPage x r name page e → AgainstGiving (modes_in x) r e
      one (against.Mode m) d = d
      one against.Page d = absurd (d.1 readable)
      one against.Ticket d = absurd d
      one (against.Pending q) d = absurd d
      one (against.Count last) d = absurd d

      by : (q : Result (Unit {0}) NotThis) → IfErr q (core.AgainstPage x r name page) → IfErr q (AgainstGiving (modes_in x) r)
      by (Ok v) d = tt
      by (Failed e) d = one e d

-- ---- a line fails

pub fall_kept : {E : Type 0} (a : Bool) (n t r count : ℕ) (s x y : State) (found : IsFound a n s x) (h : IsBackup t (view a n s))
    (res : Result (Unit {0}) E) → MayGo n x y → OnOk res (HasFault n r count x y) → OnErr res (y ≡ x)
    → (u : State) → u ≡ y → KeepsCopies (copies_told s) (copies_told u)
fall_kept {E} a n t r count s x y found h res may sees err u left =
    told_kept s u (subst (counted.AreCopiesKept s) (sym left)
    (λ name disk is. by res sees err name disk (copies_found a n t s x found h name disk is)))
  where
    by : (q : Result (Unit {0}) E) → OnOk q (HasFault n r count x y) → OnErr q (y ≡ x) → counted.AreCopiesKept x y
    by (Ok v) d same = grown_copies n x y (entry.Mark (mark.Fault n r count) ∷ d.ends) found.sound may d.entries
        (fault_removes n r count d.ends d.most)
    by (Failed e) d same = λ name disk is. subst (λ (z : State). IsCopyOf (told_of z).volume name disk) (sym same) is

-- ---- its end

module _ (a : Bool) (n t : ℕ) (r : Reply) (s x y : State) (found : IsFound a n s x) (res : Result ℕ NotThis)
    (h : IsBackup t (view a n s)) (may : ForAsker x t (λ m. MayGo m x y))
    (ok : OnOk res (world.EndsTurn x t r y)) (err : OnErr res (y ≡ x)) where
  end_go : MayGo n x y
  end_go = turn_go a n t (command.Backup h.0 h.1) s x y found (h.2, h.3) may

  end_gave : y.gave_up ≡ x.gave_up
  end_gave = (ends_still x y t r res ok err).gave_up

  pub end_owes : Owes n x y
  end_owes = owes_still n x y end_go (ends_still x y t r res ok err)
      (turn_counted a n t (command.Backup h.0 h.1) s x y found (h.2, h.3))

  -- its answer removes none
  end_copies : counted.AreCopiesKept x y
  end_copies = by res ok err
    where
      f : IsBackup t (view a n x)
      f = found_backup a n t s x found h

      other : (name : List ℕ) → command.Backup f.0 f.1 ≡ command.Remove name → ⊥
      other name e = cc

      none : (name : List ℕ) → RemovesNone name (entry.Answer (ended_answer x r) ∷ [])
      none name = (
        λ e. absurd (other name (sym (turn_command a n t x found.sound (command.Backup f.0 f.1) f.2 f.3)
            ∙ same_command (command_at x.commands 0).command (command.Remove name) e)),
        tt,
      )

      by : (q : Result ℕ NotThis) → OnOk q (world.EndsTurn x t r y) → OnErr q (y ≡ x) → counted.AreCopiesKept x y
      by (Ok at) d same = grown_copies n x y (entry.Answer (ended_answer x r) ∷ []) found.sound end_go
          (ap (λ (z : State). z.book.entries) d.state) none
      by (Failed e) d same = λ name disk is. subst (λ (z : State). IsCopyOf (told_of z).volume name disk) (sym same) is

  module _ (u : State) (left : u ≡ y) where
    pub end_flag : gave_up_at u.gave_up n ≡ gave_up_at s.gave_up n
    end_flag = flag_kept a n s x y u found left end_gave

    pub end_kept : KeepsCopies (copies_told s) (copies_told u)
    end_kept = told_kept s u (subst (counted.AreCopiesKept s) (sym left)
        (λ name disk is. end_copies name disk (copies_found a n t s x found h name disk is)))

    end_same : OnErr res (view a n u ≡ view a n s)
    end_same = over a n s x y u found left (λ (m : Mine) (z : State). OnErr res (view a n z ≡ m)) (unchanged a n x y res err)

    abbrev EndsAs : Mine → State → List ℕ → List ℕ → OwnCall → Type 0
    EndsAs m z backup snapshot o = EndsBackup snapshot o r (copies_told s) m (view a n z)

    end_to : IfOk res (λ at. ForBackup t (view a n s) (EndsAs (view a n s) u))
    end_to = over a n s x y u found left
        (λ (m : Mine) (z : State). IfOk res (λ at. ForBackup t m (EndsAs m z))) (by res ok)
      where
        one : world.EndsTurn x t r y → ForBackup t (view a n x) (EndsAs (view a n x) y)
        one d backup snapshot o has =
            let c : Command = command.Backup backup snapshot in
            let end = ended_at a n t x y found.sound end_go r c o has d.state in
            record {
              answers = end.0;
              may = subst (λ (z : Spot). MayEndBackup z o.call r) (sym end.1)
                  (subst (λ k. MayEndBackup (spot_of x) k r) (sym has.call)
                  (may_end_backup x backup snapshot r
                  (subst (λ k. world.MayEnd x k r) (turn_command a n t x found.sound c o has) d.may)));
              copy = λ disk told. subst (λ (z : Spot). IsCopyOf z.state.volume snapshot disk) (sym end.1)
                  (copies_found a n t s x found h snapshot disk (told_is s snapshot disk told));
            }

        by : (q : Result ℕ NotThis) → OnOk q (world.EndsTurn x t r y)
            → IfOk q (λ at. ForBackup t (view a n x) (EndsAs (view a n x) y))
        by (Ok at) d = one d
        by (Failed e) d = tt

    abbrev RefusesAs : State → List ℕ → List ℕ → OwnCall → Type 0
    RefusesAs z backup snapshot o = RefusesEndBackup snapshot r (copies_told z) (modes_in z)

    end_why : IfErr res (world.AgainstEndTurn x t r) → IfErr res (λ why. ForBackup t (view a n s) (RefusesAs u))
    end_why why = over a n s x y u found left
        (λ (m : Mine) (z : State). IfErr res (λ e. ForBackup t m (RefusesAs z))) (by res why err)
      where
        by : (q : Result ℕ NotThis) → IfErr q (world.AgainstEndTurn x t r) → OnErr q (y ≡ x)
            → IfErr q (λ e. ForBackup t (view a n x) (RefusesAs y))
        by (Ok at) d same = tt
        by (Failed e) d same = λ backup snapshot o has.
            let is = turn_command a n t x found.sound (command.Backup backup snapshot) o has in
            subst (λ (z : State). RefusesEndBackup snapshot r (copies_told z) (modes_in z)) (sym same)
            (refuses_end x backup snapshot r
            (λ may. never_waits x backup snapshot r
            (subst (λ k. world.WaitsToEnd x k r) is
            (d.cannot (backup_free a n t s x found h) (subst (λ k. world.MayEnd x k r) (sym is) may)))))

    pub end_does : IfErr res (world.AgainstEndTurn x t r) → Does res (view a n s) (view a n u)
        (λ at. ForBackup t (view a n s) (λ backup snapshot o. EndsBackup snapshot o r (copies_told s) (view a n s) (view a n u)))
        (λ why. ForBackup t (view a n s) (λ backup snapshot o. RefusesEndBackup snapshot r (copies_told u) (modes_in u)))
    end_does why = record { ok = end_to; why = end_why why; err = end_same }

-- what is true of the modes is true of them behind the journal, where that is known
pub log_modes : (P : List Mode → Type 0) (alone : Bool) (s : State) → P (modes_in s)
    → IfSome (log_of alone s) (λ log. P log.spot.modes)
log_modes P true s is = is
log_modes P false s is = tt
