-- Each step of a frame in one turn: the World that was seen as s is found as x, left as y, and seen so as u.
use Rattle.std.proofs.Common.{◌≡◌, ℕ, Bool, [], Result, Ok, OnOk, OnErr, IfOk, IfErr, subst, sym, ap, ◌∙◌}
use Rattle.std.proofs.Common.{Err as Failed, ◌<◌, List, length, IfSome, refl, Option}
use Rattle.vol_units.specs.Size.{IsVolumeSize}
use Rattle.range_turns.specs.Order.{ticket_at}
use Rattle.volume_model.specs.declared.call.Call.{Call}
use Rattle.volume_model.specs.declared.mode.Mode.TheVariants.{Err}
use Rattle.volume_model.specs.Modes.{mode_of, HasNoSource, IsSource}
use Rattle.std.specs.Option.{MatchOption}
use Rattle.volume_model.specs.declared.mode.Mode.{Mode}
use Rattle.open_calls.specs.Calls.{open_at}
use Rattle.step_answers.specs.Parts.{part_at, IsTaken}
use Rattle.open_calls.specs.Clients.{IsIdle}
use Rattle.open_calls.specs.Maint.{HasNoCommand}
use Rattle.step_answers.specs.declared.answers.Enrolled.{Enrolled}
use Rattle.step_answers.specs.declared.answers.NotThis.{NotThis}
use Rattle.step_answers.specs.Asked.{IsOnRange, IsNow}
use Rattle.volume_core.specs.Answers.{EnrolsAs, Completes, IsAdmit, IsAnsweredNow, AreBlocksOfWrite}
use Rattle.volume_core.specs.Answers.{IsRoomier}
use Rattle.volume_core.specs.Places.{IsCallAt, IsWriteAt, IsReadAt, IsWaitingAt}
use Rattle.volume_core.specs.State.{State, modes_in, gave_up_at}
use Rattle.volume_core.specs.Sound.{IsSound}
use Rattle.volume_core.specs.Steps.{acked, faulted, wrote, has_read, without_call}
use Rattle.volume_core.specs.Streams.{IsTakenBack}
use Rattle.volume_core.specs.Streams.{MayGo, ForOwner, IsAnsweredTo, SeesEnrolled, turning, SeesAdmit, Origin}
use Rattle.step_answers.specs.declared.answers.Admit.{Admit}
use Rattle.volume_core.specs.Against as core
use Rattle.world_holder.specs.Counted.{IsRebuildKept}
use Rattle.world_holder.proofs.CountedLemmas.{others_kept}
use Rattle.world_holder.proofs.Leaves.{parts_stay, may_stay}
use Rattle.world_holder.proofs.Found.{still_none, has_no_command}
use Rattle.stream_steps.specs.Mine.{Mine, OwnCall, IsOwn, ForOwn, with_running}
use Rattle.stream_steps.specs.Does.{Does, StartsOrWaits}
use Rattle.stream_steps.specs.Against.{RefusesAck, RefusesFault, RefusesEnd, AgainstTake, AgainstGive}
use Rattle.stream_steps.specs.Steps.{HasStarted, IsOnBlocks, EnrolsTo, AcksTo, FaultsTo, Answers, AnswersNow, TakesTo}
use Rattle.stream_steps.specs.Steps.{IsFrameCall, AdmitsTo, IsNotAfter, HasNotStarted, AreBlocksOfCall}
use Rattle.stream_steps.specs.Steps.{IsStartedWrite, IsStartedRead}
use Rattle.stream_steps.specs.Seen.{AsksAll, IsJobOf, IsNextUp, TellsNext, TellsSource, WaitsAs}
use Rattle.world_holder.proofs.Grow.{found_same, over, unchanged}
use Rattle.world_holder.specs.View.{view, IsFree, IsFound, Owes}
use Rattle.world_steps.specs.Seen.{seen_of}
use Rattle.world_steps.proofs.Own.{idle_from, opened}
use Rattle.world_steps.proofs.FrameRows.{acked_row, wrote_row, has_read_row, complete_row, now_rows, enrol_rows}
use Rattle.world_steps.proofs.FrameRows.{roomier_same, gone_row, mode_there}
use Rattle.world_steps.proofs.Against.{HasOpen, waits_open, started_open, write_open, read_open, open_as, waits_at}
use Rattle.world_steps.proofs.Against.{buffer_at, blocks_at, takes_why, gives_why, acks_why, ends_why, faults_why}
use Rattle.world_steps.proofs.StartRows.{admit_rows, never_after, asks_all, waits_as}
use Rattle.world_steps.proofs.Carried.{carries}
use Rattle.world_steps.proofs.Does.{starts_or_waits}
use Rattle.world_steps.proofs.RebuildKept.{kept_itself, kept_enrolled, kept_now, kept_admitted, kept_withdrawn}
use Rattle.world_steps.proofs.RebuildKept.{kept_wrote, kept_read, kept_acked, kept_faulted}
use Rattle.world_steps.proofs.RebuildKept.{kept_completed}
use Rattle.world_steps.proofs.Rest.{Rest, rest_of, turns_enrolled, turns_answered, turns_admitted, turns_withdrawn}
use Rattle.world_steps.proofs.Rest.{turns_wrote, turns_read, turns_acked, turns_faulted, turns_completed}
use Rattle.world_steps.proofs.FaultRows.{shows_fault, alone_calm, fault_row}

-- ---- what each of them owes, and leaves to its stream

pub owes_by : (n : ℕ) (x y : State) → MayGo n x y → rest_of y ≡ rest_of x → IsRebuildKept x.rebuild x y → Owes n x y
owes_by n x y may rest kept = record {
  may = may;
  parts = parts_stay n x y may (ap (λ (r : Rest). r.whole) rest);
  counted = others_kept n x y kept;
}

-- what was known is so of what is found
module _ (a : Bool) (n : ℕ) (s x : State) (found : IsFound a n s x) where
  pub found_in : (P : Mine → Type 0) → P (view a n s) → P (view a n x)
  found_in P h = subst P (sym (found_same a n s x found)) h

  pub found_idle : (view a n s).running ≡ [] → IsIdle n x.calls
  found_idle idle = idle_from n x found.sound (found_in (λ (m : Mine). m.running ≡ []) idle)

  found_turns : IsFree n s → turning x n ≡ []
  found_turns free = found.later.turns ∙ free.turns

  pub found_free : IsFree n s → HasNoCommand n x.commands
  found_free free = has_no_command n x found.sound (found_turns free)

  module _ (t : ℕ) (op : HasOpen t (view a n s)) where
    abbrev found_open : HasOpen t (view a n x)
    found_open = (op.0, found_in (IsOwn t op.0) op.1, op.2)

    -- what a step for the owner of the ticket leaves
    pub found_may : (y : State) → ForOwner t x (λ m c. MayGo m x y) → MayGo n x y
    found_may y may = may n op.0.call (opened a n t op.0 x found.sound found_open.1 op.2)

    found_blocks : (o : OwnCall) → IsOwn t o (view a n x) → IsOnBlocks o.call
    found_blocks o own = open_as t (view a n x) found_open o own

  module _ (y u : State) (left : u ≡ y) where
    pub free_on : IsFree n s → rest_of y ≡ rest_of x → IsFree n u
    free_on free rest = subst (IsFree n) (sym left) (record {
      turns = still_none n x y found.sound (ap (λ (r : Rest). r.commands) rest) (found_turns free);
      gave_up = ap (λ (r : Rest). gave_up_at r.gave_up n) rest ∙ found.later.gave_up ∙ free.gave_up;
    })

    -- where a step that failed changes nothing
    same_on : {A E : Type 0} (res : Result A E) → OnErr res (y ≡ x) → OnErr res (view a n u ≡ view a n s)
    same_on res err = over a n s x y u found left (λ (m : Mine) (z : State). OnErr res (view a n z ≡ m)) (unchanged a n x y res err)

-- a replica that is there, as a step left the World, is one of those that are known
inside_by : (a : Bool) (n : ℕ) (s x y : State) → IsFound a n s x → MayGo n x y → (r : Option ℕ)
    → IfSome r (λ k. k < length (modes_in y)) → IfSome r (λ k. k < (view a n s).replicas)
inside_by a n s x y found may r within =
    let many : length y.nodes ≡ (view a n s).replicas =
    ap (λ (o : Origin). o.replicas) may.origin ∙ ap (λ (m : Mine). m.replicas) (found_same a n s x found) in
    subst (λ j. IfSome r (λ k. k < j)) many (mode_there y r may.sound within)

-- and one that is next there is so of the modes that are known
pub tells_next : (a : Bool) (n : ℕ) (s x y : State) → IsFound a n s x → MayGo n x y → (z u : State) → z ≡ y → u ≡ y → (r : ℕ)
    (q : Option ℕ) → IsNextUp (modes_in z) r q → IfSome q (λ k. k < length (modes_in z))
    → TellsNext (modes_in u) r (view a n s).replicas q
tells_next a n s x y found may z u same left r q next inside = record {
  next = subst (λ (v : State). IsNextUp (modes_in v) r q) (same ∙ sym left) next;
  inside = inside_by a n s x y found may q (subst (λ (v : State). IfSome q (λ k. k < length (modes_in v))) same inside);
}

-- so is the lowest that is read and written
pub tells_source : (a : Bool) (n : ℕ) (s x y : State) → IsFound a n s x → MayGo n x y → (z u : State) → z ≡ y → u ≡ y → (q : Option ℕ)
    → MatchOption q (HasNoSource (modes_in z)) (IsSource (modes_in z)) → IfSome q (λ k. k < length (modes_in z))
    → TellsSource (modes_in u) (view a n s).replicas q
tells_source a n s x y found may z u same left q is inside = record {
  is = subst (λ (v : State). MatchOption q (HasNoSource (modes_in v)) (IsSource (modes_in v))) (same ∙ sym left) is;
  inside = inside_by a n s x y found may q (subst (λ (v : State). IfSome q (λ k. k < length (modes_in v))) same inside);
}

-- ---- a look, by which nothing changes

pub look_owes : (a : Bool) (n : ℕ) (s x z : State) → z ≡ x → IsFound a n s x → Owes n z x
look_owes a n s x z seen found = subst (λ (w : State). Owes n w x) (sym seen)
    (owes_by n x x (may_stay n x found.sound) refl (kept_itself x))

module _ (a : Bool) (n : ℕ) (s x u : State) (found : IsFound a n s x) (left : u ≡ x) where
  pub look_free : IsFree n s → IsFree n u
  look_free free = free_on a n s x found x u left free refl

  pub look_same : view a n u ≡ view a n s
  look_same = over a n s x x u found left (λ (m : Mine) (z : State). view a n z ≡ m) refl

  pub look_inside : (r : Option ℕ) → IfSome r (λ k. k < length (modes_in x)) → IfSome r (λ k. k < (view a n s).replicas)
  look_inside = inside_by a n s x x found (may_stay n x found.sound)

-- what is so of the modes there is so of the modes that are known
pub look_modes : (P : List Mode → Type 0) (x u : State) → u ≡ x → P (modes_in x) → P (modes_in u)
look_modes P x u left h = subst (λ (z : State). P (modes_in z)) (sym left) h

-- ---- answered at once

module _ {E : Type 0} (a : Bool) (n : ℕ) (c : Call) (s x y : State) (found : IsFound a n s x) (res : Result ℕ E)
    (may : MayGo n x y) (ok : IfOk res (λ place. IsAnsweredNow x n c place y)) (err : OnErr res (y ≡ x)) where
  pub now_owes : Owes n x y
  now_owes = owes_by n x y may (turns_answered n c x y res ok err) (kept_now n c x y res ok err)

  module _ (u : State) (left : u ≡ y) where
    pub now_free : IsFree n s → IsFree n u
    now_free free = free_on a n s x found y u left free (turns_answered n c x y res ok err)

    pub now_same : OnErr res (view a n u ≡ view a n s)
    now_same = same_on a n s x found y u left res err

    pub now_to : IsNow c → IsFrameCall c → (view a n s).running ≡ [] → IfOk res (λ place. IsAnsweredTo n c x y)
        → OnOk res (AnswersNow c (view a n s) (view a n u))
    now_to now frame idle sees =
        over a n s x y u found left (λ (m : Mine) (z : State). OnOk res (AnswersNow c m (view a n z))) (by res ok sees)
      where
        by : (r : Result ℕ E) → IfOk r (λ place. IsAnsweredNow x n c place y) → IfOk r (λ place. IsAnsweredTo n c x y)
            → OnOk r (AnswersNow c (view a n x) (view a n y))
        by (Ok place) is sees =
            now_rows a n c place x y now frame (found_in a n s x found (λ (m : Mine). m.running ≡ []) idle) may is sees
        by (Failed e) is sees = tt

-- ---- enrolled

module _ {E : Type 0} (a : Bool) (n : ℕ) (c : Call) (s x y : State) (found : IsFound a n s x) (res : Result Enrolled E)
    (may : MayGo n x y) (ok : IfOk res (λ e. EnrolsAs x n c e y)) (err : OnErr res (y ≡ x)) where
  pub enrol_owes : Owes n x y
  enrol_owes = owes_by n x y may (turns_enrolled n c x y res ok err) (kept_enrolled n c x y res ok err)

  module _ (u : State) (left : u ≡ y) where
    pub enrol_free : IsFree n s → IsFree n u
    enrol_free free = free_on a n s x found y u left free (turns_enrolled n c x y res ok err)

    pub enrol_same : OnErr res (view a n u ≡ view a n s)
    enrol_same = same_on a n s x found y u left res err

    pub enrol_to : IsVolumeSize x.size → IsOnRange c → (view a n s).running ≡ [] → IfOk res (λ e. SeesEnrolled n c e x y)
        → IfOk res (λ e. EnrolsTo c e (view a n s) (view a n u))
    enrol_to size range idle sees =
        over a n s x y u found left (λ (m : Mine) (z : State). IfOk res (λ e. EnrolsTo c e m (view a n z))) (by res ok sees)
      where
        by : (r : Result Enrolled E) → IfOk r (λ e. EnrolsAs x n c e y) → IfOk r (λ e. SeesEnrolled n c e x y)
            → IfOk r (λ e. EnrolsTo c e (view a n x) (view a n y))
        by (Ok e) is sees =
            enrol_rows a n c e x y found.sound size range (found_in a n s x found (λ (m : Mine). m.running ≡ []) idle) may
            is sees
        by (Failed e) is sees = tt

-- ---- started

module _ {E : Type 0} (a : Bool) (n t : ℕ) (s x y : State) (found : IsFound a n s x) (res : Result Admit E)
    (op : (o : OwnCall) × IsOwn t o (view a n s) × HasNotStarted o) (may : ForOwner t x (λ m c. MayGo m x y))
    (ok : IfOk res (λ ad. IsAdmit x t ad y)) (err : OnErr res (IsRoomier x y)) where
  admit_its : HasOpen t (view a n s)
  admit_its = waits_open t (view a n s) op

  pub admit_go : MayGo n x y
  admit_go = found_may a n s x found t admit_its y may

  pub admit_owes : Owes n x y
  admit_owes = owes_by n x y admit_go (turns_admitted t x y res ok err) (kept_admitted t x y res ok err)

  module _ (u : State) (left : u ≡ y) where
    pub admit_free : IsFree n s → IsFree n u
    admit_free free = free_on a n s x found y u left free (turns_admitted t x y res ok err)

    pub admit_same : OnErr res (view a n u ≡ view a n s)
    admit_same = over a n s x y u found left (λ (m : Mine) (z : State). OnErr res (view a n z ≡ m)) (by res err)
      where
        by : (r : Result Admit E) → OnErr r (IsRoomier x y) → OnErr r (view a n y ≡ view a n x)
        by (Ok ad) h = tt
        by (Failed e) h = roomier_same a n x y admit_go h

    admit_to : IfOk res (λ ad. ForOwner t x (λ m c. SeesAdmit m t c ad x y))
        → IfOk res (λ ad. (o : OwnCall) → IsOwn t o (view a n s) → AdmitsTo o ad (view a n s) (view a n u))
    admit_to sees = over a n s x y u found left
        (λ (m : Mine) (z : State). IfOk res (λ ad. (o : OwnCall) → IsOwn t o m → AdmitsTo o ad m (view a n z))) (by res ok sees)
      where
        by : (r : Result Admit E) → IfOk r (λ ad. IsAdmit x t ad y) → IfOk r (λ ad. ForOwner t x (λ m c. SeesAdmit m t c ad x y))
            → IfOk r (λ ad. (o : OwnCall) → IsOwn t o (view a n x) → AdmitsTo o ad (view a n x) (view a n y))
        by (Ok ad) is sees = λ o own.
            let blocks = found_blocks a n s x found t admit_its o own in
            admit_rows a n t o ad x y found.sound own blocks admit_go is (sees n o.call (opened a n t o x found.sound own blocks))
        by (Failed e) is sees = tt

    -- alone it is never told to wait
    admit_first : IfOk res (λ ad. IfSome (view a n s).log (λ log. IsNotAfter ad))
    admit_first = over a n s x y u found left (λ (m : Mine) (z : State). IfOk res (λ ad. IfSome m.log (λ log. IsNotAfter ad)))
        (by res ok)
      where
        mine : HasOpen t (view a n x)
        mine = found_open a n s x found t admit_its

        by : (r : Result Admit E) → IfOk r (λ ad. IsAdmit x t ad y) → IfOk r (λ ad. IfSome (view a n x).log (λ log. IsNotAfter ad))
        by (Ok ad) is = never_after a n t mine.0 ad x y found.sound (λ alone. (found.same alone).1) mine.1 mine.2 is
        by (Failed e) is = tt

    admit_asks : IfOk res (λ ad. AsksAll ad (modes_in u))
    admit_asks = subst (λ (z : State). IfOk res (λ ad. AsksAll ad (modes_in z))) (sym left) (by res ok)
      where
        by : (r : Result Admit E) → IfOk r (λ ad. IsAdmit x t ad y) → IfOk r (λ ad. AsksAll ad (modes_in y))
        by (Ok ad) is = asks_all t ad x y found.sound is
        by (Failed e) is = tt

    admit_after : IfOk res (λ ad. WaitsAs t ad (seen_of u))
    admit_after = subst (λ (z : State). IfOk res (λ ad. WaitsAs t ad (seen_of z))) (sym left) (by res ok)
      where
        by : (r : Result Admit E) → IfOk r (λ ad. IsAdmit x t ad y) → IfOk r (λ ad. WaitsAs t ad (seen_of y))
        by (Ok ad) is = waits_as t ad x y is
        by (Failed e) is = tt

    pub admit_starts : IfOk res (λ ad. ForOwner t x (λ m c. SeesAdmit m t c ad x y)) → IfOk res (λ ad. StartsOrWaits (view a n s)
        (ForOwn t (view a n s) (λ o. AdmitsTo o ad (view a n s) (view a n u))) (IsNotAfter ad) (WaitsAs t ad (seen_of u)))
    admit_starts sees = starts_or_waits (view a n s) _ _ _ res (admit_to sees) admit_first admit_after

    -- its job carries the volume's bytes
    pub admit_job : IfOk res (λ ad. ForOwner t x (λ m c. SeesAdmit m t c ad x y))
        → IfOk res (λ ad. IsJobOf t ad (view a n s) (modes_in u) (seen_of u))
    admit_job sees = by res admit_asks (admit_to sees)
      where
        sound : IsSound u
        sound = subst IsSound (sym left) admit_go.sound

        by : (r : Result Admit E) → IfOk r (λ ad. AsksAll ad (modes_in u))
            → IfOk r (λ ad. ForOwn t (view a n s) (λ o. AdmitsTo o ad (view a n s) (view a n u)))
            → IfOk r (λ ad. IsJobOf t ad (view a n s) (modes_in u) (seen_of u))
        by (Ok ad) asks to = record {
          asks = asks;
          bytes = λ o own. carries a n t o ad (view a n s) u sound own (open_as t (view a n s) admit_its o own) (to o own);
        }
        by (Failed e) asks to = tt

-- where it waits
pub admit_waits : (a : Bool) (n t : ℕ) (s x : State) → IsFound a n s x
    → ((o : OwnCall) × IsOwn t o (view a n s) × HasNotStarted o) → (i : ℕ) × IsWaitingAt x t i
admit_waits a n t s x found op =
    waits_at a n t x found.sound (found_open a n s x found t (waits_open t (view a n s) op)) op.2.waits

-- ---- taken back

module _ (a : Bool) (n t : ℕ) (s x y : State) (found : IsFound a n s x)
    (op : (o : OwnCall) × IsOwn t o (view a n s) × HasNotStarted o) (may : ForOwner t x (λ m c. MayGo m x y))
    (gone : (i : ℕ) × IsWaitingAt x t i × (y ≡ without_call x i)) where
  gone_its : HasOpen t (view a n s)
  gone_its = waits_open t (view a n s) op

  gone_go : MayGo n x y
  gone_go = found_may a n s x found t gone_its y may

  pub gone_owes : Owes n x y
  gone_owes = owes_by n x y gone_go (turns_withdrawn t x y gone) (kept_withdrawn t x y gone)

  module _ (u : State) (left : u ≡ y) where
    pub gone_free : IsFree n s → IsFree n u
    gone_free free = free_on a n s x found y u left free (turns_withdrawn t x y gone)

    pub gone_to : IsFree n s → ForOwner t x (λ m c. IsTakenBack m x y) → view a n u ≡ with_running (view a n s) []
    gone_to free sees =
        let mine = found_open a n s x found t gone_its in
        over a n s x y u found left (λ (m : Mine) (z : State). view a n z ≡ with_running m [])
        (gone_row a n x y gone_go (found_turns a n s x found free) (ap (λ (z : State). turning z n) gone.2)
        (sees n mine.0.call (opened a n t mine.0 x found.sound mine.1 mine.2)))

-- ---- on one replica

module _ (a : Bool) (n t r : ℕ) (boxes : List (Option (List ℕ))) (s x y : State) (found : IsFound a n s x)
    (res : Result (Unit {0}) NotThis)
    (op : (o : OwnCall) × IsOwn t o (view a n s) × IsStartedWrite o × AreBlocksOfCall o boxes)
    (may : ForOwner t x (λ m c. MayGo m x y))
    (ok : OnOk res ((i : ℕ) × IsWriteAt x t i × (y ≡ wrote x i r))) (err : OnErr res (y ≡ x)) where
  write_op : (o : OwnCall) × IsOwn t o (view a n s) × IsStartedWrite o
  write_op = (op.0, op.1, op.2)

  write_its : HasOpen t (view a n s)
  write_its = write_open t (view a n s) write_op

  pub write_go : MayGo n x y
  write_go = found_may a n s x found t write_its y may

  pub write_owes : Owes n x y
  write_owes = owes_by n x y write_go (turns_wrote t r x y res ok err) (kept_wrote t r x y res ok err)

  module _ (u : State) (left : u ≡ y) where
    pub write_free : IsFree n s → IsFree n u
    write_free free = free_on a n s x found y u left free (turns_wrote t r x y res ok err)

    write_same : OnErr res (view a n u ≡ view a n s)
    write_same = same_on a n s x found y u left res err

    write_to : OnOk res ((o : OwnCall) → IsOwn t o (view a n s) → TakesTo o r o.buffer (view a n s) (view a n u))
    write_to = over a n s x y u found left
        (λ (m : Mine) (z : State). OnOk res ((o : OwnCall) → IsOwn t o m → TakesTo o r o.buffer m (view a n z))) (by res ok)
      where
        by : (q : Result (Unit {0}) NotThis) → OnOk q ((i : ℕ) × IsWriteAt x t i × (y ≡ wrote x i r))
            → OnOk q ((o : OwnCall) → IsOwn t o (view a n x) → TakesTo o r o.buffer (view a n x) (view a n y))
        by (Ok v) d = λ o own.
            wrote_row a n t o r x y found.sound own (found_blocks a n s x found t write_its o own) d.0 d.1.stands d.2 write_go
        by (Failed e) d = tt

    write_why : IfErr res (core.AgainstWrite x t r) → IfErr res (AgainstTake (modes_in u) r)
    write_why why = over a n s x y u found left (λ (m : Mine) (z : State). IfErr res (AgainstTake (modes_in z) r))
        (takes_why a n t r x y found.sound res (op.0, found_in a n s x found (IsOwn t op.0) op.1, op.2) err why)

    pub write_does : IfErr res (core.AgainstWrite x t r) → Does res (view a n s) (view a n u)
        (λ v. ForOwn t (view a n s) (λ o. TakesTo o r o.buffer (view a n s) (view a n u))) (AgainstTake (modes_in u) r)
    write_does why = record { ok = write_to; why = write_why why; err = write_same }

-- what the core asks of the boxes
pub write_boxes : (a : Bool) (n t : ℕ) (boxes : List (Option (List ℕ))) (s x : State) → IsFound a n s x
    → ((o : OwnCall) × IsOwn t o (view a n s) × IsStartedWrite o × AreBlocksOfCall o boxes)
    → (i : ℕ) → IsWriteAt x t i → AreBlocksOfWrite (ticket_at x.tickets i) (open_at x.calls i) boxes
write_boxes a n t boxes s x found op =
    blocks_at a n t x found.sound (found_open a n s x found t (write_open t (view a n s) (op.0, op.1, op.2))) boxes op.3

-- ---- read

module _ (a : Bool) (n t r : ℕ) (from into : List ℕ) (s x y : State) (found : IsFound a n s x)
    (res : Result (Unit {0}) NotThis)
    (op : (o : OwnCall) × IsOwn t o (view a n s) × IsStartedRead o × (length from ≡ length o.buffer))
    (may : ForOwner t x (λ m c. MayGo m x y))
    (ok : OnOk res ((i : ℕ) × IsReadAt x t i × (y ≡ has_read x i r) × (into ≡ (open_at y.calls i).buffer)))
    (err : OnErr res (y ≡ x)) where
  read_op : (o : OwnCall) × IsOwn t o (view a n s) × IsStartedRead o
  read_op = (op.0, op.1, op.2)

  read_its : HasOpen t (view a n s)
  read_its = read_open t (view a n s) read_op

  read_go : MayGo n x y
  read_go = found_may a n s x found t read_its y may

  pub read_owes : Owes n x y
  read_owes = owes_by n x y read_go (turns_read t r into x y res ok err) (kept_read t r into x y res ok err)

  module _ (u : State) (left : u ≡ y) where
    pub read_free : IsFree n s → IsFree n u
    read_free free = free_on a n s x found y u left free (turns_read t r into x y res ok err)

    read_same : OnErr res (view a n u ≡ view a n s)
    read_same = same_on a n s x found y u left res err

    read_to : OnOk res ((o : OwnCall) → IsOwn t o (view a n s) → TakesTo o r into (view a n s) (view a n u))
    read_to = over a n s x y u found left
        (λ (m : Mine) (z : State). OnOk res ((o : OwnCall) → IsOwn t o m → TakesTo o r into m (view a n z))) (by res ok)
      where
        by : (q : Result (Unit {0}) NotThis)
            → OnOk q ((i : ℕ) × IsReadAt x t i × (y ≡ has_read x i r) × (into ≡ (open_at y.calls i).buffer))
            → OnOk q ((o : OwnCall) → IsOwn t o (view a n x) → TakesTo o r into (view a n x) (view a n y))
        by (Ok v) d = λ o own.
            has_read_row a n t o r into x y found.sound own (found_blocks a n s x found t read_its o own) d.0 d.1.stands
            d.2 d.3 read_go
        by (Failed e) d = tt

    read_why : IfErr res (core.AgainstRead x t r) → IfErr res (AgainstGive (modes_in u) r)
    read_why why = over a n s x y u found left (λ (m : Mine) (z : State). IfErr res (AgainstGive (modes_in z) r))
        (gives_why a n t r x y found.sound res (op.0, found_in a n s x found (IsOwn t op.0) op.1, op.2) err why)

    pub read_does : IfErr res (core.AgainstRead x t r) → Does res (view a n s) (view a n u)
        (λ v. ForOwn t (view a n s) (λ o. TakesTo o r into (view a n s) (view a n u))) (AgainstGive (modes_in u) r)
    read_does why = record { ok = read_to; why = read_why why; err = read_same }

-- what the core asks of the room
pub read_room : (a : Bool) (n t : ℕ) (from : List ℕ) (s x : State) → IsFound a n s x
    → ((o : OwnCall) × IsOwn t o (view a n s) × IsStartedRead o × (length from ≡ length o.buffer))
    → (i : ℕ) → IsReadAt x t i → length from ≡ (open_at x.calls i).length
read_room a n t from s x found op =
    buffer_at a n t x found.sound (found_open a n s x found t (read_open t (view a n s) (op.0, op.1, op.2))) from op.3

-- ---- acknowledged

module _ (a : Bool) (n t r : ℕ) (s x y : State) (found : IsFound a n s x) (res : Result (Unit {0}) NotThis)
    (op : (o : OwnCall) × IsOwn t o (view a n s) × HasStarted o) (may : ForOwner t x (λ m c. MayGo m x y))
    (ok : OnOk res ((i : ℕ) × IsCallAt x t i × IsTaken (part_at (open_at x.calls i).parts r) × (y ≡ acked x i r)))
    (err : OnErr res (y ≡ x)) where
  ack_its : HasOpen t (view a n s)
  ack_its = started_open t (view a n s) op

  pub ack_go : MayGo n x y
  ack_go = found_may a n s x found t ack_its y may

  pub ack_owes : Owes n x y
  ack_owes = owes_by n x y ack_go (turns_acked t r x y res ok err) (kept_acked t r x y res ok err)

  module _ (u : State) (left : u ≡ y) where
    pub ack_free : IsFree n s → IsFree n u
    ack_free free = free_on a n s x found y u left free (turns_acked t r x y res ok err)

    ack_same : OnErr res (view a n u ≡ view a n s)
    ack_same = same_on a n s x found y u left res err

    ack_to : OnOk res ((o : OwnCall) → IsOwn t o (view a n s) → AcksTo o r (view a n s) (view a n u))
    ack_to = over a n s x y u found left
        (λ (m : Mine) (z : State). OnOk res ((o : OwnCall) → IsOwn t o m → AcksTo o r m (view a n z))) (by res ok)
      where
        by : (q : Result (Unit {0}) NotThis)
            → OnOk q ((i : ℕ) × IsCallAt x t i × IsTaken (part_at (open_at x.calls i).parts r) × (y ≡ acked x i r))
            → OnOk q ((o : OwnCall) → IsOwn t o (view a n x) → AcksTo o r (view a n x) (view a n y))
        by (Ok v) d = λ o own.
            acked_row a n t o r x y found.sound own (found_blocks a n s x found t ack_its o own) d.0 d.1.stands d.3 ack_go
        by (Failed e) d = tt

    ack_why : IfErr res (core.AgainstAck x t r)
        → IfErr res (λ why. (o : OwnCall) → IsOwn t o (view a n s) → RefusesAck (modes_in u) o r why)
    ack_why why = over a n s x y u found left
        (λ (m : Mine) (z : State). IfErr res (λ why. (o : OwnCall) → IsOwn t o m → RefusesAck (modes_in z) o r why))
        (acks_why a n t r x y found.sound (op.0, found_in a n s x found (IsOwn t op.0) op.1, op.2) res err why)

    pub ack_does : IfErr res (core.AgainstAck x t r) → Does res (view a n s) (view a n u)
        (λ v. ForOwn t (view a n s) (λ o. AcksTo o r (view a n s) (view a n u)))
        (λ why. ForOwn t (view a n s) (λ o. RefusesAck (modes_in u) o r why))
    ack_does why = record { ok = ack_to; why = ack_why why; err = ack_same }

-- ---- ended

module _ (a : Bool) (n t : ℕ) (s x y : State) (found : IsFound a n s x) (res : Result ℕ NotThis)
    (op : (o : OwnCall) × IsOwn t o (view a n s) × HasStarted o) (may : ForOwner t x (λ m c. MayGo m x y))
    (ok : OnOk res (Completes x t y)) (err : OnErr res (y ≡ x)) where
  end_its : HasOpen t (view a n s)
  end_its = started_open t (view a n s) op

  end_go : MayGo n x y
  end_go = found_may a n s x found t end_its y may

  pub end_owes : Owes n x y
  end_owes = owes_by n x y end_go (turns_completed t x y res ok err) (kept_completed t x y res ok err)

  module _ (u : State) (left : u ≡ y) where
    pub end_free : IsFree n s → IsFree n u
    end_free free = free_on a n s x found y u left free (turns_completed t x y res ok err)

    end_same : OnErr res (view a n u ≡ view a n s)
    end_same = same_on a n s x found y u left res err

    end_to : IfOk res (λ place. ForOwner t x (λ m c. IsAnsweredTo m c x y))
        → OnOk res ((o : OwnCall) → IsOwn t o (view a n s) → Answers o (view a n s) (view a n u))
    end_to sees = over a n s x y u found left
        (λ (m : Mine) (z : State). OnOk res ((o : OwnCall) → IsOwn t o m → Answers o m (view a n z))) (by res ok sees)
      where
        by : (q : Result ℕ NotThis) → OnOk q (Completes x t y) → IfOk q (λ place. ForOwner t x (λ m c. IsAnsweredTo m c x y))
            → OnOk q ((o : OwnCall) → IsOwn t o (view a n x) → Answers o (view a n x) (view a n y))
        by (Ok place) d sees = λ o own.
            let blocks = found_blocks a n s x found t end_its o own in
            complete_row a n t o x y found.sound own blocks end_go d (sees n o.call (opened a n t o x found.sound own blocks))
        by (Failed e) d sees = tt

    end_why : IfErr res (core.AgainstEnd x t)
        → IfErr res (λ why. (o : OwnCall) → IsOwn t o (view a n s) → RefusesEnd (modes_in u) o why)
    end_why why = over a n s x y u found left
        (λ (m : Mine) (z : State). IfErr res (λ why. (o : OwnCall) → IsOwn t o m → RefusesEnd (modes_in z) o why))
        (ends_why a n t 0 x y found.sound (op.0, found_in a n s x found (IsOwn t op.0) op.1, op.2) res err why)

    pub end_does : IfOk res (λ place. ForOwner t x (λ m c. IsAnsweredTo m c x y)) → IfErr res (core.AgainstEnd x t)
        → Does res (view a n s) (view a n u) (λ place. ForOwn t (view a n s) (λ o. Answers o (view a n s) (view a n u)))
        (λ why. ForOwn t (view a n s) (λ o. RefusesEnd (modes_in u) o why))
    end_does sees why = record { ok = end_to sees; why = end_why why; err = end_same }

-- ---- a fault of its line

module _ (a : Bool) (n r count : ℕ) (s x y : State) (found : IsFound a n s x) (res : Result (Unit {0}) NotThis)
    (may : MayGo n x y) (ok : OnOk res (y ≡ faulted x n r count)) (err : OnErr res (y ≡ x)) where
  pub fault_owes : Owes n x y
  fault_owes = owes_by n x y may (turns_faulted n r count x y res ok err) (kept_faulted n r count x y res ok err)

  module _ (u : State) (left : u ≡ y) where
    pub fault_free : IsFree n s → IsFree n u
    fault_free free = free_on a n s x found y u left free (turns_faulted n r count x y res ok err)

    pub fault_same : OnErr res (view a n u ≡ view a n s)
    fault_same = same_on a n s x found y u left res err

    fault_to : IsFree n s → OnOk res (FaultsTo r count (view a n s) (view a n u))
    fault_to free = over a n s x y u found left (λ (m : Mine) (z : State). OnOk res (FaultsTo r count m (view a n z))) (by res ok)
      where
        by : (q : Result (Unit {0}) NotThis) → OnOk q (y ≡ faulted x n r count) → OnOk q (FaultsTo r count (view a n x) (view a n y))
        by (Ok v) e = fault_row a n r count x y may
            (λ alone. alone_calm n x found.sound (found.same alone).1 (found_turns a n s x found free)) e
        by (Failed e) is = tt

    pub fault_modes : OnOk res (mode_of (modes_in u) r ≡ Err)
    fault_modes = subst (λ (z : State). OnOk res (mode_of (modes_in z) r ≡ Err)) (sym left) (by res ok)
      where
        by : (q : Result (Unit {0}) NotThis) → OnOk q (y ≡ faulted x n r count) → OnOk q (mode_of (modes_in y) r ≡ Err)
        by (Ok v) e = (shows_fault n r count x y e).modes
        by (Failed e) is = tt

    pub fault_why : IfErr res (core.AgainstFault x n r count) → IfErr res (RefusesFault (modes_in u) (view a n s) r count)
    fault_why why = over a n s x y u found left (λ (m : Mine) (z : State). IfErr res (RefusesFault (modes_in z) m r count))
        (faults_why a n 0 r x y found.sound count res err why)

    pub fault_does : IsFree n s → IfErr res (core.AgainstFault x n r count) → Does res (view a n s) (view a n u)
        (λ v. FaultsTo r count (view a n s) (view a n u)) (RefusesFault (modes_in u) (view a n s) r count)
    fault_does free why = record { ok = fault_to free; why = fault_why why; err = fault_same }
