-- What a stream's backups tell of the target, entry after entry.
use Rattle.std.proofs.Common.{◌≡◌, ◌≢◌, ◌⊎◌, inl, inr, ⊎_elim, ℕ, ◌≤◌, Bool, true, false, arith, List, [], ◌∷◌, ◌++◌}
use Rattle.std.proofs.Common.{Option, Some, None, subst, sym, refl, ap, ◌∙◌, append_assoc, append-nil}
use Rattle.std.specs.Prelude.{All, Any, IsSome}
use Rattle.target_traits.specs.Objects.{Objects}
use Rattle.outer_traits.specs.Causes.{Rose, one_more}
use Rattle.backup_units.specs.Blocks.{KeepsBlocks}
use Rattle.backup_units.specs.Names.{cfg_name}
use Rattle.backup_make.specs.Made.{HasBackup}
use Rattle.backup_make.specs.Making.{HoldsAnotherPage}
use Rattle.backup_make.proofs.BackupLemmas.{backup_lasts}
use Rattle.volume_model.specs.declared.call.Call.TheVariants as call
use Rattle.volume_model.specs.declared.call.Reply.TheVariants as reply
use Rattle.volume_model.specs.declared.command.Command.{Command}
use Rattle.volume_model.specs.declared.command.Command.TheVariants as command
use Rattle.volume_model.specs.declared.entry.Answer.{Answer}
use Rattle.volume_model.specs.declared.entry.Entry.{Entry}
use Rattle.volume_model.specs.declared.entry.Entry.TheVariants as entry
use Rattle.volume_model.specs.PlainState.{copy_of}
use Rattle.volume_model.proofs.PurgeLemmas.{any_cases, any_later}
use Rattle.stream_steps.specs.Mine.{Mine, Placed, entries_in, with_entries, with_running}
use Rattle.stream_steps.proofs.MineLemmas.{entries-append}
use Rattle.control_worker.specs.OwnAnswers.{answers_in}
use Rattle.control_worker.specs.Serving.{GaveUp, GrewByCommand}
use Rattle.control_worker.specs.Store.{AreToldFrom, IsNoBackup, IsThere, IsToldAt, IsToldBy, IsWell, MakesBackup, StoreSoFar, TellsFault}
use Rattle.volume_model.specs.declared.call.Refusal.TheVariants as refusal
use Rattle.volume_model.specs.declared.call.Refusal.TheVariants.{BackupExists, NoSuchSnapshot, TargetFault}
use Rattle.volume_model.specs.declared.call.Reply.{Reply}
use Rattle.volume_model.specs.PlainStep.{refusal_of}
use Rattle.volume_model.proofs.PurgeLemmas.{any_here}
use Rattle.std.proofs.lemmas.List.Quantifiers.{Any-push}
use Rattle.backup_units.proofs.NameLemmas.{block_no_cfg}
use Rattle.std.specs.Str.{bytes_eq}
use Rattle.std.proofs.lemmas.Bool.{false≢true}
use Rattle.std.proofs.lemmas.Slice.Eq.{bytes_eq-Decides}
use Rattle.stream_steps.specs.Mine.{OwnCall, answer_placed}
use Rattle.stream_steps.specs.Backup.{HasBackup as HasBackupTurn, MayEndBackup}
use Rattle.control_worker.specs.Backups.{BacksUp, MayBeThere, StoreTells, count_for, tells_fault}
use Rattle.control_worker.specs.Whole.{GoesOn}
use Rattle.control_worker.proofs.InTurn.{TakesTurn}
use Rattle.std.proofs.Common.{Result, Ok, Err, IfOk, OnOk, ◌||◌}
use Rattle.control_worker.specs.Purges.{MayComeBefore}
use Rattle.control_worker.proofs.TurnLemmas.{grew_backup, such_free}
use Rattle.control_worker.proofs.OwnAnswers.{answers-last, none_answer}

-- ---- entries after entries

pub told_then : (first now : Objects) (volume : List ℕ) (well : Type 0) (before : List Entry) (ps qs : List Placed)
    → AreToldFrom first now volume well before ps → AreToldFrom first now volume well (before ++ entries_in ps) qs
    → AreToldFrom first now volume well before (ps ++ qs)
told_then first now volume well before [] qs f k =
    subst (λ es. AreToldFrom first now volume well es qs) (append-nil before) k
told_then first now volume well before (p ∷ ps) qs f k = (
  f.0,
  told_then first now volume well (before ++ p.entry ∷ []) ps qs f.1
      (subst (λ es. AreToldFrom first now volume well es qs) (sym (append_assoc before (p.entry ∷ []) (entries_in ps))) k),
)

-- no answer is one of a backup
abbrev NoBackups : List Answer → Type 0
NoBackups [] = Unit {0}
NoBackups (a ∷ more) = ((backup snapshot : List ℕ) → a.call ≡ call.Command (command.Backup backup snapshot) → ⊥) × NoBackups more

pub told_none : (first now : Objects) (volume : List ℕ) (well : Type 0) (before : List Entry) (ps : List Placed)
    → NoBackups (answers_in (entries_in ps)) → AreToldFrom first now volume well before ps
told_none first now volume well before [] none = tt
told_none first now volume well before (p ∷ ps) none =
    by p.entry refl none (λ n. told_none first now volume well (before ++ p.entry ∷ []) ps n)
  where
    by : (e : Entry) → p.entry ≡ e → NoBackups (answers_in (e ∷ entries_in ps))
        → (NoBackups (answers_in (entries_in ps)) → AreToldFrom first now volume well (before ++ p.entry ∷ []) ps)
        → AreToldFrom first now volume well before (p ∷ ps)
    by (entry.Answer a) is n rest = (
      λ x backup snapshot e c. absurd (n.0 backup snapshot (ap (λ (y : Answer). y.call) (same_answer a x (sym is ∙ e)) ∙ c)),
      rest n.1,
    )
      where
        same_answer : (a x : Answer) → entry.Answer a ≡ entry.Answer x → a ≡ x
        same_answer a x e = cc
    by (entry.Mark m) is n rest = (
      λ x backup snapshot e c. absurd (no_mark x (sym is ∙ e)),
      rest n,
    )
      where
        no_mark : (x : Answer) → entry.Mark m ≡ entry.Answer x → ⊥
        no_mark x e = cc

-- ---- what was there is there

some_of : (o : Option (List ℕ)) → IsSome o → (bytes : List ℕ) × (o ≡ Some bytes)
some_of None some = absurd cc
some_of (Some bytes) some = (bytes, refl)

-- cfgs that are there stay
abbrev pub CfgsStay : List ℕ → Objects → Objects → Type 0
CfgsStay volume old new =
    (backup bytes : List ℕ) → old (cfg_name volume backup) ≡ Some bytes → new (cfg_name volume backup) ≡ Some bytes

backup_still : (old new : Objects) (volume backup disk : List ℕ) → KeepsBlocks volume old new → CfgsStay volume old new
    → HasBackup old volume backup disk → HasBackup new volume backup disk
backup_still old new volume backup disk keeps stay has =
    backup_lasts old new volume backup disk keeps (stay backup _ has.there ∙ sym has.there) has

another_still : (old new : Objects) (volume : List ℕ) (copy : Option (List ℕ)) (checksum : List ℕ) → KeepsBlocks volume old new
    → HoldsAnotherPage old volume copy checksum → HoldsAnotherPage new volume copy checksum
another_still old new volume copy checksum keeps h disk is =
    let page = h disk is in (
      page.0,
      page.1,
      record {
        listed = page.2.listed;
        other = (page.2.other.0, keeps checksum page.2.other.0 page.2.other.1, page.2.other.2);
      },
    )

pub told_still : (first old new : Objects) (volume : List ℕ) (well well2 : Type 0) (before : List Entry) (ps : List Placed)
    → KeepsBlocks volume old new → CfgsStay volume old new → (well2 → well)
    → AreToldFrom first old volume well before ps → AreToldFrom first new volume well2 before ps
told_still first old new volume well well2 before [] keeps stay on told = tt
told_still first old new volume well well2 before (p ∷ ps) keeps stay on told = (
  λ a backup snapshot is c.
      let t = told.0 a backup snapshot is c in
      record {
        made = λ e. backup_still old new volume backup _ keeps stay (t.made e);
        exists = λ w. t.exists (on w);
        there = t.there;
        differs = λ e. let d = t.differs e in (d.0, another_still old new volume _ d.0 keeps d.1);
        failed = λ e w. t.failed e (on w);
      },
  told_still first old new volume well well2 (before ++ p.entry ∷ []) ps keeps stay on told.1,
)

-- a backup that was made since has its cfg
made_there : (first now : Objects) (volume : List ℕ) (well : Type 0) (before : List Entry) (ps : List Placed) (backup : List ℕ)
    → AreToldFrom first now volume well before ps → Any (MakesBackup backup) (entries_in ps) → IsSome (now (cfg_name volume backup))
made_there first now volume well before [] backup told any = absurd (omega (arith, any.2))
made_there first now volume well before (p ∷ ps) backup told any =
    ⊎_elim (at p.entry refl) (made_there first now volume well (before ++ p.entry ∷ []) ps backup told.1)
    (any_cases (MakesBackup backup) p.entry (entries_in ps) any)
  where
    at : (e : Entry) → p.entry ≡ e → MakesBackup backup e → IsSome (now (cfg_name volume backup))
    at (entry.Answer a) is h =
        let has = (told.0 a backup h.0 is h.1).made h.2 in
        subst IsSome (sym has.there) refl
    at (entry.Mark m) is h = absurd h

-- ---- one answer more

any_left : {X : Type 0} (P : X → Type 0) (xs ys : List X) → Any P xs → Any P (xs ++ ys)
any_left P [] ys h = absurd (omega (arith, h.2))
any_left P (x ∷ xs) ys h =
    ⊎_elim (λ here. any_here P x (xs ++ ys) here) (λ more. any_later P x (xs ++ ys) (any_left P xs ys more)) (any_cases P x xs h)

there_still : (first : Objects) (volume : List ℕ) (xs ys : List Entry) (backup : List ℕ) → IsThere first volume xs backup
    → IsThere first volume (xs ++ ys) backup
there_still first volume xs ys backup (inl was) = inl was
there_still first volume xs ys backup (inr made) = inr (any_left (MakesBackup backup) xs ys made)

none_of : (stream : ℕ) (ps : List Placed) (marks : List Entry) → answers_in (entries_in ps) ≡ answers_in marks
    → All (MayComeBefore stream) marks → NoBackups (answers_in (entries_in ps))
none_of stream ps marks same are = subst NoBackups (sym (same ∙ none_answer stream marks are)) tt

same_or : (a b : List ℕ) → (a ≡ b) ⊎ (a ≢ b)
same_or a b = by (bytes_eq a b) refl
  where
    by : (t : Bool) → bytes_eq a b ≡ t → (a ≡ b) ⊎ (a ≢ b)
    by true e = inl ((bytes_eq-Decides a b).0 e)
    by false e = inr (λ is. false≢true (sym e ∙ (bytes_eq-Decides a b).1 is))

-- a target that failed is not well
well_not : (from before now : ℕ) → from ≤ before → now ≡ one_more before → IsWell from now → ⊥
well_not from before now later is well = omega (arith, later, is, well)

module _ (tells : Bool) (volume backup snapshot : List ℕ) (o : OwnCall) (failed : Bool) (old new : Objects) (before now : ℕ)
    (m m2 : Mine) (s : BacksUp tells volume backup snapshot o failed old new before now m m2) (so : tells ≡ true)
    (asks : o.call ≡ call.Command (command.Backup backup snapshot)) (first : Objects) (from : ℕ)
    (far : StoreSoFar first from old before volume m.entries) where
  abbrev t : StoreTells volume backup (Some (copy_of s.answers.spot.state.volume.copies snapshot)) s.said old new
  t = s.store so

  abbrev placed : Placed
  placed = answer_placed s.answers.spot s.answers.answer

  abbrev own : List Placed
  own = s.goes.own

  entries_are : m2.entries ≡ (m.entries ++ own) ++ placed ∷ []
  entries_are = ap (λ (x : Mine). x.entries) s.answers.is ∙ ap (λ (x : Mine). x.entries ++ placed ∷ []) s.goes.is

  later_now : before ≤ now
  later_now = s.later

  wells : IsWell from now → IsWell from before
  wells well = omega (arith, well, later_now)

  cfgs_stay : CfgsStay volume old new
  cfgs_stay b bytes is = ⊎_elim
      (λ (same : b ≡ backup). ap (λ n. new (cfg_name volume n)) same
      ∙ t.there (subst IsSome (sym (ap (λ n. old (cfg_name volume n)) (sym same) ∙ is)) refl)
      ∙ ap (λ n. old (cfg_name volume n)) (sym same) ∙ is)
      (λ other. t.keeps.cfgs b other ∙ is) (same_or b backup)

  told_before : AreToldFrom first old volume (IsWell from before) [] (m.entries ++ own)
  told_before = told_then first old volume (IsWell from before) [] m.entries own far.told
      (told_none first old volume (IsWell from before) (entries_in m.entries) own
      (none_of m.stream own s.goes.marks s.goes.same s.goes.falls.come))

  was_there : IsThere first volume (entries_in (m.entries ++ own)) backup → IsSome (old (cfg_name volume backup))
  was_there (inl was) =
      let bytes = some_of (first (cfg_name volume backup)) was in
      subst IsSome (sym (far.kept backup bytes.0 bytes.1)) refl
  was_there (inr made) = made_there first old volume (IsWell from before) [] (m.entries ++ own) backup told_before made

  said_now : IsToldBy first new volume (IsWell from now) (entries_in (m.entries ++ own)) s.answers.spot backup snapshot s.said
  said_now = record {
    made = λ e. t.made e _ refl;
    exists = λ well e. subst (λ es. IsThere first volume es backup) (sym (entries-append m.entries own))
        (there_still first volume (entries_in m.entries) (entries_in own) backup (far.cfgs (wells well) backup (t.exists e)));
    there = λ free was. one_of_both s.said (t.found (was_there was)) s.may free;
    differs = t.differs;
    failed = λ e well. well_not from before now far.later (s.count ∙ ap (λ r. count_for r before) e) well;
  }
    where
      one_of_both : (r : Reply) → MayBeThere r → MayEndBackup s.answers.spot o.call r
          → refusal_of s.answers.spot.modes s.answers.spot.state (call.Command (command.Backup backup snapshot)) ≡ None
          → (r ≡ reply.Refused BackupExists) ⊎ (r ≡ reply.Refused TargetFault)
      one_of_both (reply.Refused refusal.TooLong) may ends free = absurd may
      one_of_both (reply.Refused refusal.OutOfRange) may ends free = absurd may
      one_of_both (reply.Refused refusal.Unsupported) may ends free = absurd may
      one_of_both (reply.Refused refusal.NameUsed) may ends free = absurd may
      one_of_both (reply.Refused refusal.ChainFull) may ends free = absurd may
      one_of_both (reply.Refused refusal.NoSuchSnapshot) may ends free = absurd (such_free backup snapshot s.answers.spot
          (subst (λ c. MayEndBackup s.answers.spot c (reply.Refused NoSuchSnapshot)) asks ends) free)
      one_of_both (reply.Refused refusal.NoReplica) may ends free = absurd may
      one_of_both (reply.Refused refusal.InUse) may ends free = absurd may
      one_of_both (reply.Refused refusal.BackupExists) may ends free = inl refl
      one_of_both (reply.Refused refusal.BlockDiffers) may ends free = absurd may
      one_of_both (reply.Refused refusal.TargetFault) may ends free = inr refl
      one_of_both reply.Done may ends free = absurd may
      one_of_both (reply.Read bytes) may ends free = absurd may
      one_of_both (reply.Status layers modes) may ends free = absurd may
      one_of_both (reply.Aborted place) may ends free = absurd may

  told_here : IsToldAt first new volume (IsWell from now) (entries_in (m.entries ++ own)) placed
  told_here a b n is asked =
      let same : s.answers.answer ≡ a = answer_same s.answers.answer a is in
      let both = names_same backup snapshot b n
      (sym asks ∙ sym s.answers.call ∙ ap (λ (x : Answer). x.call) same ∙ asked) in
      subst (λ r. IsToldBy first new volume (IsWell from now) (entries_in (m.entries ++ own)) s.answers.spot b n r)
      (sym s.answers.reply ∙ ap (λ (x : Answer). x.reply) same)
      (subst (λ x. IsToldBy first new volume (IsWell from now) (entries_in (m.entries ++ own)) s.answers.spot b x s.said) both.1
      (subst (λ x. IsToldBy first new volume (IsWell from now) (entries_in (m.entries ++ own)) s.answers.spot x snapshot s.said)
      both.0 said_now))
    where
      answer_same : (x y : Answer) → entry.Answer x ≡ entry.Answer y → x ≡ y
      answer_same x y e = cc

      names_same : (b n b2 n2 : List ℕ) → call.Command (command.Backup b n) ≡ call.Command (command.Backup b2 n2)
          → (b ≡ b2) × (n ≡ n2)
      names_same b n b2 n2 e = (cc, cc)

  told_all : AreToldFrom first new volume (IsWell from now) [] m2.entries
  told_all = subst (AreToldFrom first new volume (IsWell from now) []) (sym entries_are)
      (told_then first new volume (IsWell from now) [] (m.entries ++ own) (placed ∷ [])
      (told_still first old new volume (IsWell from before) (IsWell from now) [] (m.entries ++ own) t.keeps.blocks cfgs_stay wells
      told_before)
      (told_here, tt))

  kept_there : (b : List ℕ) → IsThere first volume (entries_in m.entries) b → IsThere first volume (entries_in m2.entries) b
  kept_there b was = subst (λ (ps : List Placed). IsThere first volume (entries_in ps) b) (sym entries_are)
      (subst (λ es. IsThere first volume es b) (sym (entries-append (m.entries ++ own) (placed ∷ [])))
      (there_still first volume (entries_in (m.entries ++ own)) (entries_in (placed ∷ [])) b
      (subst (λ es. IsThere first volume es b) (sym (entries-append m.entries own))
      (there_still first volume (entries_in m.entries) (entries_in own) b was))))

  done_there : s.said ≡ reply.Done → IsThere first volume (entries_in m2.entries) backup
  done_there done = subst (λ (ps : List Placed). IsThere first volume (entries_in ps) backup) (sym entries_are)
      (subst (λ es. IsThere first volume es backup) (sym (entries-append (m.entries ++ own) (placed ∷ [])))
      (inr (Any-push (MakesBackup backup) (entries_in (m.entries ++ own)) (entry.Answer s.answers.answer)
      (snapshot, s.answers.call ∙ asks, s.answers.reply ∙ done))))

  done_or : (r : Reply) → (r ≡ reply.Done) ⊎ (r ≢ reply.Done)
  done_or reply.Done = inl refl
  done_or (reply.Refused w) = inr (λ e. cc)
  done_or (reply.Read bytes) = inr (λ e. cc)
  done_or (reply.Status layers modes) = inr (λ e. cc)
  done_or (reply.Aborted place) = inr (λ e. cc)

  cfgs_now : IsWell from now → (b : List ℕ) → IsSome (new (cfg_name volume b)) → IsThere first volume (entries_in m2.entries) b
  cfgs_now well b some = ⊎_elim
      (λ (same : b ≡ backup). subst (λ x. IsThere first volume (entries_in m2.entries) x) (sym same)
      (⊎_elim done_there
      (λ not. kept_there backup (far.cfgs (wells well) backup
      (subst IsSome (t.unmade not (λ fault. well_not from before now far.later (s.count ∙ ap (λ r. count_for r before) fault) well)
      (cfg_name volume backup) (λ c e. block_no_cfg volume c backup (sym e)))
      (subst (λ x. IsSome (new (cfg_name volume x))) same some)))) (done_or s.said)))
      (λ other. kept_there b (far.cfgs (wells well) b (subst IsSome (t.keeps.cfgs b other) some))) (same_or b backup)

  pub store_backup : StoreSoFar first from new now volume m2.entries
  store_backup = record {
    told = told_all;
    cfgs = cfgs_now;
    blocks = λ sum bytes h. t.keeps.blocks sum bytes (far.blocks sum bytes h);
    kept = λ b bytes is. cfgs_stay b bytes (far.kept b bytes is);
    others = λ name a b c. t.others name a (b backup) c ∙ far.others name a b c;
    later = omega (arith, far.later, later_now);
  }

-- ---- a command that is no backup

no_backup_call : (c : Command) → IsNoBackup c → (backup snapshot : List ℕ)
    → call.Command c ≡ call.Command (command.Backup backup snapshot) → ⊥
no_backup_call (command.Backup b n) not backup snapshot e = absurd not
no_backup_call (command.Snapshot name) not backup snapshot e = cc
no_backup_call (command.Remove name) not backup snapshot e = cc
no_backup_call (command.Revert name) not backup snapshot e = cc
no_backup_call command.Purge not backup snapshot e = cc
no_backup_call command.Status not backup snapshot e = cc
no_backup_call (command.Fail r) not backup snapshot e = cc
no_backup_call (command.Add r) not backup snapshot e = cc

pub store_other : (c : Command) → IsNoBackup c → (first : Objects) (from : ℕ) (now : Objects) (count : ℕ) (volume : List ℕ) (a b : Mine)
    → GrewByCommand c a b → StoreSoFar first from now count volume a.entries → StoreSoFar first from now count volume b.entries
store_other c not first from now count volume a b g far =
    let answers : answers_in (entries_in g.own) ≡ g.done.answer ∷ [] =
    g.same ∙ ap answers_in g.done.is ∙ answers-last a.stream g.done.marks g.done.answer g.done.are in
    let none : NoBackups (answers_in (entries_in g.own)) = subst NoBackups (sym answers)
    ((λ backup snapshot e. no_backup_call c not backup snapshot (sym g.done.call ∙ e)), tt) in
    let more : b.entries ≡ a.entries ++ g.own = ap (λ (m : Mine). m.entries) g.is in
    subst (StoreSoFar first from now count volume) (sym more) (record {
      told = told_then first now volume (IsWell from count) [] a.entries g.own far.told
          (told_none first now volume (IsWell from count) (entries_in a.entries) g.own none);
      cfgs = λ well backup some. subst (λ es. IsThere first volume es backup) (sym (entries-append a.entries g.own))
          (there_still first volume (entries_in a.entries) (entries_in g.own) backup (far.cfgs well backup some));
      blocks = far.blocks;
      kept = far.kept;
      others = far.others;
      later = far.later;
    })

-- ---- whether it failed

said_fault : (r : Reply) (before now : ℕ) → now ≡ count_for r before → TellsFault (tells_fault r) before now
said_fault (reply.Refused refusal.TooLong) before now is = is
said_fault (reply.Refused refusal.OutOfRange) before now is = is
said_fault (reply.Refused refusal.Unsupported) before now is = is
said_fault (reply.Refused refusal.NameUsed) before now is = is
said_fault (reply.Refused refusal.ChainFull) before now is = is
said_fault (reply.Refused refusal.NoSuchSnapshot) before now is = is
said_fault (reply.Refused refusal.NoReplica) before now is = is
said_fault (reply.Refused refusal.InUse) before now is = is
said_fault (reply.Refused refusal.BackupExists) before now is = is
said_fault (reply.Refused refusal.BlockDiffers) before now is = is
said_fault (reply.Refused refusal.TargetFault) before now is = omega (arith, is)
said_fault reply.Done before now is = is
said_fault (reply.Read bytes) before now is = is
said_fault (reply.Status layers modes) before now is = is
said_fault (reply.Aborted place) before now is = is

pub fault_told : (r : Reply) (failed : Bool) (before now : ℕ) → failed ≡ tells_fault r → now ≡ count_for r before
    → TellsFault failed before now
fault_told r failed before now told is = subst (λ b. TellsFault b before now) (sym told) (said_fault r before now is)

pub fault_then : (f k : Bool) (a b c : ℕ) → a ≤ b → b ≤ c → TellsFault f a b → TellsFault k b c → TellsFault (f || k) a c
fault_then true k a b c low high f h = omega (arith, f, high)
fault_then false true a b c low high f h = subst (λ n. Rose n c) f h
fault_then false false a b c low high f h = h ∙ f

-- ---- a backup under its turn

pub ok_grew : {E : Type 0} (res : Result Bool E) (t : ℕ) (tells : Bool) (volume backup snapshot : List ℕ) (old new : Objects)
    (before now : ℕ) (a c d : Mine) → TakesTurn t (command.Backup backup snapshot) a c
    → IfOk res (λ failed. (o : OwnCall) → HasBackupTurn t backup snapshot o c
    → BacksUp tells volume backup snapshot o failed old new before now c d)
    → OnOk res (GrewByCommand (command.Backup backup snapshot) a d)
ok_grew (Ok failed) t tells volume backup snapshot old new before now a c d k h =
    grew_backup backup snapshot t tells volume failed old new before now a c d k (h k.own k.has)
ok_grew (Err e) t tells volume backup snapshot old new before now a c d k h = tt

pub ok_store : {E : Type 0} (res : Result Bool E) (t : ℕ) (tells : Bool) (volume backup snapshot : List ℕ) (old new : Objects)
    (before now : ℕ) (a c d : Mine) → TakesTurn t (command.Backup backup snapshot) a c
    → IfOk res (λ failed. (o : OwnCall) → HasBackupTurn t backup snapshot o c
    → BacksUp tells volume backup snapshot o failed old new before now c d)
    → OnOk res (tells ≡ true → (first : Objects) (from : ℕ) → StoreSoFar first from old before volume a.entries
    → StoreSoFar first from new now volume d.entries)
ok_store (Ok failed) t tells volume backup snapshot old new before now a c d k h = λ so first from far.
    store_backup tells volume backup snapshot k.own failed old new before now c d (h k.own k.has) so k.call first from
    (subst (StoreSoFar first from old before volume) (sym (ap (λ (m : Mine). m.entries) k.is)) far)
ok_store (Err e) t tells volume backup snapshot old new before now a c d k h = tt

pub ok_fault : {E : Type 0} (res : Result Bool E) (t : ℕ) (tells : Bool) (volume backup snapshot : List ℕ) (old new : Objects)
    (before now : ℕ) (a c d : Mine) → TakesTurn t (command.Backup backup snapshot) a c
    → IfOk res (λ failed. (o : OwnCall) → HasBackupTurn t backup snapshot o c
    → BacksUp tells volume backup snapshot o failed old new before now c d)
    → IfOk res (λ failed. TellsFault failed before now)
ok_fault (Ok failed) t tells volume backup snapshot old new before now a c d k h =
    let s = h k.own k.has in
    fault_told s.said failed before now s.failed_is s.count
ok_fault (Err e) t tells volume backup snapshot old new before now a c d k h = tt

pub gave_back : (t : ℕ) (x : Command) (a c d f : Mine) → TakesTurn t x a c → GoesOn c d → f ≡ with_running d [] → GaveUp a f
gave_back t x a c d f k g e = record {
  own = g.own;
  marks = g.marks;
  is = e ∙ ap (λ (m : Mine). with_running m []) g.is ∙ ap (λ (m : Mine). with_entries m g.own g.marks []) k.is;
  same = g.same;
  are = subst (λ n. All (MayComeBefore n) g.marks) (ap (λ (m : Mine). m.stream) k.is) g.falls.come;
}

pub ok_other : {E : Type 0} (res : Result (Unit {0}) E) (c : Command) → IsNoBackup c → (now : Objects) (count : ℕ) (volume : List ℕ)
    (a b : Mine) → OnOk res (GrewByCommand c a b)
    → OnOk res ((first : Objects) (from : ℕ) → StoreSoFar first from now count volume a.entries
    → StoreSoFar first from now count volume b.entries)
ok_other (Ok u) c not now count volume a b g = λ first from far. store_other c not first from now count volume a b g far
ok_other (Err e) c not now count volume a b g = tt
