-- A backup is answered as one worker answers it there, where no line failed, by what its store told.
use Rattle.std.proofs.Common.{◌≡◌, ℕ, Bool, true, List, [], ◌∷◌, ◌++◌, Option, Some, None, IfSome, subst, sym, refl, ap, ◌∙◌}
use Rattle.std.specs.Option.{option_or}
use Rattle.std.specs.Prelude.{All}
use Rattle.target_traits.specs.Objects.{Objects}
use Rattle.volume_model.specs.declared.call.Call.{Call}
use Rattle.volume_model.specs.declared.call.Call.TheVariants as call
use Rattle.volume_model.specs.declared.call.Refusal.{Refusal}
use Rattle.volume_model.specs.declared.call.Refusal.TheVariants.{NoSuchSnapshot, NoReplica, BackupExists, BlockDiffers, TargetFault}
use Rattle.volume_model.specs.declared.call.Reply.{Reply}
use Rattle.volume_model.specs.declared.call.Reply.TheVariants as reply
use Rattle.volume_model.specs.declared.command.Command.TheVariants as command
use Rattle.volume_model.specs.declared.entry.Answer.{Answer}
use Rattle.volume_model.specs.declared.entry.Entry.{Entry}
use Rattle.volume_model.specs.declared.entry.Entry.TheVariants as entry
use Rattle.volume_model.specs.History.{Spot}
use Rattle.volume_model.specs.Modes.{HasSource, source_of}
use Rattle.volume_model.specs.OneWorker.{Against, Exists, Differs, Fails, marks_unless, refused_by, reply_for}
use Rattle.volume_model.specs.OneWorker.{store_refusal, want_of_replica, entries_by}
use Rattle.volume_model.specs.PlainStep.{refusal_of}
use Rattle.volume_model.proofs.OnlyServed.{with_source}
use Rattle.stream_steps.specs.Mine.{Mine, Log, answer_placed, length_of, longer, with_entries, with_more}
use Rattle.stream_steps.specs.Steps.{AreMarks}
use Rattle.stream_steps.specs.Backup.{MayEndBackup}
use Rattle.stream_steps.proofs.MineLemmas.{entries_twice, longer_none}
use Rattle.control_worker.specs.Backups.{BacksUp}
use Rattle.control_worker.specs.Purges.{MayComeBefore}
use Rattle.control_worker.specs.Serving.{GrewByCommand, IsCommandBy}
use Rattle.control_worker.specs.Store.{told_by}
use Rattle.control_worker.proofs.AnswerLemmas.{known}
use Rattle.control_worker.proofs.InTurn.{TakesTurn}
use Rattle.control_worker.proofs.OwnAnswers.{has_both}

-- ---- what stands against it

some_same : (a b : Refusal) → Some a ≡ Some b → a ≡ b
some_same a b e = cc

module _ (backup snapshot : List ℕ) where
  abbrev asked : Call
  asked = call.Command (command.Backup backup snapshot)

  -- there is no replica, and no other reason
  wanted : (source : Option ℕ) (why : Refusal) → want_of_replica true source ≡ Some why
      → option_or (store_refusal (told_by (reply.Refused why)) asked) (want_of_replica true source) ≡ Some why
  wanted None why e =
      subst (λ w. option_or (store_refusal (told_by (reply.Refused w)) asked) (Some NoReplica) ≡ Some w) (some_same NoReplica why e) refl
  wanted (Some r) why e = absurd cc

  -- what the answer tells of the store stands against it just so
  told_right : (first : Option Refusal) (told : Option Against) (source : Option ℕ) (why : Refusal)
      → option_or first (option_or (store_refusal told asked) (want_of_replica true source)) ≡ Some why
      → option_or first (option_or (store_refusal (told_by (reply.Refused why)) asked) (want_of_replica true source)) ≡ Some why
  told_right (Some w) told source why e = e
  told_right None None source why e = wanted source why e
  told_right None (Some Exists) source why e = subst
      (λ w. option_or (store_refusal (told_by (reply.Refused w)) asked) (want_of_replica true source) ≡ Some w)
      (some_same BackupExists why e) refl
  told_right None (Some Differs) source why e = subst
      (λ w. option_or (store_refusal (told_by (reply.Refused w)) asked) (want_of_replica true source) ≡ Some w)
      (some_same BlockDiffers why e) refl
  told_right None (Some Fails) source why e = subst
      (λ w. option_or (store_refusal (told_by (reply.Refused w)) asked) (want_of_replica true source) ≡ Some w)
      (some_same TargetFault why e) refl

  -- that the snapshot cannot be used is told by the volume alone
  not_such : (told : Option Against) (source : Option ℕ)
      → option_or (store_refusal told asked) (want_of_replica true source) ≡ Some NoSuchSnapshot → ⊥
  not_such None None e = cc
  not_such None (Some r) e = cc
  not_such (Some Exists) source e = cc
  not_such (Some Differs) source e = cc
  not_such (Some Fails) source e = cc

  pub such_free : (spot : Spot) → MayEndBackup spot asked (reply.Refused NoSuchSnapshot)
      → refusal_of spot.modes spot.state asked ≡ None → ⊥
  such_free spot may free = not_such may.0 (source_of spot.modes)
      (subst (λ x. option_or x (option_or (store_refusal may.0 asked) (want_of_replica true (source_of spot.modes))) ≡ Some NoSuchSnapshot)
      free may.1)

  backup_reply : (spot : Spot) (r : Reply) → MayEndBackup spot asked r → (r ≡ reply.Done → HasSource spot.modes)
      → r ≡ reply_for (refused_by (told_by r) spot asked) spot asked
  backup_reply spot reply.Done may source =
      sym (ap (λ w. reply_for w spot asked) (with_source spot asked (source refl) ∙ may))
  backup_reply spot (reply.Refused why) may source =
      sym (ap (λ w. reply_for w spot asked)
      (told_right (refusal_of spot.modes spot.state asked) may.0 (source_of spot.modes) why may.1))
  backup_reply spot (reply.Read bytes) may source = absurd may
  backup_reply spot (reply.Status layers modes) may source = absurd may
  backup_reply spot (reply.Aborted place) may source = absurd may

  no_marks : (why : Option Refusal) (spot : Spot) → marks_unless why spot asked ≡ []
  no_marks None spot = refl
  no_marks (Some w) spot = refl

  one_worker : (spot : Spot) (stream place : ℕ) (a : Answer) (marks : List Entry) → marks ≡ [] → MayEndBackup spot asked a.reply
      → (a.reply ≡ reply.Done → HasSource spot.modes) → a.call ≡ asked → a.saw ≡ place → a.stream ≡ stream
      → marks ++ entry.Answer a ∷ [] ≡ entries_by (told_by a.reply) spot stream place a.index asked
  one_worker spot stream place a marks none may source is saw by =
      let why = refused_by (told_by a.reply) spot asked in
      let says = backup_reply spot a.reply may source in
      λ i. (none ∙ sym (no_marks why spot)) i
      ++ entry.Answer (record { call = is i; reply = says i; index = a.index; saw = saw i; stream = by i }) ∷ []

  -- ---- from its call to its answer

  pub grew_backup : (t : ℕ) (tells : Bool) (volume : List ℕ) (failed : Bool) (old new : Objects) (before now : ℕ) (a c d : Mine)
      → (k : TakesTurn t (command.Backup backup snapshot) a c)
      → BacksUp tells volume backup snapshot k.own failed old new before now c d
      → GrewByCommand (command.Backup backup snapshot) a d
  grew_backup t tells volume failed old new before now a c d k s =
      let g = s.goes in
      let w = s.answers in
      let own = g.own ++ answer_placed w.spot w.answer ∷ [] in
      let all = g.marks ++ entry.Answer w.answer ∷ [] in
      let stream : c.stream ≡ a.stream = ap (λ (m : Mine). m.stream) k.is in
      let by : w.answer.stream ≡ a.stream = w.by ∙ ap (λ (m : Mine). m.stream) g.is ∙ stream in
      let seen : IfSome a.log (λ l. w.answer.saw ≡ length_of l) = known a.log k.own.saw w.answer.saw w.saw k.saw in
      record {
        own = own;
        all = all;
        is = w.is ∙ ap (λ (m : Mine). with_more m (answer_placed w.spot w.answer ∷ []) []) g.is
            ∙ entries_twice c g.own (answer_placed w.spot w.answer ∷ []) g.marks (entry.Answer w.answer ∷ []) c.running []
            ∙ ap (λ (m : Mine). with_entries m own all []) k.is;
        same = has_both g.own (answer_placed w.spot w.answer ∷ []) g.marks (entry.Answer w.answer ∷ []) g.same refl;
        done = record {
          marks = g.marks;
          answer = w.answer;
          is = refl;
          are = subst (λ n. All (MayComeBefore n) g.marks) stream g.falls.come;
          call = w.call ∙ k.call;
          by = by;
          saw = seen;
          turn = at a.log (ap (λ (m : Mine). m.log) (sym k.is)) by seen;
        };
      }
    where
      at : (log : Option Log) → log ≡ c.log → s.answers.answer.stream ≡ a.stream → IfSome log (λ l. s.answers.answer.saw ≡ length_of l)
          → IfSome log (λ l. AreMarks s.goes.marks → IsCommandBy a.stream (command.Backup backup snapshot)
          (s.goes.marks ++ entry.Answer s.answers.answer ∷ []) s.answers.answer l)
      at None is by saw = tt
      at (Some l) is by saw = λ are.
          let none = s.goes.falls.none are in
          let w = s.answers in
          let same : s.mid.log ≡ Some l = ap (λ (m : Mine). m.log) s.goes.is ∙ (λ i. longer (sym is i) (none i)) ∙ longer_none (Some l) in
          let here : l.spot ≡ w.spot = subst (λ x. IfSome x (λ (y : Log). y.spot ≡ w.spot)) same w.here in
          let may : MayEndBackup l.spot asked w.answer.reply =
          subst (λ x. MayEndBackup x asked w.answer.reply) (sym here)
          (subst (λ r. MayEndBackup w.spot asked r) (sym w.reply) (subst (λ x. MayEndBackup w.spot x s.said) k.call s.may)) in
          one_worker l.spot a.stream (length_of l) w.answer s.goes.marks none may
          (λ done. subst (λ x. IfSome x (λ (y : Log). AreMarks s.goes.marks → HasSource y.spot.modes)) (sym is)
          (s.source (sym w.reply ∙ done)) are)
          (w.call ∙ k.call) saw by
