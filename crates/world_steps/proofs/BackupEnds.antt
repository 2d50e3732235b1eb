-- The end of a backup: how it may be answered, and what stands against it where it is not.
use Rattle.std.proofs.Common.{◌≡◌, ◌⊎◌, inl, inr, ℕ, Bool, true, false, cond, List, Option, Some, None, IsSome}
use Rattle.std.proofs.Common.{refl, sym, ap, subst, ◌∙◌}
use Rattle.std.specs.Option.{option_or}
use Rattle.std.proofs.lemmas.Bool.{cases_Bool}
use Rattle.volume_model.specs.declared.command.Command.TheVariants as command
use Rattle.volume_model.specs.declared.call.Call.TheVariants as call
use Rattle.volume_model.specs.declared.call.Refusal.{Refusal}
use Rattle.volume_model.specs.declared.call.Refusal.TheVariants as refusal
use Rattle.volume_model.specs.declared.call.Reply.{Reply}
use Rattle.volume_model.specs.declared.call.Reply.TheVariants as reply
use Rattle.volume_model.specs.History.{OfStore, subject_of}
use Rattle.volume_model.specs.Modes.{HasSource, source_of}
use Rattle.volume_model.specs.OneWorker.{want_of_replica}
use Rattle.volume_model.specs.PlainState.{copy_of}
use Rattle.volume_model.specs.PlainStep.{live_refusal}
use Rattle.volume_model.specs.Snapshots.{is_live}
use Rattle.volume_model.proofs.SpotLemmas.{has_source}
use Rattle.volume_core.specs.State.{State, told_of, modes_in, spot_of}
use Rattle.volume_maint.specs.Answers.{MayEnd, WaitsToEnd, refused_in}
use Rattle.volume_maint.proofs.Refusals.{live_there, live_gone, good_refused}
use Rattle.volume_backup.specs.Copies.{IsLive, copies_told}
use Rattle.stream_steps.specs.Backup.{MayEndBackup, AgainstRefusal, RefusesEndBackup}

module _ (s : State) (backup snapshot : List ℕ) where
  -- as the World may answer it, it may be answered
  pub may_end_backup : (r : Reply) → MayEnd s (command.Backup backup snapshot) r
      → MayEndBackup (spot_of s) (call.Command (command.Backup backup snapshot)) r
  may_end_backup (reply.Refused why) may = may.0
  may_end_backup reply.Done may = may
  may_end_backup (reply.Aborted place) may = absurd (other may.0 may.1)
    where
      other : (r : ℕ) → command.Backup backup snapshot ≡ command.Add r → ⊥
      other r e = cc
  may_end_backup (reply.Read bytes) may = absurd may
  may_end_backup (reply.Status layers modes) may = absurd may

  -- it never waits for another
  pub never_waits : (r : Reply) → WaitsToEnd s (command.Backup backup snapshot) r → ⊥
  never_waits r waits = other waits.purge
    where
      other : command.Backup backup snapshot ≡ command.Purge → ⊥
      other e = cc

  -- ---- where it may not be answered so

  -- the snapshot can be used, or has no copy
  live_or_not : IsLive s snapshot ⊎ (copies_told s snapshot ≡ None)
  live_or_not = by (cases_Bool (is_live (told_of s).volume.snapshots.tree snapshot))
    where
      by : IsLive s snapshot ⊎ (is_live (told_of s).volume.snapshots.tree snapshot ≡ false)
          → IsLive s snapshot ⊎ (copies_told s snapshot ≡ None)
      by (inl live) = inl live
      by (inr gone) = inr (ap (λ (b : Bool). cond b (Some (copy_of (told_of s).volume.copies snapshot)) None) gone)

  is_good : IsLive s snapshot → live_refusal (told_of s).volume snapshot ≡ None
  is_good live = sym (live_there (told_of s).volume snapshot live)

  some_copy : IsLive s snapshot → IsSome (copies_told s snapshot)
  some_copy live = subst IsSome (sym (ap (λ (b : Bool). cond b (Some (copy_of (told_of s).volume.copies snapshot)) None) live)) refl

  not_there : (is_live (told_of s).volume.snapshots.tree snapshot ≡ false)
      → refused_in s (command.Backup backup snapshot) ≡ Some refusal.NoSuchSnapshot
  not_there gone = ap (λ (x : Option Refusal). option_or x (want_of_replica true (source_of (modes_in s))))
      (sym (live_gone (told_of s).volume snapshot gone))

  -- a store's refusal only stands against one that can be used
  none_of_store : (why : Refusal) → subject_of (reply.Refused why) ≡ OfStore
      → (MayEnd s (command.Backup backup snapshot) (reply.Refused why) → ⊥) → copies_told s snapshot ≡ None
  none_of_store why about cannot = by live_or_not
    where
      by : IsLive s snapshot ⊎ (copies_told s snapshot ≡ None) → copies_told s snapshot ≡ None
      by (inl live) = absurd (cannot (good_refused s (command.Backup backup snapshot) why about (is_good live), tt))
      by (inr gone) = gone

  against : (why : Refusal) → (MayEnd s (command.Backup backup snapshot) (reply.Refused why) → ⊥)
      → AgainstRefusal why (copies_told s snapshot) (modes_in s)
  against refusal.NoSuchSnapshot cannot = by (cases_Bool (is_live (told_of s).volume.snapshots.tree snapshot))
    where
      by : IsLive s snapshot ⊎ (is_live (told_of s).volume.snapshots.tree snapshot ≡ false) → IsSome (copies_told s snapshot)
      by (inl live) = some_copy live
      by (inr gone) = absurd (cannot ((None, not_there gone), tt))
  against refusal.NoReplica cannot = λ some. by (source_of (modes_in s)) refl live_or_not some
    where
      gone_none : (o : Option (List ℕ)) → o ≡ None → IsSome o → ⊥
      gone_none None e is = cc
      gone_none (Some x) e is = cc

      none_read : IsLive s snapshot → source_of (modes_in s) ≡ None
          → refused_in s (command.Backup backup snapshot) ≡ Some refusal.NoReplica
      none_read live none = ap (λ (x : Option Refusal). option_or x (want_of_replica true (source_of (modes_in s)))) (is_good live)
          ∙ ap (want_of_replica true) none

      by : (q : Option ℕ) → source_of (modes_in s) ≡ q → IsLive s snapshot ⊎ (copies_told s snapshot ≡ None)
          → IsSome (copies_told s snapshot) → HasSource (modes_in s)
      by (Some r) e live some = has_source (modes_in s) r e
      by None e (inl live) some = absurd (cannot ((None, none_read live e), tt))
      by None e (inr gone) some = absurd (gone_none (copies_told s snapshot) gone some)
  against refusal.BackupExists cannot = none_of_store refusal.BackupExists refl cannot
  against refusal.BlockDiffers cannot = none_of_store refusal.BlockDiffers refl cannot
  against refusal.TargetFault cannot = none_of_store refusal.TargetFault refl cannot
  against refusal.TooLong cannot = tt
  against refusal.OutOfRange cannot = tt
  against refusal.Unsupported cannot = tt
  against refusal.NameUsed cannot = tt
  against refusal.ChainFull cannot = tt
  against refusal.InUse cannot = tt

  -- that is what stands against it
  pub refuses_end : (r : Reply) → (MayEnd s (command.Backup backup snapshot) r → ⊥)
      → RefusesEndBackup snapshot r (copies_told s) (modes_in s)
  refuses_end (reply.Refused why) cannot = against why cannot
  refuses_end reply.Done cannot = by live_or_not
    where
      by : IsLive s snapshot ⊎ (copies_told s snapshot ≡ None) → copies_told s snapshot ≡ None
      by (inl live) = absurd (cannot (is_good live))
      by (inr gone) = gone
  refuses_end (reply.Aborted place) cannot = tt
  refuses_end (reply.Read bytes) cannot = tt
  refuses_end (reply.Status layers modes) cannot = tt
