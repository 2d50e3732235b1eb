-- What stands against a command, as the journal tells it, and how it may then be answered.
use Rattle.std.proofs.Common.{◌≡◌, ℕ, ◌<◌, ◌≤◌, true, false, cond, List, refl, sym, ap, subst, ◌∙◌, arith}
use Rattle.std.specs.Prelude.{Option, None, Some}
use Rattle.std.specs.Option.{option_or}
use Rattle.std.proofs.lemmas.Bool.{lt-ltb, le-ltb, true≢false}
use Rattle.volume_model.specs.declared.command.Command.{Command}
use Rattle.volume_model.specs.declared.command.Command.TheVariants as command
use Rattle.volume_model.specs.declared.call.Call.TheVariants as call
use Rattle.volume_model.specs.declared.call.Refusal.{Refusal}
use Rattle.volume_model.specs.declared.call.Refusal.TheVariants.{TooLong, OutOfRange, Unsupported, NameUsed, ChainFull, NoSuchSnapshot}
use Rattle.volume_model.specs.declared.call.Refusal.TheVariants.{NoReplica, InUse, BackupExists, BlockDiffers, TargetFault}
use Rattle.volume_model.specs.declared.call.Reply.{Reply}
use Rattle.volume_model.specs.declared.call.Reply.TheVariants as reply
use Rattle.volume_model.specs.declared.mark.FoldOrDrop.{FoldOrDrop}
use Rattle.volume_model.specs.History.{IsAnswered, MayTellOfStore, OfStore, subject_of}
use Rattle.volume_model.specs.Modes.{source_of}
use Rattle.volume_model.specs.Names.{TellOf, is_used_in, is_live_in}
use Rattle.volume_model.specs.OneWorker.{Against, Exists, Differs, Fails, why_against, refused_by, want_of_replica, reply_for}
use Rattle.volume_model.specs.PlainState.{Volume, is_used}
use Rattle.volume_model.specs.PlainStep.{refusal_of, room_refusal, live_refusal, most_layers, step_unless}
use Rattle.volume_model.specs.Purge.{IsPurged, next_of}
use Rattle.volume_model.specs.Replay.{is_refusal}
use Rattle.volume_model.specs.Snapshots.{is_live, layer_count}
use Rattle.volume_model.proofs.NamesLemmas.{names_tell, is_used-names_in}
use Rattle.volume_model.proofs.OnlyServed.{with_source}
use Rattle.volume_model.proofs.PurgeLemmas.{next_left}
use Rattle.volume_model.proofs.SpotLemmas.{answered_there, answered_by_store, has_source}
use Rattle.volume_model.proofs.StepLemmas.{has_no_source}
use Rattle.journal_book.specs.Book.{names_of}
use Rattle.open_calls.specs.declared.whole.Whole.{Whole}
use Rattle.volume_core.specs.State.{State, opening_of, told_of, modes_in}
use Rattle.volume_core.specs.Sound.{IsSound}
use Rattle.volume_core.proofs.Answered.{plainly}
use Rattle.volume_maint.specs.Places.{IsWholeCommand}
use Rattle.step_answers.specs.declared.answers.NextPart.{NextPart}
use Rattle.step_answers.specs.declared.answers.NextPart.TheVariants as next
use Rattle.volume_core.specs.State.{spot_of}
use Rattle.volume_maint.specs.Answers.{snapshots_told, refused_in, IsNextPart, MayRefuse, MayBeDone, IsGoodBackup}

-- ---- what the journal tells

told_names : (s : State) → IsSound s → TellOf (names_of s.book) (told_of s)
told_names s ok = names_tell (opening_of s) s.book.opening.names s.book.entries ok.on.told.legal ok.on.opened.named ok.on.opened.names

pub told_used : (s : State) (name : List ℕ) → IsSound s → is_used_in (names_of s.book) name ≡ is_used (told_of s).used name
told_used s name ok = is_used-names_in (names_of s.book) name ∙ ap (λ u. is_used u name) (told_names s ok).used

pub told_live : (s : State) (name : List ℕ) → IsSound s → is_live_in (names_of s.book) name ≡ is_live (snapshots_told s).tree name
told_live s name ok = (told_names s ok).live name

-- ---- what stands against a command in the volume

pub room_left : (v : Volume) (layers : ℕ) → layers ≡ layer_count v.snapshots → layers < most_layers → None ≡ room_refusal v
room_left v layers is few = ap (λ b. cond b None (Some ChainFull))
    (sym (lt-ltb (layer_count v.snapshots) most_layers (omega (arith, is, few))))

pub room_gone : (v : Volume) (layers : ℕ) → layers ≡ layer_count v.snapshots → most_layers ≤ layers → Some ChainFull ≡ room_refusal v
room_gone v layers is many = ap (λ b. cond b None (Some ChainFull))
    (sym (le-ltb (layer_count v.snapshots) most_layers (omega (arith, is, many))))

pub live_there : (v : Volume) (name : List ℕ) → is_live v.snapshots.tree name ≡ true → None ≡ live_refusal v name
live_there v name e = ap (λ b. cond b None (Some NoSuchSnapshot)) (sym e)

pub live_gone : (v : Volume) (name : List ℕ) → is_live v.snapshots.tree name ≡ false → Some NoSuchSnapshot ≡ live_refusal v name
live_gone v name e = ap (λ b. cond b None (Some NoSuchSnapshot)) (sym e)

pub name_used : (s : State) (name : List ℕ) → is_used (told_of s).used name ≡ true
    → Some NameUsed ≡ refusal_of (modes_in s) (told_of s) (call.Command (command.Snapshot name))
name_used s name e = ap (λ b. option_or (cond b (Some NameUsed) None) (room_refusal (told_of s).volume)) (sym e)

pub name_unused : (s : State) (name : List ℕ) (x : Option Refusal) → is_used (told_of s).used name ≡ false
    → x ≡ room_refusal (told_of s).volume
    → x ≡ refusal_of (modes_in s) (told_of s) (call.Command (command.Snapshot name))
name_unused s name x e is = is ∙ ap (λ b. option_or (cond b (Some NameUsed) None) (room_refusal (told_of s).volume)) (sym e)

-- ---- and then that there is no replica

-- a command asks for one
pub asks_source : (s : State) (c : Command) → IsWholeCommand c
    → refused_in s c ≡ option_or (refusal_of (modes_in s) (told_of s) (call.Command c))
    (want_of_replica true (source_of (modes_in s)))
asks_source s (command.Snapshot name) asks = refl
asks_source s (command.Remove name) asks = refl
asks_source s (command.Revert name) asks = refl
asks_source s command.Purge asks = refl
asks_source s command.Status asks = absurd asks
asks_source s (command.Fail r) asks = absurd asks
asks_source s (command.Add r) asks = refl
asks_source s (command.Backup backup snapshot) asks = refl

-- ---- nothing stands against it

nothing : (x : Option Refusal) (source : Option ℕ) → option_or x (want_of_replica true source) ≡ None
    → (x ≡ None) × ((r : ℕ) × (source ≡ Some r))
nothing (Some why) source e = absurd cc
nothing None None e = absurd cc
nothing None (Some r) e = (refl, (r, refl))

-- where nothing refuses it, a replica is read
pub free_source : (s : State) (c : Command) → IsWholeCommand c → refused_in s c ≡ None → (r : ℕ) × (source_of (modes_in s) ≡ Some r)
free_source s c asks e =
    (nothing (refusal_of (modes_in s) (told_of s) (call.Command c)) (source_of (modes_in s))
    (sym (asks_source s c asks) ∙ e)).1

-- ---- how it may be answered

abbrev pub answer_by : State → ℕ → ℕ → ℕ → Command → Reply → Type 0
answer_by s stream saw index c r = IsAnswered (told_of s) (modes_in s)
    (record { call = call.Command c; reply = r; index = index; saw = saw; stream = stream })

no_fail : (c : Command) (r : ℕ) → IsWholeCommand c → call.Command c ≡ call.Command (command.Fail r) → ⊥
no_fail c r asks e = subst IsWholeCommand (alike e) asks
  where
    alike : call.Command c ≡ call.Command (command.Fail r) → c ≡ command.Fail r
    alike e = cc

-- as nothing or that stands against it
right_by : (s : State) (stream saw index : ℕ) (c : Command) (r : Reply) → IsWholeCommand c
    → reply_for (refused_in s c) (spot_of s) (call.Command c) ≡ r
    → (is_refusal r ≡ false → IsPurged (snapshots_told s).tree (snapshots_told s).on) → answer_by s stream saw index c r
right_by s stream saw index c r asks is purged =
    subst (λ x. answer_by s stream saw index c x) is
    (answered_there (spot_of s) (call.Command c) stream saw index (λ q e. absurd (no_fail c q asks e))
    (λ e done. purged (ap is_refusal (sym is) ∙ done)))

-- it is refused
pub refused_right : (s : State) (stream saw index : ℕ) (c : Command) (why : Refusal) → IsWholeCommand c
    → refused_in s c ≡ Some why → answer_by s stream saw index c (reply.Refused why)
refused_right s stream saw index c why asks refused =
    right_by s stream saw index c (reply.Refused why) asks (ap (λ w. reply_for w (spot_of s) (call.Command c)) refused) (λ done. absurd cc)

-- so it is, whatever a store has against it
pub told_right : (s : State) (stream saw index : ℕ) (c : Command) (why : Refusal) (told : Option Against) → IsWholeCommand c
    → refused_by told (spot_of s) (call.Command c) ≡ Some why → answer_by s stream saw index c (reply.Refused why)
told_right s stream saw index c why None asks refused = refused_right s stream saw index c why asks refused
told_right s stream saw index (command.Backup backup snapshot) why (Some against) asks refused =
    subst (λ x. answer_by s stream saw index (command.Backup backup snapshot) x)
    (ap (λ w. reply_for w (spot_of s) (call.Command (command.Backup backup snapshot))) refused)
    (answered_by_store (spot_of s) backup snapshot against stream saw index)
told_right s stream saw index (command.Snapshot name) why (Some against) asks refused =
    refused_right s stream saw index (command.Snapshot name) why asks refused
told_right s stream saw index (command.Remove name) why (Some against) asks refused =
    refused_right s stream saw index (command.Remove name) why asks refused
told_right s stream saw index (command.Revert name) why (Some against) asks refused =
    refused_right s stream saw index (command.Revert name) why asks refused
told_right s stream saw index command.Purge why (Some against) asks refused =
    refused_right s stream saw index command.Purge why asks refused
told_right s stream saw index command.Status why (Some against) asks refused = absurd asks
told_right s stream saw index (command.Fail r) why (Some against) asks refused = absurd asks
told_right s stream saw index (command.Add r) why (Some against) asks refused =
    refused_right s stream saw index (command.Add r) why asks refused

-- a purge is done where nothing can go
pub purge_right : (s : State) (stream saw index : ℕ) → refused_in s command.Purge ≡ None
    → next_of (snapshots_told s) ≡ None → answer_by s stream saw index command.Purge reply.Done
purge_right s stream saw index free none =
    right_by s stream saw index command.Purge reply.Done tt
    (ap (λ w. reply_for w (spot_of s) (call.Command command.Purge)) free)
    (λ _. next_left (snapshots_told s).tree (snapshots_told s).on none)

-- a backup is done while its snapshot can be used
pub backup_right : (s : State) (stream saw index : ℕ) (backup snapshot : List ℕ) → live_refusal (told_of s).volume snapshot ≡ None
    → answer_by s stream saw index (command.Backup backup snapshot) reply.Done
backup_right s stream saw index backup snapshot free =
    let c = call.Command (command.Backup backup snapshot) in
    plainly (modes_in s) (told_of s) (record { call = c; reply = reply.Done; index = index; saw = saw; stream = stream })
    (sym (ap (λ w. (step_unless w (modes_in s) (told_of s) c).1) free))
    (λ r e. absurd cc) (λ change done. absurd cc) (λ e done. absurd cc)

-- what is so of each command that may be done is so of a purge and of a backup
pub by_done : (s : State) (P : Command → Type 0) → (MayBeDone s command.Purge → P command.Purge)
    → ((backup snapshot : List ℕ) → MayBeDone s (command.Backup backup snapshot) → P (command.Backup backup snapshot))
    → (c : Command) → MayBeDone s c → P c
by_done s P purge backs command.Purge may = purge may
by_done s P purge backs (command.Backup backup snapshot) may = backs backup snapshot may
by_done s P purge backs (command.Snapshot name) may = absurd may
by_done s P purge backs (command.Remove name) may = absurd may
by_done s P purge backs (command.Revert name) may = absurd may
by_done s P purge backs command.Status may = absurd may
by_done s P purge backs (command.Fail r) may = absurd may
by_done s P purge backs (command.Add r) may = absurd may

-- ---- what a store may have against a backup

-- a reply about the store is given to no command but a backup that the volume does not refuse
pub store_is_backup : (s : State) (c : Command) (why : Refusal) → IsWholeCommand c → subject_of (reply.Refused why) ≡ OfStore
    → MayRefuse s c why → IsGoodBackup s c
store_is_backup s c why asks about may = go c ((told_right s 0 0 0 c why may.0 asks may.1).store about)
  where
    go : (c : Command) → MayTellOfStore (told_of s) (modes_in s) (call.Command c) → IsGoodBackup s c
    go (command.Backup backup snapshot) m = m.refused
    go command.Purge m = absurd (true≢false (sym m.asks))
    go (command.Snapshot name) m = absurd (true≢false (sym m.asks))
    go (command.Remove name) m = absurd (true≢false (sym m.asks))
    go (command.Revert name) m = absurd (true≢false (sym m.asks))
    go command.Status m = absurd (true≢false (sym m.asks))
    go (command.Fail r) m = absurd (true≢false (sym m.asks))
    go (command.Add r) m = absurd (true≢false (sym m.asks))

-- such a backup may be refused by whatever the store has against it
against_of : (why : Refusal) → subject_of (reply.Refused why) ≡ OfStore → (a : Against) × (why_against a ≡ why)
against_of BackupExists about = (Exists, refl)
against_of BlockDiffers about = (Differs, refl)
against_of TargetFault about = (Fails, refl)
against_of TooLong about = absurd cc
against_of OutOfRange about = absurd cc
against_of Unsupported about = absurd cc
against_of NameUsed about = absurd cc
against_of ChainFull about = absurd cc
against_of NoSuchSnapshot about = absurd cc
against_of NoReplica about = absurd cc
against_of InUse about = absurd cc

refused_so : (s : State) (c : Command) (a : Against) → IsGoodBackup s c
    → refused_by (Some a) (spot_of s) (call.Command c) ≡ Some (why_against a)
refused_so s (command.Backup backup snapshot) a free =
    ap (λ x. option_or x (option_or (Some (why_against a)) (want_of_replica true (source_of (modes_in s))))) free
refused_so s command.Purge a free = absurd free
refused_so s (command.Snapshot name) a free = absurd free
refused_so s (command.Remove name) a free = absurd free
refused_so s (command.Revert name) a free = absurd free
refused_so s command.Status a free = absurd free
refused_so s (command.Fail r) a free = absurd free
refused_so s (command.Add r) a free = absurd free

pub good_refused : (s : State) (c : Command) (why : Refusal) → subject_of (reply.Refused why) ≡ OfStore → IsGoodBackup s c
    → MayRefuse s c why
good_refused s c why about good = let a = against_of why about in (Some a.0, refused_so s c a.0 good ∙ ap Some a.1)

-- any other refusal is that of the volume, or for want of a replica
plain_or : (x rest : Option Refusal) (a : Against) (why : Refusal) → (subject_of (reply.Refused why) ≡ OfStore → ⊥)
    → option_or x (Some (why_against a)) ≡ Some why → option_or x rest ≡ Some why
plain_or (Some y) rest a why other e = e
plain_or None rest a why other e = absurd (other (of_store a (inside e)))
  where
    inside : Some (why_against a) ≡ Some why → why_against a ≡ why
    inside f = cc

    of_store : (a : Against) → why_against a ≡ why → subject_of (reply.Refused why) ≡ OfStore
    of_store Exists f = subst (λ w. subject_of (reply.Refused w) ≡ OfStore) f refl
    of_store Differs f = subst (λ w. subject_of (reply.Refused w) ≡ OfStore) f refl
    of_store Fails f = subst (λ w. subject_of (reply.Refused w) ≡ OfStore) f refl

pub plain_refused : (s : State) (c : Command) (why : Refusal) → (subject_of (reply.Refused why) ≡ OfStore → ⊥) → MayRefuse s c why
    → refused_in s c ≡ Some why
plain_refused s c why other may = by may.0 c may.1
  where
    by : (told : Option Against) (c : Command) → refused_by told (spot_of s) (call.Command c) ≡ Some why → refused_in s c ≡ Some why
    by None c e = e
    by (Some a) (command.Backup backup snapshot) e =
        plain_or (live_refusal (told_of s).volume snapshot) (want_of_replica true (source_of (modes_in s))) a why other e
    by (Some a) command.Purge e = e
    by (Some a) (command.Snapshot name) e = e
    by (Some a) (command.Remove name) e = e
    by (Some a) (command.Revert name) e = e
    by (Some a) command.Status e = e
    by (Some a) (command.Fail r) e = e
    by (Some a) (command.Add r) e = e

-- ---- a purge has come to its end

-- where nothing is next, it may be answered that it is done
pub may_be_done : (s : State) → IsNextPart s next.Nothing → MayBeDone s command.Purge
may_be_done s is = (with_source (spot_of s) (call.Command command.Purge) is.1, is.2)

-- and where it may be, nothing is next, so long as no call on the whole volume is started
pub done_is_next : (s : State) (n : NextPart) → IsNextPart s n → MayBeDone s command.Purge → s.whole ≡ None → n ≡ next.Nothing
done_is_next s (next.Part f) is may none = absurd (no_part f (sym is.1 ∙ may.1))
  where
    no_part : (f : FoldOrDrop) → Some f ≡ None → ⊥
    no_part f e = cc
done_is_next s next.Nothing is may none = refl
done_is_next s next.NoReplica is may none =
    let source = free_source s command.Purge tt may.0 in
    absurd (has_no_source (modes_in s) (has_source (modes_in s) source.0 source.1) is)
done_is_next s (next.After number) is may none = absurd (no_whole is.0 (sym is.1 ∙ none))
  where
    no_whole : (w : Whole) → Some w ≡ None → ⊥
    no_whole w e = cc
