-- One step of the plain disk, and the replay of it.
use Rattle.std.proofs.Common.{◌≡◌, ℕ, ◌+◌, ◌≤◌, cond, Bool, true, false, List, [], ◌∷◌, ◌++◌, length, refl, sym, ◌∙◌, arith}
use Rattle.std.specs.Prelude.{Option, Some, None, ℤ, nat_lt}
use Rattle.std.specs.Option.{option_or}
use Rattle.std.proofs.lemmas.Bool.{true≢false}
use Rattle.std.proofs.lemmas.List.{get_or_default}
use Rattle.volume_model.specs.declared.command.Command.{Command}
use Rattle.volume_model.specs.declared.command.Command.TheVariants as command
use Rattle.volume_model.specs.declared.call.Call.{Call}
use Rattle.volume_model.specs.declared.call.Call.TheVariants as call
use Rattle.volume_model.specs.declared.call.Refusal.{Refusal}
use Rattle.volume_model.specs.declared.entry.Entry.{Entry}
use Rattle.volume_model.specs.declared.mode.Mode.{Mode}
use Rattle.volume_model.specs.declared.mode.Mode.TheVariants.{Rw, Wo, Err}
use Rattle.volume_model.specs.declared.entry.Answer.{Answer}
use Rattle.volume_model.specs.declared.call.Reply.{Reply}
use Rattle.volume_model.specs.declared.call.Reply.TheVariants as reply
use Rattle.volume_model.specs.declared.call.Refusal.TheVariants.{TooLong, OutOfRange, NameUsed, ChainFull, NoSuchSnapshot}
use Rattle.volume_model.specs.Disk.{is_good}
use Rattle.volume_model.specs.Snapshots.{layer_count, is_live}
use Rattle.volume_model.specs.History.{Subject, OfVolume, OfReplicas, OfStore, subject_of, IsAnswered}
use Rattle.volume_model.specs.PlainState.{Volume, PlainState, is_used}
use Rattle.volume_model.specs.PlainStep.{longest_call, most_layers, range_refusal, room_refusal, live_refusal}
use Rattle.volume_model.specs.PlainStep.{add_refusal, command_refusal, volume_refusal, name_refusal, refusal_of}
use Rattle.volume_model.specs.PlainStep.{after_call, reply_of, step_unless, plain_step}
use Rattle.volume_model.specs.Replay.{is_refusal, after_entry, replay}
use Rattle.volume_model.specs.Modes.{mode_of, modes_after_entry, modes_after, HasSource, HasNoSource, asks_store}

-- the replay of two journals, one behind the other
pub replay-append : (opening : PlainState) (before after : List Entry)
    → replay opening (before ++ after) ≡ replay (replay opening before) after
replay-append opening [] after = refl
replay-append opening (e ∷ es) after = replay-append (after_entry opening e) es after

-- one entry more at the end
pub replay-push : (opening : PlainState) (before : List Entry) (e : Entry)
    → replay opening (before ++ e ∷ []) ≡ after_entry (replay opening before) e
replay-push opening before e = replay-append opening before (e ∷ [])

-- the modes after two journals, one behind the other
pub modes_after-append : (modes : List Mode) (before after : List Entry)
    → modes_after modes (before ++ after) ≡ modes_after (modes_after modes before) after
modes_after-append modes [] after = refl
modes_after-append modes (e ∷ es) after = modes_after-append (modes_after_entry modes e) es after

-- ---- the plain disk answers of itself

-- what an answer is about that this stands against
abbrev pub says_in : Option Refusal → Subject
says_in (Some why) = subject_of (reply.Refused why)
says_in None = OfVolume

says-cond : (b : Bool) (x y : Option Refusal) → says_in x ≡ OfVolume → says_in y ≡ OfVolume → says_in (cond b x y) ≡ OfVolume
says-cond true x y e f = e
says-cond false x y e f = f

says-or : (x y : Option Refusal) → says_in x ≡ OfVolume → says_in y ≡ OfVolume → says_in (option_or x y) ≡ OfVolume
says-or None y e f = f
says-or (Some why) y e f = e

says-range : (volume : Volume) (offset : ℤ) (n : ℕ) → says_in (range_refusal volume offset n) ≡ OfVolume
says-range volume offset n = says-cond (is_good (length volume.disk) offset n) None (Some OutOfRange) refl refl

says-room : (volume : Volume) → says_in (room_refusal volume) ≡ OfVolume
says-room volume = says-cond (nat_lt (layer_count volume.snapshots) most_layers) None (Some ChainFull) refl refl

says-live : (volume : Volume) (name : List ℕ) → says_in (live_refusal volume name) ≡ OfVolume
says-live volume name = says-cond (is_live volume.snapshots.tree name) None (Some NoSuchSnapshot) refl refl

says-add : (m : Mode) (volume : Volume) → says_in (add_refusal m volume) ≡ OfVolume
says-add Rw volume = refl
says-add Wo volume = refl
says-add Err volume = says-room volume

says-command : (modes : List Mode) (volume : Volume) (c : Command) → says_in (command_refusal modes volume c) ≡ OfVolume
says-command modes volume (command.Snapshot name) = says-room volume
says-command modes volume (command.Remove name) = says-live volume name
says-command modes volume (command.Revert name) = says-live volume name
says-command modes volume command.Purge = refl
says-command modes volume command.Status = refl
says-command modes volume (command.Fail r) = refl
says-command modes volume (command.Add r) = says-add (mode_of modes r) volume
says-command modes volume (command.Backup backup snapshot) = says-live volume snapshot

says-volume : (modes : List Mode) (volume : Volume) (c : Call) → says_in (volume_refusal modes volume c) ≡ OfVolume
says-volume modes volume (call.Read offset n) =
    says-cond (nat_lt longest_call n) (Some TooLong) (range_refusal volume offset n) refl (says-range volume offset n)
says-volume modes volume (call.Write offset bytes) = says-range volume offset (length bytes)
says-volume modes volume call.Ping = refl
says-volume modes volume (call.Other kind) = refl
says-volume modes volume (call.Command c) = says-command modes volume c

says-name : (used : List (List ℕ)) (c : Call) → says_in (name_refusal used c) ≡ OfVolume
says-name used (call.Read offset n) = refl
says-name used (call.Write offset bytes) = refl
says-name used call.Ping = refl
says-name used (call.Other kind) = refl
says-name used (call.Command (command.Snapshot name)) = says-cond (is_used used name) (Some NameUsed) None refl refl
says-name used (call.Command (command.Remove name)) = refl
says-name used (call.Command (command.Revert name)) = refl
says-name used (call.Command command.Purge) = refl
says-name used (call.Command command.Status) = refl
says-name used (call.Command (command.Fail r)) = refl
says-name used (call.Command (command.Add r)) = refl
says-name used (call.Command (command.Backup backup snapshot)) = refl

pub says-refusal : (modes : List Mode) (state : PlainState) (c : Call) → says_in (refusal_of modes state c) ≡ OfVolume
says-refusal modes state c =
    says-or (name_refusal state.used c) (volume_refusal modes state.volume c) (says-name state.used c) (says-volume modes state.volume c)

pub says-reply : (modes : List Mode) (volume : Volume) (c : Call) → subject_of (reply_of modes volume c) ≡ OfVolume
says-reply modes volume (call.Read offset n) = refl
says-reply modes volume (call.Write offset bytes) = refl
says-reply modes volume call.Ping = refl
says-reply modes volume (call.Other kind) = refl
says-reply modes volume (call.Command (command.Snapshot name)) = refl
says-reply modes volume (call.Command (command.Remove name)) = refl
says-reply modes volume (call.Command (command.Revert name)) = refl
says-reply modes volume (call.Command command.Purge) = refl
says-reply modes volume (call.Command command.Status) = refl
says-reply modes volume (call.Command (command.Fail r)) = refl
says-reply modes volume (call.Command (command.Add r)) = refl
says-reply modes volume (call.Command (command.Backup backup snapshot)) = refl

says-unless : (why : Option Refusal) (modes : List Mode) (state : PlainState) (c : Call) → says_in why ≡ OfVolume
    → subject_of (step_unless why modes state c).1 ≡ OfVolume
says-unless (Some why) modes state c e = e
says-unless None modes state c e = says-reply modes state.volume c

-- the plain step answers of the volume alone
pub says-plain_step : (modes : List Mode) (state : PlainState) (c : Call) → subject_of (plain_step modes state c).1 ≡ OfVolume
says-plain_step modes state c = says-unless (refusal_of modes state c) modes state c (says-refusal modes state c)

-- what is no refusal is of the volume
pub done_is_of_volume : (r : Reply) → is_refusal r ≡ false → subject_of r ≡ OfVolume
done_is_of_volume reply.Done done = refl
done_is_of_volume (reply.Read bytes) done = refl
done_is_of_volume (reply.Status layers modes) done = refl
done_is_of_volume (reply.Refused why) done = absurd (true≢false done)
done_is_of_volume (reply.Aborted place) done = absurd (true≢false done)

-- where one is read and written, that there is none is not answered
pub has_no_source : (modes : List Mode) → HasSource modes → HasNoSource modes → ⊥
has_no_source modes source none = none source.0 (get_or_default modes source.0 Err Rw source.1 ∙ source.2)

pub answered_plainly : (state : PlainState) (modes : List Mode) (a : Answer) → HasSource modes → asks_store a.call ≡ false
    → IsAnswered state modes a
    → a.reply ≡ (plain_step modes state a.call).1
answered_plainly state modes a source apart answered = go (subject_of a.reply) refl
  where
    go : (about : Subject) → subject_of a.reply ≡ about → a.reply ≡ (plain_step modes state a.call).1
    go OfVolume is = answered.reply is
    go OfReplicas is = absurd (has_no_source modes source (answered.none is).none)
    go OfStore is = absurd (true≢false (sym (answered.store is).asks ∙ apart))

-- a step gives the head the next number, or leaves it
pub call_raises : (state : PlainState) (c : Call) → (after_call state c).volume.snapshots.number ≤ state.volume.snapshots.number + 1
call_raises state (call.Read offset n) = omega arith
call_raises state (call.Write offset bytes) = omega arith
call_raises state call.Ping = omega arith
call_raises state (call.Other kind) = omega arith
call_raises state (call.Command (command.Snapshot name)) = omega arith
call_raises state (call.Command (command.Remove name)) = omega arith
call_raises state (call.Command (command.Revert name)) = omega arith
call_raises state (call.Command command.Purge) = omega arith
call_raises state (call.Command command.Status) = omega arith
call_raises state (call.Command (command.Fail r)) = omega arith
call_raises state (call.Command (command.Add r)) = omega arith
call_raises state (call.Command (command.Backup backup snapshot)) = omega arith
