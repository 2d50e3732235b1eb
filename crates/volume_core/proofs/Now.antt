-- A call that is answered at once keeps the invariant, also where it lets a replica fail.
use Rattle.std.proofs.Common.{◌≡◌, ◌≢◌, ℕ, ◌<◌, false, List, length, refl, sym, ap, subst, ◌∙◌, arith}
use Rattle.std.specs.Prelude.{None}
use Rattle.volume_model.specs.declared.command.Command.TheVariants as command
use Rattle.volume_model.specs.declared.call.Call.{Call}
use Rattle.volume_model.specs.declared.call.Call.TheVariants as call
use Rattle.volume_model.specs.declared.call.Reply.TheVariants as reply
use Rattle.volume_model.specs.declared.mode.Mode.{Mode}
use Rattle.volume_model.specs.declared.mode.Mode.TheVariants.{Rw, Wo, Err}
use Rattle.volume_model.specs.Modes.{mode_of, is_change}
use Rattle.volume_model.specs.Names.{layers_after}
use Rattle.volume_model.specs.PlainState.{Volume}
use Rattle.volume_model.specs.PlainStep.{plain_step}
use Rattle.volume_model.specs.Rebuilds.{added_by}
use Rattle.volume_model.specs.Snapshots.{layer_count}
use Rattle.volume_model.proofs.NamesLemmas.{layers_tell}
use Rattle.journal_book.specs.Book.{layers_of}
use Rattle.replica_node.specs.Node.{Node}
use Rattle.open_calls.specs.Clients.{IsIdle}
use Rattle.open_calls.proofs.FreeLemmas.{not_both}
use Rattle.open_calls.proofs.SeenLemmas.{behind_within}
use Rattle.volume_core.specs.State.{State, opening_of, told_of, modes_in}
use Rattle.volume_core.specs.Steps.{with_place, answered}
use Rattle.volume_core.specs.Sound.{IsSound, IsSoundOn}
use Rattle.step_answers.specs.Asked.{IsNow}
use Rattle.volume_core.specs.Answers.{failed_by, failed_in, after_fail}
use Rattle.volume_core.proofs.Answered.{plainly}
use Rattle.volume_core.proofs.DataLemmas.{none_now}
use Rattle.volume_core.proofs.Ends.{its_answer, answered_on}
use Rattle.volume_core.proofs.Falls.{fails_on}
use Rattle.volume_core.proofs.Rows.{place_sound}

-- the count of layers is that of the volume
pub layers_told : (s : State) → IsSound s → layers_of s.book ≡ layer_count (told_of s).volume.snapshots
layers_told s ok = ap (λ n. layers_after n s.book.entries) ok.on.opened.layers ∙ layers_tell (opening_of s) s.book.entries ok.on.told.legal

-- ---- a call that changes nothing

quiet_sound : (v : Volume) (ns : List Node) (s : State) (stream : ℕ) (c : Call) → IsSoundOn v ns s
    → stream < length s.indices → IsIdle stream s.calls → added_by c ≡ None → is_change c ≡ false
    → ((r : ℕ) → c ≡ call.Command (command.Fail r) → mode_of (modes_in s) r ≡ Err) → IsNow c
    → IsSoundOn v ns (answered (with_place s) stream (length s.book.entries) c (plain_step (modes_in s) (told_of s) c).1)
quiet_sound v ns s stream c ok within idle none quiet fails now =
    let ok2 = place_sound v ns s ok in
    let r = (plain_step (modes_in s) (told_of s) c).1 in
    let a = its_answer (with_place s) stream (length s.book.entries) c r in
    answered_on (with_place s) stream (length s.book.entries) c r v v ns ns s.tickets s.calls ok2 idle within
    (behind_within stream s.book.entries) (omega arith)
    none (λ name e. absurd (not_both (is_change c) quiet (ap is_change e)))
    (plainly (modes_in s) (told_of s) a refl fails (λ change. absurd (not_both (is_change c) quiet change))
    (λ e. absurd (not_both (is_change c) quiet (ap is_change e)))) ok.clients (omega (arith, ok.spare))
    (omega (arith, ok.spare_data, ap length (none_now (modes_in s) (told_of s) c now)))

-- ---- the step

pub now_on : (v : Volume) (ns : List Node) (s : State) (stream : ℕ) (c : Call) → IsSoundOn v ns s
    → stream < length s.indices → IsIdle stream s.calls → IsNow c
    → IsSoundOn v ns (answered (after_fail (with_place s) (failed_by c)) stream (length s.book.entries) c
    (plain_step (modes_in s) (told_of s) c).1)
now_on v ns s stream (call.Read offset n) ok within idle now =
    quiet_sound v ns s stream (call.Read offset n) ok within idle refl refl (λ r e. absurd cc) now
now_on v ns s stream (call.Write offset bytes) ok within idle now = absurd now
now_on v ns s stream call.Ping ok within idle now = quiet_sound v ns s stream call.Ping ok within idle refl refl (λ r e. absurd cc) now
now_on v ns s stream (call.Other k) ok within idle now =
    quiet_sound v ns s stream (call.Other k) ok within idle refl refl (λ r e. absurd cc) now
now_on v ns s stream (call.Command (command.Snapshot name)) ok within idle now = absurd now
now_on v ns s stream (call.Command (command.Remove name)) ok within idle now = absurd now
now_on v ns s stream (call.Command (command.Revert name)) ok within idle now = absurd now
now_on v ns s stream (call.Command command.Purge) ok within idle now = absurd now
now_on v ns s stream (call.Command (command.Add r)) ok within idle now = absurd now
now_on v ns s stream (call.Command (command.Backup backup snapshot)) ok within idle now = absurd now
now_on v ns s stream (call.Command command.Status) ok within idle now =
    quiet_sound v ns s stream (call.Command command.Status) ok within idle refl refl (λ r e. absurd cc) now
now_on v ns s stream (call.Command (command.Fail r)) ok within idle now = by_mode (mode_of (modes_in s) r) refl
  where
    same_replica : (q : ℕ) → call.Command (command.Fail r) ≡ call.Command (command.Fail q) → r ≡ q
    same_replica q e = cc

    rw≢err : Rw ≢ Err
    rw≢err e = cc

    wo≢err : Wo ≢ Err
    wo≢err e = cc

    by_mode : (m : Mode) → mode_of (modes_in s) r ≡ m
        → IsSoundOn v ns (answered (failed_in m (with_place s) r) stream (length s.book.entries)
        (call.Command (command.Fail r)) reply.Done)
    by_mode Err e = quiet_sound v ns s stream (call.Command (command.Fail r)) ok within idle refl refl
        (λ q f. subst (λ n. mode_of (modes_in s) n ≡ Err) (same_replica q f) e) now
    by_mode Rw e = fails_on v ns s stream r ok within idle (λ f. rw≢err (sym e ∙ f))
    by_mode Wo e = fails_on v ns s stream r ok within idle (λ f. wo≢err (sym e ∙ f))
