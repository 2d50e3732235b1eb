-- An operation is enrolled.
use Rattle.std.proofs.Common.{◌≡◌, ℕ, ◌%◌, ◌<◌, ◌≤◌, length, refl, subst, arith}
use Rattle.range_turns.specs.Order.{IsFresh}
use Rattle.step_answers.specs.declared.whole_op.WholeOp.{WholeOp}
use Rattle.step_answers.specs.declared.whole_op.WholeOp.TheVariants as whole
use Rattle.open_calls.specs.Calls.{whole_call}
use Rattle.open_calls.specs.Clients.{IsIdle, behind_last}
use Rattle.open_calls.proofs.SeenLemmas.{behind_within}
use Rattle.open_calls.specs.Due.{due, forms}
use Rattle.open_calls.specs.Maint.{HasTurn, CanStill, FitsMaint, command_at}
use Rattle.open_calls.proofs.Kept.{whole_enrolled}
use Rattle.open_calls.proofs.Turns.{turn_asks, snapshot_asks, maint_enrolled, whole_fits}
use Rattle.open_rebuild.proofs.RangeSteps.{call_enrolled}
use Rattle.volume_core.specs.State.{State, told_of, modes_in}
use Rattle.volume_core.specs.Sound.{IsSound}
use Rattle.volume_core.proofs.Rows as rows
use Rattle.volume_maint.specs.Answers.{MayAsk, seen_by, snapshots_told}
use Rattle.volume_maint.specs.Steps as steps

at_most : (n : ℕ) → n ≤ n
at_most n = omega arith

-- it fits the maintenance turn
pub asked_fits : (s : State) (number stream : ℕ) (op : WholeOp) → MayAsk s stream op
    → CanStill (snapshots_told s) (modes_in s) s.nodes op
    → FitsMaint (snapshots_told s) (modes_in s) s.nodes s.maint s.commands (steps.whole_ticket number) (whole_call stream (seen_by s op) op)
asked_fits s number stream (whole.Snapshot name) may can =
    snapshot_asks (snapshots_told s) (modes_in s) s.nodes s.maint s.commands (steps.whole_ticket number)
    (whole_call stream (seen_by s (whole.Snapshot name)) (whole.Snapshot name)) name refl refl may.0 may.1
asked_fits s number stream (whole.Remove name) may can =
    turn_asks (snapshots_told s) (modes_in s) s.nodes s.maint s.commands (steps.whole_ticket number)
    (whole_call stream (seen_by s (whole.Remove name)) (whole.Remove name)) (whole.Remove name) refl refl tt may refl can
asked_fits s number stream (whole.Revert name) may can =
    turn_asks (snapshots_told s) (modes_in s) s.nodes s.maint s.commands (steps.whole_ticket number)
    (whole_call stream (seen_by s (whole.Revert name)) (whole.Revert name)) (whole.Revert name) refl refl tt may refl can
asked_fits s number stream (whole.Barrier r) may can =
    turn_asks (snapshots_told s) (modes_in s) s.nodes s.maint s.commands (steps.whole_ticket number)
    (whole_call stream (seen_by s (whole.Barrier r)) (whole.Barrier r)) (whole.Barrier r) refl refl tt may refl can
asked_fits s number stream (whole.Purge f) may can =
    turn_asks (snapshots_told s) (modes_in s) s.nodes s.maint s.commands (steps.whole_ticket number)
    (whole_call stream (seen_by s (whole.Purge f)) (whole.Purge f)) (whole.Purge f) refl refl tt may refl can

-- its caller saw its stream's last answer, and no more than there is
turn_saw : (s : State) (stream : ℕ) (c : Rattle.volume_model.specs.declared.command.Command.Command) → IsSound s
    → HasTurn s.maint s.commands stream c
    → (behind_last stream s.book.entries ≤ (command_at s.commands 0).saw) × ((command_at s.commands 0).saw ≤ length s.book.entries)
turn_saw s stream c ok turn = (
  subst (λ n. behind_last n s.book.entries ≤ (command_at s.commands 0).saw) turn.own (ok.maint.queued.past 0 turn.some),
  ok.maint.queued.saw 0 turn.some,
)

pub asker_saw : (s : State) (stream : ℕ) (op : WholeOp) → IsSound s → MayAsk s stream op
    → (behind_last stream s.book.entries ≤ seen_by s op) × (seen_by s op ≤ length s.book.entries)
asker_saw s stream (whole.Snapshot name) ok may = (behind_within stream s.book.entries, at_most (length s.book.entries))
asker_saw s stream (whole.Remove name) ok may =
    turn_saw s stream (Rattle.volume_model.specs.declared.command.Command.TheVariants.Remove name) ok may
asker_saw s stream (whole.Revert name) ok may =
    turn_saw s stream (Rattle.volume_model.specs.declared.command.Command.TheVariants.Revert name) ok may
asker_saw s stream (whole.Purge f) ok may = turn_saw s stream Rattle.volume_model.specs.declared.command.Command.TheVariants.Purge ok may
asker_saw s stream (whole.Barrier r) ok may =
    turn_saw s stream (Rattle.volume_model.specs.declared.command.Command.TheVariants.Add r) ok may

-- the World keeps its invariant
pub asked_sound : (s : State) (number stream : ℕ) (op : WholeOp) → IsSound s → s.size % 2097152 ≡ 0
    → IsFresh s.tickets number → stream < length s.indices → IsIdle stream s.calls → MayAsk s stream op
    → CanStill (snapshots_told s) (modes_in s) s.nodes op → IsSound (steps.whole_enrolled s number stream (seen_by s op) op)
asked_sound s number stream op ok size fresh within idle may can =
    let saw = asker_saw s stream op ok may in
    let t = steps.whole_ticket number in
    let c = whole_call stream (seen_by s op) op in
    record {
      on = rows.enrolled_sound (due s.whole (told_of s).volume) (forms s.whole s.nodes) s t c ok.on refl fresh
          (whole_fits s.size (length s.indices) (length (forms s.whole s.nodes)) stream (seen_by s op) t op size refl refl refl within)
          idle saw.0 saw.1 (omega (arith, ok.on.spare_data));
      whole = whole_enrolled (told_of s) (modes_in s) s.tickets s.calls s.nodes s.whole t c ok.whole ok.on.clients.paired refl fresh;
      maint = maint_enrolled (snapshots_told s) (length s.indices) s.book.entries (modes_in s) s.tickets s.calls s.nodes
          s.maint s.commands t c ok.on.clients.paired (asked_fits s number stream op may can) ok.maint;
      disk = ok.disk;
      rebuild = call_enrolled s.size (modes_in s) s.tickets s.calls s.whole s.nodes s.rebuild t c ok.on.clients.paired refl ok.rebuild;
      adds = ok.adds;
      caused = ok.caused;
      streams = ok.streams;
    }
