-- One worker aborts no rebuild.
use Rattle.std.proofs.Common.{ℕ, suc, List, [], ◌∷◌}
use Rattle.std.specs.Prelude.{Option, None, Some}
use Rattle.volume_model.specs.declared.command.Command.TheVariants as command
use Rattle.volume_model.specs.declared.call.Call.{Call}
use Rattle.volume_model.specs.declared.call.Call.TheVariants as call
use Rattle.volume_model.specs.declared.call.Refusal.{Refusal}
use Rattle.volume_model.specs.declared.mark.FoldOrDrop.{FoldOrDrop}
use Rattle.volume_model.specs.declared.mode.Mode.{Mode}
use Rattle.volume_model.specs.declared.mode.Mode.TheVariants.{Rw, Wo, Err}
use Rattle.volume_model.specs.Marks.{marks_of}
use Rattle.volume_model.specs.PlainState.{PlainState}
use Rattle.volume_model.specs.Purge.{parts_of}
use Rattle.volume_model.specs.Modes.{mode_of, source_of}
use Rattle.volume_model.specs.History.{Spot}
use Rattle.volume_model.specs.OneWorker.{Against, Store, fail_marks, add_marks, refused_by, marks_unless, answer_for, entries_by}
use Rattle.volume_model.specs.OneWorker.{after_done, behind, served_from, after_calls, served_streams}
use Rattle.volume_model.proofs.FallLemmas.{HasNoAborted, no_aborted-append}

none_of : (parts : List FoldOrDrop) → HasNoAborted (marks_of parts)
none_of [] = tt
none_of (p ∷ ps) = (tt, none_of ps)

none_failed : (r : ℕ) (m : Mode) → HasNoAborted (fail_marks r m)
none_failed r Rw = (tt, tt)
none_failed r Wo = (tt, tt)
none_failed r Err = tt

none_added : (state : PlainState) (r : ℕ) (source : Option ℕ) → HasNoAborted (add_marks state r source)
none_added state r None = tt
none_added state r (Some source) = (tt, (tt, tt))

none_before : (spot : Spot) (why : Option Refusal) (c : Call) → HasNoAborted (marks_unless why spot c)
none_before spot (Some why) c = tt
none_before spot None (call.Read offset n) = tt
none_before spot None (call.Write offset bytes) = tt
none_before spot None call.Ping = tt
none_before spot None (call.Other kind) = tt
none_before spot None (call.Command (command.Snapshot name)) = tt
none_before spot None (call.Command (command.Remove name)) = tt
none_before spot None (call.Command (command.Revert name)) = tt
none_before spot None (call.Command command.Purge) = none_of (parts_of spot.state.volume.snapshots)
none_before spot None (call.Command command.Status) = tt
none_before spot None (call.Command (command.Fail r)) = none_failed r (mode_of spot.modes r)
none_before spot None (call.Command (command.Add r)) = none_added spot.state r (source_of spot.modes)
none_before spot None (call.Command (command.Backup backup snapshot)) = tt

none_at : (told : Option Against) (spot : Spot) (stream place index : ℕ) (c : Call)
    → HasNoAborted (entries_by told spot stream place index c)
none_at told spot stream place index c = no_aborted-append (marks_unless (refused_by told spot c) spot c)
    (answer_for (refused_by told spot c) spot stream place index c ∷ []) (none_before spot (refused_by told spot c) c) (tt, tt)

none_from : (store : Store) (spot : Spot) (stream place index : ℕ) (cs : List Call)
    → HasNoAborted (served_from store spot stream place index cs)
none_from store spot stream place index [] = tt
none_from store spot stream place index (c ∷ cs) =
    let first = entries_by (store place) spot stream place index c in
    no_aborted-append first (served_from store (after_done spot c) stream (behind place first) (suc index) cs)
    (none_at (store place) spot stream place index c)
    (none_from store (after_done spot c) stream (behind place first) (suc index) cs)

-- in the journal of these streams no mark is an aborted one
pub none_aborted : (store : Store) (spot : Spot) (stream place : ℕ) (css : List (List Call))
    → HasNoAborted (served_streams store spot stream place css)
none_aborted store spot stream place [] = tt
none_aborted store spot stream place (cs ∷ css) =
    let first = served_from store spot stream place 0 cs in
    no_aborted-append first (served_streams store (after_calls spot cs) (suc stream) (behind place first) css)
    (none_from store spot stream place 0 cs)
    (none_aborted store (after_calls spot cs) (suc stream) (behind place first) css)
