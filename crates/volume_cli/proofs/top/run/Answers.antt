use Rattle.std.proofs.Common.{◌≡◌, ◌≢◌, true, false, All, Some, IfSome, refl, subst, inl, inr}
use Rattle.std.specs.Io.KnownBytes.{Appends}
use Rattle.outer_traits.specs.Causes.{Rose}
use Rattle.outer_traits.specs.Passing.{WritesPrefix}
use Rattle.folder_checks.specs.Told.{Told}
use Rattle.program_words.specs.declared.words.Workers.TheVariants.{One}
use Rattle.program_words.specs.declared.words.Words.TheVariants.{Run}
use Rattle.script_text.specs.Good.{backs_up}
use Rattle.script_text.proofs.GoodLemmas.{good_script}
use Rattle.stream_turns.specs.Store.{StoreOfRun}
use Rattle.volume_cli.specs.declared.finish.ServedRun.{ServedRun}
use Rattle.volume_cli.specs.declared.status.Status.TheVariants.{NoMemory}
use Rattle.volume_cli.specs.Ends.{ended, status_of}
use Rattle.volume_cli.specs.Left.{IsRunOf, script_purpose}
use Rattle.volume_cli.specs.Steps.{begin_of, AreSavedOf, FinishCounts, HasPrinted}
use Rattle.volume_cli.proofs.Asked.{same_workers}
use Rattle.volume_cli.proofs.Input.{ended_err, refused_found, had_script, begin_found, rose_or_same, of_each}
use Rattle.volume_cli.proofs.Finishing.{run_counts, run_found, run_leaves}
use Rattle.volume_cli.proofs.Folders.{written_is, saved_of, kept_of, only_of}
use Rattle.volume_cli.proofs.top.run.Goals as goal

pub begin-requires : goal.begin-requires
begin-requires g c = good_script _ _ c.in_ok-script.ensures.found

pub serve_by-requires-clause-good : goal.serve_by-requires-clause-good
serve_by-requires-clause-good g c κs within = good_script _ _ c.in_ok-script.ensures.found

pub returns-in_err-script-clause-found : goal.returns-in_err-script-clause-found
returns-in_err-script-clause-found g c =
    let fault = c.in_err-script.field-0.0 in
    rw (ended_err c.from_residual-in_err-script.result (status_of fault) c.from_residual-in_err-script.ensures.1)
    (refused_found _ _ (g.H.Shelves.holds c.args.shelves.now) c.in_ok-input.input fault c.in_ok-input.ensures.bytes
    c.in_ok-input.ensures.whole c.in_err-script.ensures.refused)

pub returns-in_err-world-clause-found : goal.returns-in_err-world-clause-found
returns-in_err-world-clause-found g c =
    rw (ended_err c.from_residual-in_err-world.result c.in_err-world.field-0.0 c.from_residual-in_err-world.ensures.1)
    (begin_found _ (g.H.Shelves.holds c.args.shelves.now) c.in_ok-script.script c.in_err-world.field-0.0
    (g.H.Shelves.faults c.args.shelves.now) (g.H.Shelves.faults c.begin.new.shelves)
    (had_script _ _ c.in_ok-input.input c.in_ok-script.script c.in_ok-input.ensures.bytes c.in_ok-input.ensures.whole
    c.in_ok-script.ensures.found) c.in_err-world.ensures.end)

pub returns-in_err-saving-clause-counts : goal.returns-in_err-saving-clause-counts
returns-in_err-saving-clause-counts g c =
    rw (ended_err c.from_residual-in_err-saving.result NoMemory c.from_residual-in_err-saving.ensures.1)
    (c.in_ok-input.ensures.counts, inr refl, c.in_ok-world.ensures.end, inr refl)

pub returns-in_err-saving-clause-found : goal.returns-in_err-saving-clause-found
returns-in_err-saving-clause-found g c =
    rw (ended_err c.from_residual-in_err-saving.result NoMemory c.from_residual-in_err-saving.ensures.1) tt

pub returns-in_err-saving-clause-printed : goal.returns-in_err-saving-clause-printed
returns-in_err-saving-clause-printed g c =
    rw (ended_err c.from_residual-in_err-saving.result NoMemory c.from_residual-in_err-saving.ensures.1)
    (inl (refl, c.in_ok-world.ensures.still))

pub returns-in_err-served-clause-counts : goal.returns-in_err-served-clause-counts
returns-in_err-served-clause-counts g c =
    rw (ended_err c.from_residual-in_err-served.result NoMemory c.from_residual-in_err-served.ensures.1)
    (c.in_ok-input.ensures.counts, inr refl, c.in_ok-world.ensures.end, rose_or_same _ _ c.in_err-served.ensures.later)

pub returns-in_err-served-clause-spared : goal.returns-in_err-served-clause-spared
returns-in_err-served-clause-spared g c =
    of_each (g.S.Source.left c.args.source.now) c.in_ok-script.script
    (λ s. All (λ x. backs_up x ≡ false) s.streams → c.serve_by.new.target ≡ c.args.target.now)
    (had_script _ _ c.in_ok-input.input c.in_ok-script.script c.in_ok-input.ensures.bytes c.in_ok-input.ensures.whole
    c.in_ok-script.ensures.found) c.in_err-served.ensures.unasked

pub finish-finished-requires-clause-each : goal.finish-finished-requires-clause-each
finish-finished-requires-clause-each g c κs within =
    let begin = begin_of c.in_ok-world.field-0 in
    (c.in_ok-served.ensures.served begin.spot c.in_ok-world.ensures.world).many

pub returns-clause-counts : goal.returns-clause-counts
returns-clause-counts g c =
    run_counts (ended c.finish-finished.result) c.in_ok-served.served.target_fault
    (g.S.Source.faults c.args.source.now) (g.S.Source.faults c.read_input.new.source)
    (g.K.Sink.faults c.args.sink.now) (g.K.Sink.faults c.finish-finished.new.sink)
    (g.H.Shelves.faults c.args.shelves.now) (g.H.Shelves.faults c.finish-finished.new.shelves)
    (g.T.Target.faults c.args.target.now) (g.T.Target.faults c.serve_by.new.target) c.in_ok-input.ensures.counts
    (subst (λ h. FinishCounts (ended c.finish-finished.result) c.in_ok-served.served.target_fault
    (g.K.Sink.faults c.args.sink.now) (g.K.Sink.faults c.finish-finished.new.sink)
    h (g.H.Shelves.faults c.finish-finished.new.shelves)) c.in_ok-world.ensures.end c.finish-finished.ensures.counts)
    c.in_ok-served.ensures.fault

pub returns-clause-found : goal.returns-clause-found
returns-clause-found g c =
    run_found _ _ c.in_ok-script.script (begin_of c.in_ok-world.field-0) (ended c.finish-finished.result)
    c.in_ok-served.served.target_fault (g.K.Sink.faults c.args.sink.now) (g.K.Sink.faults c.finish-finished.new.sink)
    (g.H.Shelves.faults c.begin.new.shelves) (g.H.Shelves.faults c.finish-finished.new.shelves)
    (had_script _ _ c.in_ok-input.input c.in_ok-script.script c.in_ok-input.ensures.bytes c.in_ok-input.ensures.whole
    c.in_ok-script.ensures.found) c.in_ok-world.ensures.begun c.finish-finished.ensures.counts

pub returns-clause-whole : goal.returns-clause-whole
returns-clause-whole g c = λ done. c.in_ok-input.ensures.whole c.in_ok-script.ensures.found.headed.cut.most

pub returns-clause-spared : goal.returns-clause-spared
returns-clause-spared g c =
    of_each (g.S.Source.left c.args.source.now) c.in_ok-script.script
    (λ s. All (λ x. backs_up x ≡ false) s.streams → c.serve_by.new.target ≡ c.args.target.now)
    (had_script _ _ c.in_ok-input.input c.in_ok-script.script c.in_ok-input.ensures.bytes c.in_ok-input.ensures.whole
    c.in_ok-script.ensures.found) c.in_ok-served.ensures.unasked

pub returns-clause-printed : goal.returns-clause-printed
returns-clause-printed g c =
    let script = c.in_ok-script.script in
    let begin = begin_of c.in_ok-world.field-0 in
    let counts = g.W.Wiring.counts c.serve_by.new.wiring in
    let carried = g.W.Wiring.carried c.serve_by.new.wiring in
    let begun = c.in_ok-world.ensures.world in
    let served = c.in_ok-served.ensures.served begin.spot begun in
    let run : ServedRun = record {
      served = c.in_ok-served.served;
      reasons = c.in_ok-world.field-0.reasons;
      heads = c.in_ok-world.field-0.heads;
      saving = c.in_ok-saving.saving;
    } in
    let journal = c.in_ok-served.served.world.journal.entries in
    let sized = c.in_ok-world.ensures.many in
    let ends = ended c.finish-finished.result in
    let same = written_is script begin counts carried run sized served refl in
    run_leaves (script_purpose (g.S.Source.left c.args.source.now)) (IsRunOf (Some (Run c.args.workers))
    (g.W.Wiring.asked c.args.wiring.now) (g.W.Wiring.asked c.serve_by.new.wiring)
    counts carried (g.H.Shelves.holds c.args.shelves.now) (g.H.Shelves.holds c.finish-finished.new.shelves)
    (Rose (g.H.Shelves.faults c.args.shelves.now) (g.H.Shelves.faults c.finish-finished.new.shelves) → ⊥)
    (λ volume spot entries. g.T.Target.tells ≡ true → StoreOfRun (g.T.Target.holds c.args.target.now)
    (g.T.Target.faults c.args.target.now) (g.T.Target.holds c.serve_by.new.target) (g.T.Target.faults c.serve_by.new.target)
    volume spot entries) (c.serve_by.new.target ≡ c.args.target.now)) _ _ _ _ _ _
    script begin journal
    (had_script _ _ c.in_ok-input.input script c.in_ok-input.ensures.bytes c.in_ok-input.ensures.whole c.in_ok-script.ensures.found)
    ends c.in_ok-served.served.target_fault (g.K.Sink.faults c.args.sink.now) (g.K.Sink.faults c.finish-finished.new.sink)
    (g.H.Shelves.faults c.begin.new.shelves) (g.H.Shelves.faults c.finish-finished.new.shelves)
    (record {
      begun = c.in_ok-world.ensures.begun;
      run = served.run;
      fits = c.finish-finished.ensures.fits;
      lines = c.in_ok-served.ensures.asked;
      turns = λ asked. c.in_ok-served.ensures.turns begin.spot begun (same_workers c.args.workers One asked);
      saved = saved_of script begin counts carried run sized served (g.H.Shelves.holds c.finish-finished.new.shelves)
          (g.H.Shelves.faults c.args.shelves.now) (g.H.Shelves.faults c.finish-finished.new.shelves) ends refl
          (subst (λ h. IfSome run.saving (λ time. (Rose h (g.H.Shelves.faults c.finish-finished.new.shelves) → ⊥) → ends ≢ NoMemory
          → Told (g.H.Shelves.holds c.finish-finished.new.shelves) (λ files. AreSavedOf files time run)))
          c.in_ok-world.ensures.end c.finish-finished.ensures.saved) c.in_ok-saving.ensures.saves;
      kept = kept_of script begin counts carried run sized served _ (g.H.Shelves.holds c.begin.new.shelves) _
          c.finish-finished.ensures.kept c.in_ok-saving.ensures.none c.in_ok-world.ensures.still;
      only = only_of script begin counts carried run sized served _ (g.H.Shelves.holds c.begin.new.shelves) _
          c.finish-finished.ensures.only c.in_ok-world.ensures.still;
      store = c.in_ok-served.ensures.store begin.spot begun;
      unasked = c.in_ok-served.ensures.unasked;
    })
    (subst (λ text. HasPrinted ends (g.K.Sink.faults c.args.sink.now) (g.K.Sink.faults c.finish-finished.new.sink)
    (Appends (g.K.Sink.contents c.args.sink.now) (g.K.Sink.contents c.finish-finished.new.sink) text)) same
    c.finish-finished.ensures.whole)
    (subst (WritesPrefix (g.K.Sink.contents c.args.sink.now) (g.K.Sink.contents c.finish-finished.new.sink)) same
    c.finish-finished.ensures.prefix)
    c.finish-finished.ensures.counts
