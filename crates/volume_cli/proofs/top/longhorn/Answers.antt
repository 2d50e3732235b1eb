use Rattle.std.proofs.Common.{refl, sym, subst, ◌∙◌, map}
use Rattle.std.specs.Prelude.{string_bytes}
use Rattle.program_words.specs.declared.words.Words.TheVariants.{Run, Restore, Backups, Generate, Serve}
use Rattle.volume_cli.specs.Ends.{ended}
use Rattle.volume_cli.specs.Stores.{AnswersStore}
use Rattle.volume_cli.proofs.Asked.{asks_that, one_words}
use Rattle.volume_cli.proofs.HostedLemmas.{can_host, hosts_as, hosts_nobody}
use Rattle.volume_cli.proofs.Input.{gives_nothing}
use Rattle.volume_cli.proofs.LoadLemmas.{can_generate, load_leaves, load_runs, summed_as}
use Rattle.volume_cli.proofs.ServedLemmas.{ends_as_input, serves_nothing}
use Rattle.volume_cli.proofs.StoreLemmas.{store_refused_only, store_refuses, store_answers}
use Rattle.volume_cli.proofs.Statuses.{script_clause, no_clean_clause, complete_clause}
use Rattle.volume_cli.proofs.top.longhorn.Goals as goal

pub returns-in-Run-clause-script : goal.returns-in-Run-clause-script
returns-in-Run-clause-script g c =
    rw c.how_ended.ensures (λ asked. script_clause (g.S.Source.faults c.args.source.now) (g.S.Source.faults c.run.new.source)
    (g.K.Sink.faults c.args.sink.now) (g.K.Sink.faults c.run.new.sink)
    (g.H.Shelves.faults c.args.shelves.now) (g.H.Shelves.faults c.run.new.shelves)
    (g.T.Target.faults c.args.target.now) (g.T.Target.faults c.run.new.target)
    c.requires.source_count c.requires.sink_count c.requires.shelf_count c.requires.target_count (g.S.Source.left c.args.source.now)
    (g.H.Shelves.holds c.args.shelves.now) (ended c.run.result) c.run.ensures.counts c.run.ensures.found)

pub returns-in-Run-clause-no_clean : goal.returns-in-Run-clause-no_clean
returns-in-Run-clause-no_clean g c =
    rw c.how_ended.ensures (λ asked. no_clean_clause (g.S.Source.faults c.args.source.now) (g.S.Source.faults c.run.new.source)
    (g.K.Sink.faults c.args.sink.now) (g.K.Sink.faults c.run.new.sink)
    (g.H.Shelves.faults c.args.shelves.now) (g.H.Shelves.faults c.run.new.shelves)
    (g.T.Target.faults c.args.target.now) (g.T.Target.faults c.run.new.target)
    c.requires.source_count c.requires.sink_count c.requires.shelf_count c.requires.target_count (g.S.Source.left c.args.source.now)
    (g.H.Shelves.holds c.args.shelves.now) (ended c.run.result) c.run.ensures.counts c.run.ensures.found)

pub returns-in-Run-clause-complete : goal.returns-in-Run-clause-complete
returns-in-Run-clause-complete g c =
    rw c.how_ended.ensures (λ asked. complete_clause (g.S.Source.faults c.args.source.now) (g.S.Source.faults c.run.new.source)
    (g.K.Sink.faults c.args.sink.now) (g.K.Sink.faults c.run.new.sink)
    (g.H.Shelves.faults c.args.shelves.now) (g.H.Shelves.faults c.run.new.shelves)
    (g.T.Target.faults c.args.target.now) (g.T.Target.faults c.run.new.target)
    c.requires.source_count c.requires.sink_count c.requires.shelf_count c.requires.target_count (g.S.Source.left c.args.source.now)
    (g.H.Shelves.holds c.args.shelves.now) (ended c.run.result) c.run.ensures.counts c.run.ensures.found)

pub returns-in-Run-clause-printed : goal.returns-in-Run-clause-printed
returns-in-Run-clause-printed g c =
    let read = asks_that _ c.read_words.result c.in-Ok.asked (Run c.in-Run.workers) c.in-Ok.is c.in-Run.is
    c.read_words.ensures.found in
    rw c.how_ended.ensures (rw read (λ other none nobody. c.run.ensures.printed))

pub returns-in-Restore-clause-refused_only : goal.returns-in-Restore-clause-refused_only
returns-in-Restore-clause-refused_only g c =
    let words = (Restore c.in-Restore.backup c.in-Restore.volume) in
    store_refused_only c.args.words.now (g.S.Source.left c.args.source.now) (g.H.Shelves.holds c.args.shelves.now)
    g.T.Target.tells (g.T.Target.holds c.args.target.now) c.restore_backup.result
    (g.K.Sink.faults c.args.sink.now) (g.K.Sink.faults c.restore_backup.new.sink)
    (g.T.Target.faults c.args.target.now) (g.T.Target.faults c.restore_backup.new.target) words
    (asks_that _ c.read_words.result c.in-Ok.asked words c.in-Ok.is c.in-Restore.is c.read_words.ensures.found)
    tt c.restore_backup.ensures.counts c.restore_backup.ensures.answer

pub returns-in-Restore-clause-refused : goal.returns-in-Restore-clause-refused
returns-in-Restore-clause-refused g c = λ tells dry well asked is kind name refuses.
    let words = (Restore c.in-Restore.backup c.in-Restore.volume) in
    let read = asks_that _ c.read_words.result c.in-Ok.asked words c.in-Ok.is c.in-Restore.is c.read_words.ensures.found in
    store_refuses (g.T.Target.holds c.args.target.now) asked (g.K.Sink.faults c.args.sink.now)
    (g.K.Sink.faults c.restore_backup.new.sink) (g.T.Target.faults c.args.target.now) (g.T.Target.faults c.restore_backup.new.target)
    c.requires.sink_count c.requires.target_count dry well c.restore_backup.result c.restore_backup.ensures.counts
    (subst (λ a. AnswersStore (g.T.Target.holds c.args.target.now) a c.restore_backup.result) (one_words _ words asked read is)
    (c.restore_backup.ensures.answer tells)) kind name refuses

pub returns-in-Restore-clause-answered : goal.returns-in-Restore-clause-answered
returns-in-Restore-clause-answered g c = λ tells dry well asked is has.
    let words = (Restore c.in-Restore.backup c.in-Restore.volume) in
    let read = asks_that _ c.read_words.result c.in-Ok.asked words c.in-Ok.is c.in-Restore.is c.read_words.ensures.found in
    store_answers (g.T.Target.holds c.args.target.now) asked (g.K.Sink.faults c.args.sink.now)
    (g.K.Sink.faults c.restore_backup.new.sink) (g.T.Target.faults c.args.target.now) (g.T.Target.faults c.restore_backup.new.target)
    c.requires.sink_count c.requires.target_count dry well c.restore_backup.result c.restore_backup.ensures.counts
    (subst (λ a. AnswersStore (g.T.Target.holds c.args.target.now) a c.restore_backup.result) (one_words _ words asked read is)
    (c.restore_backup.ensures.answer tells)) has

pub returns-in-Backups-clause-refused : goal.returns-in-Backups-clause-refused
returns-in-Backups-clause-refused g c = λ tells dry well asked is kind name refuses.
    let words = (Backups c.in-Backups.volume) in
    let read = asks_that _ c.read_words.result c.in-Ok.asked words c.in-Ok.is c.in-Backups.is c.read_words.ensures.found in
    store_refuses (g.T.Target.holds c.args.target.now) asked (g.K.Sink.faults c.args.sink.now)
    (g.K.Sink.faults c.print_backups.new.sink) (g.T.Target.faults c.args.target.now) (g.T.Target.faults c.print_backups.new.target)
    c.requires.sink_count c.requires.target_count dry well c.print_backups.result c.print_backups.ensures.counts
    (subst (λ a. AnswersStore (g.T.Target.holds c.args.target.now) a c.print_backups.result) (one_words _ words asked read is)
    (c.print_backups.ensures.answer tells)) kind name refuses

pub returns-in-Backups-clause-answered : goal.returns-in-Backups-clause-answered
returns-in-Backups-clause-answered g c = λ tells dry well asked is has.
    let words = (Backups c.in-Backups.volume) in
    let read = asks_that _ c.read_words.result c.in-Ok.asked words c.in-Ok.is c.in-Backups.is c.read_words.ensures.found in
    store_answers (g.T.Target.holds c.args.target.now) asked (g.K.Sink.faults c.args.sink.now)
    (g.K.Sink.faults c.print_backups.new.sink) (g.T.Target.faults c.args.target.now) (g.T.Target.faults c.print_backups.new.target)
    c.requires.sink_count c.requires.target_count dry well c.print_backups.result c.print_backups.ensures.counts
    (subst (λ a. AnswersStore (g.T.Target.holds c.args.target.now) a c.print_backups.result) (one_words _ words asked read is)
    (c.print_backups.ensures.answer tells)) has

-- ---- a load

pub run_load-requires-clause-can : goal.run_load-requires-clause-can
run_load-requires-clause-can g c κs within =
    let n = c.in-Generate.number in
    let s = c.in-Generate.streams in
    let k = c.in-Generate.calls in
    can_generate (map string_bytes c.args.words.now) n s k
    (asks_that _ c.read_words.result c.in-Ok.asked (Generate n s k) c.in-Ok.is c.in-Generate.is c.read_words.ensures.found)

pub returns-in-Generate-clause-printed : goal.returns-in-Generate-clause-printed
returns-in-Generate-clause-printed g c =
    let n = c.in-Generate.number in
    let s = c.in-Generate.streams in
    let k = c.in-Generate.calls in
    let read = asks_that _ c.read_words.result c.in-Ok.asked (Generate n s k) c.in-Ok.is c.in-Generate.is c.read_words.ensures.found in
    rw c.how_loaded.ensures (rw read (λ other none nobody. load_leaves n s k _ _ _ _ _ _ _ _ _ refl
    (λ st journal. load_runs n s k _ _ _ _ _ _ _ _ c.run_load.ensures.unasked st journal) c.run_load.result c.run_load.ensures.left))

pub returns-in-Generate-clause-most : goal.returns-in-Generate-clause-most
returns-in-Generate-clause-most g c = λ none. gives_nothing _ _

pub returns-in-Generate-clause-summed : goal.returns-in-Generate-clause-summed
returns-in-Generate-clause-summed g c =
    let n = c.in-Generate.number in
    let s = c.in-Generate.streams in
    let k = c.in-Generate.calls in
    let read = asks_that _ c.read_words.result c.in-Ok.asked (Generate n s k) c.in-Ok.is c.in-Generate.is c.read_words.ensures.found in
    rw c.how_loaded.ensures (λ done number streams calls is. summed_as n s k number streams calls _ _ _ _ _ _ _ _
    c.run_load.result c.run_load.ensures.left done (sym read ∙ is))

-- ---- a replica

pub returns-in-Err-NoMemory-clause-served : goal.returns-in-Err-NoMemory-clause-served
returns-in-Err-NoMemory-clause-served g c = λ size asks. serves_nothing _ _ _

pub returns-in-Replica-clause-serves : goal.returns-in-Replica-clause-serves
returns-in-Replica-clause-serves g c =
    rw c.how_served.ensures (λ asks read dry. ends_as_input _ _ _ _ _ _ _ _ c.requires.source_count c.requires.sink_count read dry
    c.serve_blank.result c.serve_blank.ensures.served c.serve_blank.ensures.counts)

-- ---- sessions

pub serve_doors-requires-clause-replicas : goal.serve_doors-requires-clause-replicas
serve_doors-requires-clause-replicas g c κs within =
    let words = Serve c.in-Serve.address c.in-Serve.size c.in-Serve.replicas c.in-Serve.sessions in
    let can = can_host (map string_bytes c.args.words.now) _ _ _ _ (asks_that _ c.read_words.result c.in-Ok.asked words c.in-Ok.is
    c.in-Serve.is c.read_words.ensures.found) in
    (can.some_replicas, can.few_replicas)

pub serve_doors-requires-clause-sessions : goal.serve_doors-requires-clause-sessions
serve_doors-requires-clause-sessions g c κs within =
    let words = Serve c.in-Serve.address c.in-Serve.size c.in-Serve.replicas c.in-Serve.sessions in
    let can = can_host (map string_bytes c.args.words.now) _ _ _ _ (asks_that _ c.read_words.result c.in-Ok.asked words c.in-Ok.is
    c.in-Serve.is c.read_words.ensures.found) in
    (can.some_sessions, can.few_sessions)

pub returns-in-Err-NoMemory-clause-hosted : goal.returns-in-Err-NoMemory-clause-hosted
returns-in-Err-NoMemory-clause-hosted g c =
    λ address size replicas sessions asks. hosts_nobody size replicas sessions g.D.Doors.tells _ _ _ _ refl

pub returns-clause-most : goal.returns-clause-most
returns-clause-most g c = λ none. gives_nothing _ _

pub returns-clause-hosted : goal.returns-clause-hosted
returns-clause-hosted g c =
    let words = Serve c.in-Serve.address c.in-Serve.size c.in-Serve.replicas c.in-Serve.sessions in
    let read = asks_that _ c.read_words.result c.in-Ok.asked words c.in-Ok.is c.in-Serve.is c.read_words.ensures.found in
    rw c.how_hosted.ensures (λ address size replicas sessions is. hosts_as _ _ _ _ address size replicas sessions _ _ _ _
    c.serve_doors.result c.serve_doors.ensures.left (sym read ∙ is))
