use Rattle.std.proofs.Common.{◌≡◌, true, false, All, sym, subst, arith}
use Rattle.script_text.specs.Good.{IsGood, backs_up}
use Rattle.script_text.proofs.GeneratedGood.{generated_is_good, no_backups}
use Rattle.stream_turns.specs.Store.{StoreOfRun}
use Rattle.stream_turns.specs.Volume.{blank_spot}
use Rattle.volume_cli.specs.Left.{StoreFact}
use Rattle.volume_cli.specs.Loads.{IsLoadRun, LeavesLoad}
use Rattle.volume_cli.proofs.LoadLemmas.{load_left, served_many}
use Rattle.volume_cli.proofs.load.run_load.Goals as goal

pub blank_world-requires : goal.blank_world-requires
blank_world-requires g c =
    subst IsGood (sym c.in_ok-script.ensures) (generated_is_good c.args.number c.args.streams c.args.calls c.requires.can)

pub serve-requires-clause-good : goal.serve-requires-clause-good
serve-requires-clause-good g c κs within =
    subst IsGood (sym c.in_ok-script.ensures) (generated_is_good c.args.number c.args.streams c.args.calls c.requires.can)

pub serve-requires-clause-begun : goal.serve-requires-clause-begun
serve-requires-clause-begun g c κs within = (blank_spot c.in_ok-script.script, c.in_ok-world.ensures.begun)

pub returns-in_err-served-clause-unasked : goal.returns-in_err-served-clause-unasked
returns-in_err-served-clause-unasked g c =
    c.in_err-served.ensures.unasked (subst (λ s. All (λ x. backs_up x ≡ false) s.streams) (sym c.in_ok-script.ensures)
    (no_backups c.args.number c.args.streams c.args.calls))

pub sum_up-requires-clause-each : goal.sum_up-requires-clause-each
sum_up-requires-clause-each g c κs within =
    (c.in_ok-served.ensures.served (blank_spot c.in_ok-script.script) c.in_ok-world.ensures.begun).many

pub sum_up-requires-clause-some_streams : goal.sum_up-requires-clause-some_streams
sum_up-requires-clause-some_streams g c κs within =
    omega (
      arith,
      served_many c.args.number c.args.streams c.args.calls _ _ c.in_ok-script.script c.in_ok-served.served
          c.in_ok-script.ensures (c.in_ok-served.ensures.served (blank_spot c.in_ok-script.script) c.in_ok-world.ensures.begun),
    )

pub sum_up-requires-clause-few_streams : goal.sum_up-requires-clause-few_streams
sum_up-requires-clause-few_streams g c κs within =
    omega (
      arith,
      c.requires.can.few_streams,
      served_many c.args.number c.args.streams c.args.calls _ _ c.in_ok-script.script
          c.in_ok-served.served c.in_ok-script.ensures
          (c.in_ok-served.ensures.served (blank_spot c.in_ok-script.script) c.in_ok-world.ensures.begun),
    )

pub returns-clause-left : goal.returns-clause-left
returns-clause-left g c =
    let script = c.in_ok-script.script in
    let begun = c.in_ok-world.ensures.begun in
    let served = c.in_ok-served.ensures.served (blank_spot script) begun in
    let before = g.W.Wiring.asked c.args.wiring.now in
    let after = g.W.Wiring.asked c.serve.new.wiring in
    let counts = g.W.Wiring.counts c.serve.new.wiring in
    let carried = g.W.Wiring.carried c.serve.new.wiring in
    let stores : StoreFact = λ volume spot journal. g.T.Target.tells ≡ true → StoreOfRun (g.T.Target.holds c.args.target.now)
    (g.T.Target.faults c.args.target.now) (g.T.Target.holds c.serve.new.target) (g.T.Target.faults c.serve.new.target)
    volume spot journal in
    subst (λ s. LeavesLoad (IsLoadRun before after counts carried stores s) s (c.sum_up.new.sink ≡ c.args.sink.now)
    (g.K.Sink.contents c.args.sink.now) (g.K.Sink.contents c.sum_up.new.sink) c.sum_up.result) c.in_ok-script.ensures
    (load_left before after counts carried stores _ _ _ script c.in_ok-served.served served
    (record {
      run = served.run;
      fits = c.sum_up.ensures.fits;
      lines = c.in_ok-served.ensures.asked;
      store = c.in_ok-served.ensures.store (blank_spot script) begun;
    }) c.sum_up.result c.sum_up.ensures.whole c.sum_up.ensures.prefix)

pub returns-clause-unasked : goal.returns-clause-unasked
returns-clause-unasked g c =
    c.in_ok-served.ensures.unasked (subst (λ s. All (λ x. backs_up x ≡ false) s.streams) (sym c.in_ok-script.ensures)
    (no_backups c.args.number c.args.streams c.args.calls))
