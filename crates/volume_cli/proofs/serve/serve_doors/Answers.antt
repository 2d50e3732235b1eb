use Rattle.std.proofs.Common.{OnErr, refl, subst, inl, inr, arith}
use Rattle.door_traits.specs.Sessions.{told_all}
use Rattle.session_workers.specs.Served.{AreCutShort}
use Rattle.volume_cli.proofs.HostedLemmas.{clients_hosted, gone_untouched, have_passed, hosted_some, hosted_whole, stopped_left, told_many}
use Rattle.volume_cli.proofs.serve.serve_doors.Goals as goal

pub returns-in-Err-Failed-clause-left : goal.returns-in-Err-Failed-clause-left
returns-in-Err-Failed-clause-left g c =
    (refl, gone_untouched g.D.Doors.tells c.from.result c.args.sessions _ _ _ _ c.from.ensures c.in-Err-Failed.ensures.gone)

pub returns-in-Err-NoMemory-clause-left : goal.returns-in-Err-NoMemory-clause-left
returns-in-Err-NoMemory-clause-left g c =
    inl (
      refl,
      inl (gone_untouched g.D.Doors.tells c.from.result c.args.sessions _ _ _ _ c.from.ensures
          c.in-Err-NoMemory.ensures.gone),
    )

pub returns-in_err-served-clause-left : goal.returns-in_err-served-clause-left
returns-in_err-served-clause-left g c =
    let passed = have_passed g.D.Doors.tells _ _ _ _ _ _ _ _ c.in-Ok.ensures.come c.in-Ok.ensures.back c.take_back_all.ensures.coming
    c.take_back_all.ensures.back in
    let many = told_many g.D.In.Source.left g.D.In.Source.faults g.D.Out.Sink.contents g.D.Out.Sink.faults c.in-Ok.clients.items in
    let same = told_many g.D.In.Source.left g.D.In.Source.faults g.D.Out.Sink.contents g.D.Out.Sink.faults
    c.serve_sessions-clients.result.0.items in
    let before = told_all g.D.In.Source.left g.D.In.Source.faults g.D.Out.Sink.contents g.D.Out.Sink.faults c.in-Ok.clients.items in
    let now = told_all g.D.In.Source.left g.D.In.Source.faults g.D.Out.Sink.contents g.D.Out.Sink.faults
    c.serve_sessions-clients.result.0.items in
    stopped_left _ _ _ _ _ _ _ c.from_residual.result c.from_residual.ensures.1 refl (
      before,
      now,
      omega (arith, many, c.in-Ok.clients.ok, c.in-Ok.ensures.count, c.from.ensures),
      omega (arith, same, c.serve_sessions-clients.ensures.many, c.in-Ok.clients.ok, c.in-Ok.ensures.count, c.from.ensures),
      passed,
      subst (λ r. OnErr r (AreCutShort before now)) c.in_err-served.was c.serve_sessions-clients.ensures.stopped,
    )

pub returns-in-Ok-printed-clause-left : goal.returns-in-Ok-printed-clause-left
returns-in-Ok-printed-clause-left g c =
    let passed = have_passed g.D.Doors.tells _ _ _ _ _ _ _ _ c.in-Ok.ensures.come c.in-Ok.ensures.back c.take_back_all.ensures.coming
    c.take_back_all.ensures.back in
    hosted_whole _ _ _ _ _ _ c.in_ok-served.served (clients_hosted g.D.In.Source.left g.D.In.Source.faults g.D.Out.Sink.contents
    g.D.Out.Sink.faults c.in-Ok.clients.items c.serve_sessions-clients.result.0.items c.args.size c.args.replicas c.args.sessions _
    c.serve_sessions-clients.result.1 c.in_ok-served.served
    (omega (arith, c.in-Ok.clients.ok, c.in-Ok.ensures.count, c.from.ensures)) c.serve_sessions-clients.ensures.many
    c.in-Ok.ensures.unfailed c.in_ok-served.was c.serve_sessions-clients.ensures.served c.print_sessions-printed.ensures.fits passed)
    c.in-Ok-printed.ensures.whole

pub returns-in-Err-Failed-printed-clause-left : goal.returns-in-Err-Failed-printed-clause-left
returns-in-Err-Failed-printed-clause-left g c =
    let passed = have_passed g.D.Doors.tells _ _ _ _ _ _ _ _ c.in-Ok.ensures.come c.in-Ok.ensures.back c.take_back_all.ensures.coming
    c.take_back_all.ensures.back in
    hosted_some _ _ _ _ _ _ c.in_ok-served.served (clients_hosted g.D.In.Source.left g.D.In.Source.faults g.D.Out.Sink.contents
    g.D.Out.Sink.faults c.in-Ok.clients.items c.serve_sessions-clients.result.0.items c.args.size c.args.replicas c.args.sessions _
    c.serve_sessions-clients.result.1 c.in_ok-served.served
    (omega (arith, c.in-Ok.clients.ok, c.in-Ok.ensures.count, c.from.ensures)) c.serve_sessions-clients.ensures.many
    c.in-Ok.ensures.unfailed c.in_ok-served.was c.serve_sessions-clients.ensures.served c.print_sessions-printed.ensures.fits passed)
    c.print_sessions-printed.ensures.prefix

pub returns-in-Err-NoMemory-printed-clause-left : goal.returns-in-Err-NoMemory-printed-clause-left
returns-in-Err-NoMemory-printed-clause-left g c =
    let passed = have_passed g.D.Doors.tells _ _ _ _ _ _ _ _ c.in-Ok.ensures.come c.in-Ok.ensures.back c.take_back_all.ensures.coming
    c.take_back_all.ensures.back in
    inr (hosted_some _ _ _ _ _ _ c.in_ok-served.served (clients_hosted g.D.In.Source.left g.D.In.Source.faults g.D.Out.Sink.contents
    g.D.Out.Sink.faults c.in-Ok.clients.items c.serve_sessions-clients.result.0.items c.args.size c.args.replicas c.args.sessions _
    c.serve_sessions-clients.result.1 c.in_ok-served.served
    (omega (arith, c.in-Ok.clients.ok, c.in-Ok.ensures.count, c.from.ensures)) c.serve_sessions-clients.ensures.many
    c.in-Ok.ensures.unfailed c.in_ok-served.was c.serve_sessions-clients.ensures.served c.print_sessions-printed.ensures.fits passed)
    c.print_sessions-printed.ensures.prefix)
