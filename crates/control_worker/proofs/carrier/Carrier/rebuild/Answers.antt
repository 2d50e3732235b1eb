use Rattle.std.proofs.Common.{rules, ◌≡◌, ◌<◌, inl, inr, None, subst, sym}
use Rattle.control_worker.proofs.CommandLemmas.{on_err}
use Rattle.control_worker.proofs.RoundLemmas.{some_of}
use Rattle.control_worker.specs.Adding.{PassesTo, BeganRebuild}
use Rattle.stream_steps.specs.Mine.{OwnCall}
use Rattle.stream_steps.specs.Add.{HasAdd}
use Rattle.control_worker.proofs.AddLemmas.{goes_none, rebuilds_on, rebuilds_goes, rebuilding_has, passed}
use Rattle.control_worker.proofs.carrier.Carrier.rebuild.Given.{Over}
use Rattle.control_worker.proofs.carrier.Carrier.rebuild.Goals as goal
use Rattle.control_worker.proofs.carrier.Carrier.rebuild.Goals.{In-Some, After-copy_pages}

-- its rebuild has begun
began : (g : Over) (c : In-Some g) (o : OwnCall)
    → HasAdd c.args.t c.args.replica o (g.C.CommandSteps.mine c.args.self.now.steps)
    → BeganRebuild c.args.replica o (g.C.CommandSteps.mine c.args.self.now.steps)
    (g.C.CommandSteps.mine c.pass_barrier.new.self.steps)
began g c o h =
    passed c.in_ok-source.field-0 c.in-Some.source c.args.replica o _ _ c.in-Some.is (c.in_ok-source.ensures.ok o h)

-- and its pages were copied
copied : (g : Over) (c : After-copy_pages g) (o : OwnCall)
    → HasAdd c.args.t c.args.replica o (g.C.CommandSteps.mine c.args.self.now.steps)
    → BeganRebuild c.args.replica o (g.C.CommandSteps.mine c.args.self.now.steps)
    (g.C.CommandSteps.mine c.copy_pages.new.self.steps)
copied g c o h =
    rebuilds_on c.args.replica o _ _ _
    (passed c.in_ok-source.field-0 c.in-Some.source c.args.replica o _ _ c.in-Some.is (c.in_ok-source.ensures.ok o h))
    c.copy_pages.ensures.goes

pub returns-in_err-source-clause-err : goal.returns-in_err-source-clause-err
returns-in_err-source-clause-err g c =
    on_err c.from_residual.result
    (λ o h. goes_none o _ _ (c.in_err-source.ensures.err o h))

pub returns-in_default-clause-ok : goal.returns-in_default-clause-ok
returns-in_default-clause-ok g c = λ o h.
    let e : c.in_ok-source.field-0 ≡ None = search rules in
    inl (subst (λ s. PassesTo s c.args.replica o (g.C.CommandSteps.mine c.args.self.now.steps)
    (g.C.CommandSteps.mine c.pass_barrier.new.self.steps)) e (c.in_ok-source.ensures.ok o h))

pub copy_pages-requires-clause-lines : goal.copy_pages-requires-clause-lines
copy_pages-requires-clause-lines g c =
    let two = some_of c.in_ok-source.field-0 c.in-Some.source _ c.in-Some.is c.in_ok-source.ensures.source in
    let count = c.pass_barrier.ensures.stays.lines.count in
    record {
      from = subst (λ k. c.in-Some.source < k) (sym count) two.0;
      to = subst (λ k. c.args.replica < k) (sym count) two.1;
      apart = two.2;
    }

pub copy_pages-requires-clause-turn : goal.copy_pages-requires-clause-turn
copy_pages-requires-clause-turn g c =
    let at = (goal.at.copy_pages-requires-clause-turn g c).In-Some in
    let h = c.requires.turn in (
      c.args.replica,
      h.0,
      rebuilding_has c.args.t c.args.replica h.0 _ _ h.1 (began g at h.0 h.1),
    )

pub copy_pages-requires-clause-begun : goal.copy_pages-requires-clause-begun
copy_pages-requires-clause-begun g c =
    some_of c.in_ok-source.field-0 c.in-Some.source _ c.in-Some.is c.in_ok-source.ensures.begun

pub returns-in_err-copied-clause-err : goal.returns-in_err-copied-clause-err
returns-in_err-copied-clause-err g c =
    on_err c.from_residual-in_err-copied.result
    (λ o h. rebuilds_goes c.args.replica o _ _ (copied g (goal.at.returns-in_err-copied-clause-err g c).After-copy_pages o h))

pub end_add-requires-clause-turn : goal.end_add-requires-clause-turn
end_add-requires-clause-turn g c =
    let at = (goal.at.end_add-requires-clause-turn g c).After-copy_pages in
    let h = c.requires.turn in (
      c.args.replica,
      h.0,
      rebuilding_has c.args.t c.args.replica h.0 _ _ h.1 (copied g at h.0 h.1),
    )

pub end_add-requires-clause-begun : goal.end_add-requires-clause-begun
end_add-requires-clause-begun g c = (c.in-Some.source, c.args.replica, c.copy_pages.ensures.begun)

pub returns-clause-ok : goal.returns-clause-ok
returns-clause-ok g c = λ o h.
    let began_still = copied g (goal.at.returns-clause-ok g c).After-copy_pages o h in
    inr (record {
      mid = g.C.CommandSteps.mine c.copy_pages.new.self.steps;
      goes = began_still;
      ends = c.end_add.ensures.done c.args.replica o (rebuilding_has c.args.t c.args.replica o _ _ h began_still);
    })
