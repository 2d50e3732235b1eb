use Rattle.std.proofs.Common.{arith, ◌∙◌}
use Rattle.std.proofs.lemmas.List.{length-map}
use Rattle.door_traits.proofs.Coming.{GoBack-come, GoBack-none, tell}
use Rattle.door_traits.proofs.sessions.accept_all.Goals as goal

pub returns-in_err-sessions-clause-gone : goal.returns-in_err-sessions-clause-gone
returns-in_err-sessions-clause-gone g c = λ _. grind (arith, GoBack-none)

pub returns-in_err-open-clause-gone : goal.returns-in_err-open-clause-gone
returns-in_err-open-clause-gone g c = λ _. grind (arith, GoBack-none, c.open.ensures.coming, c.open.ensures.back)

pub returns-in-Err-clause-gone : goal.returns-in-Err-clause-gone
returns-in-Err-clause-gone g c = λ tells.
    let o = c.open.ensures in
    let l = c.let_in.ensures in
    let t = c.take_back_all.ensures in
    let sessions = c.let_in.new.sessions in
    let telling = tell g.D.In.Source.left g.D.In.Source.faults g.D.Out.Sink.contents g.D.Out.Sink.faults in
    GoBack-come _ _ _ _ _ _ _ _ _ (omega (arith, l.few, sessions.ok.0, length-map sessions.items telling)) o.coming
    (l.come tells) t.coming (l.back ∙ o.back) (t.back tells)
