use Rattle.std.proofs.Common.{rules, ◌≡◌, map, ap, subst, ◌∙◌}
use Rattle.world_holder.specs.Rests.{IsSeated}
use Rattle.session_serve.proofs.session.Session.call.Goals as goal

pub of-lent-requires : goal.of-lent-requires
of-lent-requires g c =
    let is : c.args.self.now.number ≡ c.self.inside.number = search rules in
    record { rests = subst (IsSeated c.args.desk.now c.args.seat) is c.requires.may.seated }

pub returns-clause-ends : goal.returns-clause-ends
returns-clause-ends g c =
    let took : c.replace-channels.result.items ≡ c.args.self.now.channels = search rules in
    c.serve_lent-lent.ensures.ends ∙ ap (map (λ x. g.L.Line.ends x.line)) took
