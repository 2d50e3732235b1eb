use Rattle.std.proofs.Common.{rules, ◌≡◌, [], ◌∷◌, ap, ◌∙◌}
use Rattle.session_tables.proofs.Desks.{sits}
use Rattle.session_tables.proofs.desk.sit_down.Goals as goal

pub returns-clause-sits : goal.returns-clause-sits
returns-clause-sits c =
    let line : c.push.new.self.items ≡ c.new.result ∷ [] = search rules in
    let split = c.split_off-at.ensures in
    sits c.args.desk.now c.split_off-at.result.seat c.args.first.now c.args.number c.new.result c.new-2.result
    (c.new-2.ensures ∙ ap (λ l. record { number = c.args.number; channels = l }) line)
    split.rests split.free split.last split.idle split.none c.requires.first.replicas
