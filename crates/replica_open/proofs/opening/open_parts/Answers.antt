use Rattle.std.proofs.Common.{rules}
use Rattle.replica_open.proofs.AnswerLemmas.{misfit_is_told}
use Rattle.replica_open.proofs.opening.open_parts.Goals as goal

pub returns-in_ok-misfit_damage-in-Some-clause-told : goal.returns-in_ok-misfit_damage-in-Some-clause-told
returns-in_ok-misfit_damage-in-Some-clause-told g c =
    misfit_is_told (g.S.Shelves.holds c.args.shelves.now) c.args.shelf c.args.size c.args.parts c.in-Some.misfit
    c.in_ok-misfit_damage-in-Some.field-0 (search rules) (search rules)
