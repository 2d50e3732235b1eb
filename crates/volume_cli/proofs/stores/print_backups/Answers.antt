use Rattle.volume_cli.proofs.StoreLemmas.{list_answers, list_leaves}
use Rattle.volume_cli.proofs.stores.print_backups.Goals as goal

pub returns-clause-answer : goal.returns-clause-answer
returns-clause-answer g c = λ tells.
    list_answers (g.T.Target.holds c.args.target.now) c.args.volume.now c.list_backups-listed.result c.end_of.result
    c.end_of.ensures (c.list_backups-listed.ensures.answer tells)

pub returns-clause-left : goal.returns-clause-left
returns-clause-left g c = λ tells.
    list_leaves (g.T.Target.holds c.args.target.now) c.args.volume.now _ _ _ c.list_backups-listed.result c.end_of.result
    c.end_of.ensures (c.list_backups-listed.ensures.whole tells) (c.list_backups-listed.ensures.prefix tells)
    (c.list_backups-listed.ensures.unwritten tells)
