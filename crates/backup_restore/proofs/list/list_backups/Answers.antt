use Rattle.std.proofs.Common.{◌≡◌, rules, subst}
use Rattle.outer_traits.specs.Passing.{WritesPrefix}
use Rattle.backup_restore.proofs.LineLemmas.{some_written}
use Rattle.backup_restore.proofs.list.list_backups.Goals as goal

pub returns-in-Ok-clause-prefix : goal.returns-in-Ok-clause-prefix
returns-in-Ok-clause-prefix g c t =
    let text = c.in-Ok.text.items in
    let same : c.deref.result.now ≡ text = search rules in
    some_written (g.T.Target.holds c.args.target.now) c.args.volume.now text (g.K.Sink.contents c.args.sink.now)
    (g.K.Sink.contents c.write.new.sink) (c.in-Ok.ensures.text t)
    (subst (WritesPrefix (g.K.Sink.contents c.args.sink.now) (g.K.Sink.contents c.write.new.sink)) same c.write.ensures.prefix)
