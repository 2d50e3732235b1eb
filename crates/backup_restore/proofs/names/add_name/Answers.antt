use Rattle.backup_restore.proofs.NamesLemmas.{name_added}
use Rattle.backup_restore.proofs.names.add_name.Goals as goal

pub returns-in_ok-push-in-Some : goal.returns-in_ok-push-in-Some
returns-in_ok-push-in-Some c =
    name_added c.args.prefix.now c.args.object.now c.in-Some.name c.args.names.now.items c.push.new.self.items
    c.in_ok-push-in-Some.ensures.items c.in-Some.ensures
