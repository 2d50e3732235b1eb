use Rattle.std.proofs.Common.{rules}
use Rattle.folder_target.proofs.object_files.ObjectFiles.list.Goals as goal

pub returns-clause-objects : goal.returns-clause-objects
returns-clause-objects g c = c.into_names.ensures.same c.args.prefix.now (search rules)
