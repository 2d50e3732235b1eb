use Rattle.std.proofs.Common.{rules}
use Rattle.replica_shelf.proofs.ClearLemmas.{only_of}
use Rattle.replica_shelf.proofs.clearing.clear_file.Goals as goal

pub returns-clause-only : goal.returns-clause-only
returns-clause-only g c =
    only_of c.args.shelf c.args.file.now (g.S.Shelves.holds c.args.shelves.now) (g.S.Shelves.holds c.remove.new.self)
    (search rules) c.remove.ensures.others
