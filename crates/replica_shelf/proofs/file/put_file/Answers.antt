use Rattle.replica_shelf.proofs.FileLemmas.{put_is}
use Rattle.replica_shelf.proofs.file.put_file.Goals as goal

pub returns-clause-ok : goal.returns-clause-ok
returns-clause-ok g c =
    put_is c.args.shelf c.args.file.now c.args.bytes.now
    (g.S.Shelves.holds c.args.shelves.now) _ (g.S.Shelves.holds c.write_at.new.self) c.write_at.result
    c.in_ok-remove.ensures.ok c.write_at.ensures.ok
