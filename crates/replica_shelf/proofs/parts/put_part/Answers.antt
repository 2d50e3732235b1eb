use Rattle.std.proofs.Common.{sym, ap, ◌∙◌}
use Rattle.replica_shelf.specs.Saving.{stamps_of}
use Rattle.replica_shelf.proofs.PartLemmas.{name_at}
use Rattle.replica_shelf.proofs.parts.put_part.Goals as goal

pub put_files-requires-clause-name : goal.put_files-requires-clause-name
put_files-requires-clause-name g c =
    ap (λ m. m.name) c.in_ok-told.ensures ∙ name_at (stamps_of c.args.meta.now) c.args.node.now c.args.place ∙ sym c.in_ok-image.ensures
