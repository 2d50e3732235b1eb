use Rattle.std.proofs.Common.{ap, ◌∙◌, ◌+◌, length}
use Rattle.shelf_traits.specs.Files.{stretched}
use Rattle.shelf_memory.specs.Kept.{Kept}
use Rattle.shelf_memory.proofs.WrittenLemmas.{write_back}
use Rattle.shelf_memory.proofs.kept_file.KeptFile.write.Goals as goal

pub returns-clause-ok : goal.returns-clause-ok
returns-clause-ok c =
    let bytes = c.lengthen.new.bytes in
    let end = c.args.at + length c.args.bytes.now in
    let long = c.in_ok-lengthen.ensures ∙ ap (λ (k : Kept). stretched k.held end) c.self.view_is in
    write_back bytes.len c.args.at c.args.self.now.held bytes.items c.deref_mut.result.now c.put_at.new.held c.args.bytes.now
    bytes.ok.0 c.deref_mut.ensures.value long c.put_at.ensures
