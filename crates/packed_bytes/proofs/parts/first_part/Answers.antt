use Rattle.std.proofs.Common.{arith}
use Rattle.packed_bytes.proofs.PartLemmas.{first_part_of}
use Rattle.packed_bytes.proofs.parts.first_part.Goals as goal

pub returns : goal.returns
returns c =
    first_part_of c.args.store.now.items c.piece-piece.result.now c.args.at c.args.until _ c.piece-piece.ensures
    c.requires.order c.requires.within (omega arith)
