use Rattle.std.proofs.Common.{◌+◌, ◌*◌, ◌/◌, ◌%◌, ◌++◌, refl, ap, ◌∙◌, arith, append_assoc}
use Rattle.vol_units.specs.Bytes.{bytes_at}
use Rattle.replica_node.specs.Node.{Node}
use Rattle.replica_node.proofs.ReadLemmas.{piece_more}
use Rattle.replica_node.proofs.node.ReplicaNode.append_bytes.Goals as goal

pub loop-done-preserved : goal.loop-done-preserved
loop-done-preserved c =
    let i = c.loop-done.invariant in
    let disk = c.args.self.now.disk in
    let at = c.args.at in
    let done = c.loop-done.done in
    let piece = c.min-piece.result in
    let place = (at + done) / 4096 * 4096 + (at + done) % 4096 in
    let old = c.args.into.now.items in
    let is = c.in_ok-append_piece.ensures.bytes ∙ ap (λ (n : Node). c.loop-done.into.items ++ bytes_at n.disk place piece) i.same in
    record {
      read =
          is ∙ ap (λ l. l ++ bytes_at disk place piece) i.read
          ∙ append_assoc old (bytes_at disk at done) (bytes_at disk place piece)
          ∙ ap (λ l. old ++ l) (piece_more disk (bytes_at disk at done) (bytes_at disk place piece) at done place piece refl
          (omega arith) refl);
      within = omega (arith, i.within);
      same = c.append_piece.ensures.same ∙ i.same;
    }
