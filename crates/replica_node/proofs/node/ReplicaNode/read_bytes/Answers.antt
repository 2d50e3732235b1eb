use Rattle.std.proofs.Common.{◌≡◌, ◌+◌, ◌-◌, ◌*◌, ◌/◌, ◌%◌, length, take, slice_range, ap, ◌∙◌, arith}
use Rattle.std.proofs.lemmas.List.Edits.{length-between}
use Rattle.std.proofs.lemmas.Slice.{take-put_mid}
use borrow.Rule.Slice.PartMut.{put_mid, same_len_mid}
use Rattle.vol_units.specs.Bytes.{bytes_at}
use Rattle.replica_node.specs.Node.{Node, disk_of_layer}
use Rattle.replica_node.proofs.ReadLemmas.{piece_more}
use Rattle.replica_node.proofs.node.ReplicaNode.read_bytes.Goals as goal

pub overflow_add-place : goal.overflow_add-place
overflow_add-place c = omega (arith, c.size-size.ensures.value, c.size-size.ensures.most)

pub overflow_cast-block : goal.overflow_cast-block
overflow_cast-block c = omega (arith, c.size-size.ensures.value, c.size-size.ensures.most)

pub loop-done-preserved : goal.loop-done-preserved
loop-done-preserved c =
    let i = c.loop-done.invariant in
    let disk = disk_of_layer c.args.self.now c.args.layer in
    let at = c.args.at in
    let done = c.loop-done.done in
    let piece = c.min-piece.result in
    let into = c.loop-done.into in
    let new = c.read_piece.new.into in
    let place = (at + done) / 4096 * 4096 + (at + done) % 4096 in
    let part = slice_range into done (done + piece) in
    let size : length part ≡ piece = length-between into done (done + piece) (omega arith) ∙ omega arith in
    let is : new ≡ bytes_at disk place piece =
    c.read_piece.ensures.bytes ∙ ap (λ (n : Node). bytes_at (disk_of_layer n c.args.layer) place (length part)) i.same
    ∙ ap (λ n. bytes_at disk place n) size in
    let same : length (put_mid done (done + piece - done) into new) ≡ length into =
    same_len_mid done (done + piece - done) into new c.read_piece.auto.into in
    record {
      read =
          take-put_mid done (done + piece - done) into new (done + piece) (omega (arith, c.read_piece.auto.into, size))
          (omega (arith, i.within))
          ∙ piece_more disk (take done into) new at done place piece is (omega arith) i.read;
      within = omega (arith, same, i.within);
      len = same ∙ i.len;
      same = c.read_piece.ensures.same ∙ i.same;
    }
