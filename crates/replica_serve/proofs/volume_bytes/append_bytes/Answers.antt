use Rattle.std.proofs.Common.{◌≡◌, ◌∙◌, ◌+◌, ◌*◌, ◌/◌, ◌%◌, slice_range, refl, ap, arith}
use Rattle.vol_units.specs.Bytes.{bytes_at}
use Rattle.replica_serve.proofs.PartLemmas.{part_of_block, one_part_more}
use Rattle.replica_serve.proofs.volume_bytes.append_bytes.Goals as goal

pub loop-done-preserved : goal.loop-done-preserved
loop-done-preserved c =
    let disk = c.args.node.now.disk in
    let place = c.args.at + c.loop-done.done in
    let start = place % 4096 in
    let piece = c.min-piece.result in
    let cut : place ≡ place / 4096 * 4096 + start = omega arith in
    let part : slice_range c.block-block.result.now start (start + piece) ≡ bytes_at disk place piece =
    ap (λ l. slice_range l start (start + piece)) c.block-block.ensures.disk
    ∙ part_of_block disk (place / 4096) start piece place (omega arith) cut in
    record {
      within = omega arith;
      read = c.in_ok-extend_from_slice.ensures.items
          ∙ one_part_more c.args.into.now.items c.loop-done.into.items (slice_range c.block-block.result.now start (start + piece)) disk
          c.args.at c.loop-done.done piece place c.loop-done.invariant.read part refl;
    }
