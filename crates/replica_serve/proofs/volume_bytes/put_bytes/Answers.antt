use Rattle.std.proofs.Common.{◌≡◌, ◌∙◌, ◌+◌, ◌*◌, ◌/◌, ◌%◌, ◌≤◌, length, slice_range, refl, ap, arith}
use Rattle.vol_units.specs.Bytes.{with_bytes_at}
use Rattle.vol_units.proofs.BytesLemmas.{length-with_bytes_at}
use Rattle.replica_serve.proofs.PartLemmas.{length-bytes_at, one_write_more}
use Rattle.replica_serve.proofs.volume_bytes.put_bytes.Goals as goal

pub loop-done-preserved : goal.loop-done-preserved
loop-done-preserved c =
    let disk = c.args.node.now.disk in
    let now = c.loop-done.node.disk in
    let done = c.loop-done.done in
    let place = c.args.at + done in
    let piece = c.min-piece.result in
    let part = slice_range c.args.bytes.now done (done + piece) in
    let cut : place / 4096 * 4096 + place % 4096 ≡ place = omega arith in
    let within : done + piece ≤ length c.args.bytes.now = omega arith in
    let long : length part ≡ piece = length-bytes_at c.args.bytes.now done piece within in
    let put = c.in_ok-put_part.ensures ∙ ap (λ k. with_bytes_at now k part) cut in
    record {
      within = within;
      long = ap length put ∙ length-with_bytes_at now place part (omega (arith, long, c.loop-done.invariant.long))
          ∙ c.loop-done.invariant.long;
      put = one_write_more disk now c.put_part.new.node.disk c.args.bytes.now c.args.at done piece place c.requires within
          c.loop-done.invariant.put put refl;
    }
