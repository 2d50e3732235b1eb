use Rattle.std.proofs.Common.{◌<◌, ap, refl, length, arith, length-take}
use Rattle.image_runs.specs.Runs.{runs}
use Rattle.packed_bytes.proofs.RunLemmas.{first_run, count_parts}
use Rattle.packed_bytes.proofs.count.pass_some.Goals as goal

pub returns-then-changes-eq0 : goal.returns-then-changes-eq0
returns-then-changes-eq0 c =
    let list = c.args.list.now in
    let some : 0 < length list = omega (arith, c.told-piece, ap length c.requires, length-take 129 list) in
    let first = first_run list _ c.run_length.result some refl c.run_length.ensures.value in
    let left = ap (λ l. length (runs l)) c.split_at.ensures.back in
    record {
      count = omega (arith, ap length first.1, left);
      few = omega (arith, first.0, c.split_at.ensures.back_len);
      less = omega (arith, first.0, c.split_at.ensures.back_len);
    }

pub returns : goal.returns
returns c =
    let list = c.args.list.now in
    let long : 128 < length list = omega (arith, c.told-piece, ap length c.requires, length-take 129 list) in
    let parts = count_parts 128 list long in
    let left = ap (λ l. length (runs l)) c.split_at-2.ensures.back in
    let piece = ap (λ l. length (runs l)) c.requires in
    record {
      count = omega (arith, parts, left, piece, c.from.ensures, c.changes_in-changes.ensures.value);
      few = omega (arith, c.split_at-2.ensures.back_len, c.from.ensures, c.changes_in-changes.ensures.most);
      less = omega (arith, c.split_at-2.ensures.back_len);
    }

pub split_at-requires-2 : goal.split_at-requires-2
split_at-requires-2 c = omega (arith, c.told-piece, ap length c.requires, length-take 129 c.args.list.now)
