use Rattle.std.proofs.Common.{ℕ, eqb, ap, arith}
use Rattle.std.specs.List.{prefix_len}
use Rattle.image_runs.proofs.Prefixes.{prefix_len-drop}
use Rattle.image_runs.proofs.run.long_run_length.Goals as goal

pub returns-clause-value : goal.returns-clause-value
returns-clause-value c =
    let same = λ (x : ℕ). eqb x c.args.byte in
    let long = c.length_in_pieces-long.result in
    let short = c.length_in_pieces-short.result in
    let rest = c.split_at.result.1.now in
    let left = ap (prefix_len same) c.split_at.ensures.back in
    let last = ap (prefix_len same) c.split_at-2.ensures.back in
    let whole = prefix_len-drop same long c.args.bytes.now c.length_in_pieces-long.ensures.within in
    let more = prefix_len-drop same short rest c.length_in_pieces-short.ensures.within in
    omega (arith, left, last, whole, more, c.length_singly.ensures.value)
