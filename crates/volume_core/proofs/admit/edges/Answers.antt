use Rattle.std.proofs.Common.{◌≡◌, ℕ, ◌+◌, ◌-◌, ◌*◌, ◌<◌, List, length, ap, sym, ◌∙◌, arith}
use Rattle.vol_units.specs.Bytes.{bytes_at}
use Rattle.replica_node.specs.Node.{Node}
use Rattle.open_calls.proofs.ByteLemmas.{length-bytes_at}
use Rattle.volume_core.proofs.admit.edges.Goals as goal

pub returns-clause-edges : goal.returns-clause-edges
returns-clause-edges c =
    let disk : List ℕ = c.args.node.now.disk in
    let from : ℕ = c.args.range.first * 4096 in
    let until : ℕ = c.args.range.end * 4096 in
    let at : ℕ = c.args.at in
    let n : ℕ = c.args.count in
    let some : 0 < n = omega arith in
    let low = c.requires.covers at (omega arith) (omega arith) in
    let high = c.requires.covers (at + n - 1) (omega arith) (omega arith) in
    let front = c.in_ok-front.ensures.bytes in
    let back = c.in_ok-back.ensures.bytes
    ∙ ap (λ (x : Node). bytes_at x.disk (at + n) (until - at - n)) c.in_ok-front.ensures.same in
    let lf : length c.in_ok-front.front ≡ at - from = ap length front
    ∙ length-bytes_at disk from (at - from) (omega (arith, low.0, low.1, c.requires.inside)) in
    let lb : length c.in_ok-back.back ≡ until - at - n = ap length back
    ∙ length-bytes_at disk (at + n) (until - at - n) (omega (arith, high.1, c.requires.inside)) in
    record {
      before = front ∙ ap (bytes_at disk from) (sym lf);
      behind = back ∙ ap (bytes_at disk (at + n)) (sym lb);
      first = λ _. omega (arith, lf, low.0);
      whole = omega (arith, lf, lb, low.0, high.1);
    }
