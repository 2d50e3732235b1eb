use Rattle.std.proofs.Common.{◌≡◌, ℕ, ◌+◌, ◌-◌, ◌≤◌, true, eqb, length, take, drop, sym, ap, ◌∙◌, arith, length-drop}
use Rattle.std.specs.List.{list_all}
use Rattle.image_runs.proofs.Prefixes.{le_prefix_len, le_prefix_len_more}
use Rattle.image_runs.proofs.run.length_in_pieces.Goals as goal

pub loop-count-preserved : goal.loop-count-preserved
loop-count-preserved g c =
    let bytes = c.args.bytes.now in
    let count = c.loop-count.count in
    let size = g.row.SIZE in
    let same = λ (x : ℕ). eqb x c.args.byte in
    let cut : size ≡ count + size - count = omega arith in
    let all : list_all same (take size (drop count bytes)) ≡ true =
    ap (λ n. list_all same (take n (drop count bytes))) cut ∙ sym c.is_all.ensures ∙ c.if-is_all.true in
    let inside : size ≤ length (drop count bytes) = rw length-drop (omega arith) in (
      le_prefix_len_more same count size bytes c.loop-count.invariant.0 (le_prefix_len same size (drop count bytes) inside all),
      omega arith,
    )
