use Rattle.std.proofs.Common.{◌≡◌, ℕ, ◌+◌, ◌-◌, ◌*◌, List, ◌++◌, take, drop, sym, ap, ◌∙◌, arith}
use Rattle.vol_units.specs.Bytes.{bytes_at}
use Rattle.vol_units.proofs.BytesLemmas.{take-slice}
use Rattle.report_writer.proofs.digests.same_head.Goals as goal

-- the bytes so far and those of the next block
take_block : (disk : List ℕ) (block : ℕ) → take (block * 4096) disk ++ bytes_at disk (block * 4096) 4096 ≡ take ((block + 1) * 4096) disk
take_block disk block =
    let whole : block * 4096 + 4096 - block * 4096 ≡ 4096 = omega arith in
    let next : block * 4096 + 4096 ≡ (block + 1) * 4096 = omega arith in
    ap (λ n. take (block * 4096) disk ++ take n (drop (block * 4096) disk)) whole
    ∙ take-slice disk (block * 4096) 4096
    ∙ ap (λ n. take n disk) next

pub loop-block-preserved : goal.loop-block-preserved
loop-block-preserved c =
    let one = c.args.one.now.disk in
    let other = c.args.other.now.disk in
    let block = c.loop-block.block in
    sym (take_block one block)
    ∙ ap (λ l. l ++ bytes_at one (block * 4096) 4096) c.loop-block.invariant
    ∙ ap (λ l. take (block * 4096) other ++ l) (c.same_block.ensures.0 c.if-not-same_block.false)
    ∙ take_block other block
