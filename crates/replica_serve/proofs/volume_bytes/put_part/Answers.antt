use Rattle.std.proofs.Common.{◌≡◌, ◌∙◌, ◌+◌, ◌*◌, ◌≤◌, length, ap, arith}
use Rattle.vol_units.specs.Bytes.{with_bytes_at}
use Rattle.replica_node.specs.Node.{Node}
use Rattle.replica_serve.proofs.PartLemmas.{over_part}
use Rattle.replica_serve.proofs.volume_bytes.put_part.Goals as goal

pub returns-then-overwrite : goal.returns-then-overwrite
returns-then-overwrite c =
    let disk = c.args.node.now.disk in
    let whole : c.args.block * 4096 + 4096 ≤ length disk = omega arith in
    ap (λ (n : Node). n.disk) (c.overwrite.ensures.put c.if-overwrite.true)
    ∙ over_part disk (c.args.block * 4096) 4096 c.args.start c.args.bytes.now whole c.requires.part

pub returns : goal.returns
returns c =
    let disk = c.args.node.now.disk in
    let now = c.overwrite.new.self.disk in
    let at = c.args.block * 4096 in
    let same : now ≡ disk = ap (λ (n : Node). n.disk) (c.overwrite.ensures.absent c.if-overwrite.false) in
    let whole : at + 4096 ≤ length now = omega (arith, ap length same) in
    let put : with_bytes_at now at c.deref.result.now ≡ with_bytes_at disk (at + c.args.start) c.args.bytes.now =
    ap (with_bytes_at now at) (c.deref.ensures.value ∙ c.in_ok-whole.ensures)
    ∙ over_part now at 4096 c.args.start c.args.bytes.now whole c.requires.part
    ∙ ap (λ d. with_bytes_at d (at + c.args.start) c.args.bytes.now) same in
    rw put at c.put_block-2.ensures
