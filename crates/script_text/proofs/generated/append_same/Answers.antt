use Rattle.std.proofs.Common.{◌≡◌, ◌+◌, ◌*◌, ◌%◌, ◌++◌, ◌∙◌, ap, replicate, arith}
use Rattle.std.proofs.lemmas.List.{take-replicate}
use Rattle.script_text.proofs.GeneratedLemmas.{more_same, all_same}
use Rattle.script_text.proofs.generated.append_same.Goals as goal

pub loop-i-preserved : goal.loop-i-preserved
loop-i-preserved c =
    let old = c.args.bytes.now.items in
    let next : c.loop-i._i * 256 + 256 ≡ (c.loop-i._i + 1) * 256 = omega arith in
    more_same old c.loop-i.bytes.items c.extend_from_slice.new.self.items (c.loop-i._i * 256) 256 c.args.byte
    c.loop-i.invariant c.in_ok-extend_from_slice.ensures.items
    ∙ ap (λ n. old ++ replicate n c.args.byte) next

pub returns : goal.returns
returns c =
    let all : c.loop-i._i * 256 + c.args.count % 256 ≡ c.args.count = omega (arith, c.loop-i.auto._i-end, c.loop-i-test.false) in
    all_same c.extend_from_slice-2.result c.args.bytes.now.items c.loop-i.bytes.items c.extend_from_slice-2.new.self.items _
    (c.loop-i._i * 256) (c.args.count % 256) c.args.count c.args.byte c.loop-i.invariant
    (take-replicate (c.args.count % 256) 256 c.args.byte (omega arith)) all
    c.extend_from_slice-2.ensures.items
