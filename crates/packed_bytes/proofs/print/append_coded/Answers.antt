use Rattle.std.proofs.Common.{◌++◌, ap, ◌∙◌, sym, arith, append-nil}
use Rattle.image_runs.specs.Printing.{with_commas}
use Rattle.packed_bytes.specs.Packed.{part}
use Rattle.packed_bytes.proofs.RunLemmas.{coded_short}
use Rattle.packed_bytes.proofs.PartLemmas.{length-part}
use Rattle.packed_bytes.proofs.print.append_coded.Goals as goal

pub returns-clause-ok : goal.returns-clause-ok
returns-clause-ok c =
    let store = c.args.store.now.items in
    let here = c.loop-next.invariant in
    let kept = part store c.loop-next.next c.args.until in
    let none = coded_short kept (omega (arith, length-part store c.loop-next.next c.args.until here.within c.requires.within)) in
    let text = c.loop-next.into.items in
    sym (append-nil text) ∙ ap (λ rs. text ++ with_commas rs) (sym none) ∙ here.text
