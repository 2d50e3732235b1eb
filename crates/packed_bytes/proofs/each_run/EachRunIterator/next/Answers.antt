use Rattle.std.proofs.Common.{Bool, ap, ◌∙◌, sym, arith}
use Rattle.packed_bytes.specs.Packed.{part, runs_in}
use Rattle.packed_bytes.proofs.RunLemmas.{coded_short}
use Rattle.packed_bytes.proofs.PartLemmas.{length-part}
use Rattle.packed_bytes.proofs.each_run.EachRunIterator.next.Goals as goal

pub returns-then-until-at-lt5-clause-steps : goal.returns-then-until-at-lt5-clause-steps
returns-then-until-at-lt5-clause-steps c =
    let j = c.self.inside in
    let kept = part j.store.now.items j.at j.until in
    let none =
    sym c.self.view_is ∙ ap (λ (b : Bool). runs_in b kept) c.if-self.true
    ∙ coded_short kept (omega (arith, length-part j.store.now.items j.at j.until c.self.invariant.0 c.self.invariant.1)) in
    (none, none)
