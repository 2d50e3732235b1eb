use Rattle.std.proofs.Common.{◌+◌, ◌<◌, length, sym, subst, arith}
use Rattle.replica_compare.specs.declared.holders.Holders.{Holders}
use Rattle.replica_compare.specs.Holders.{AreHolders}
use Rattle.replica_compare.proofs.HolderLemmas.{held_more, passed_more}
use Rattle.replica_compare.proofs.holders.find_holders.Goals as goal
use Rattle.replica_compare.proofs.holders.find_holders.Goals.{then-is_holder, else-is_holder}

pub loop-place-preserved : goal.loop-place-preserved
loop-place-preserved c =
    let a = c.args.one.now in
    let b = c.args.other.now in
    let place = c.loop-place.place in
    let less : place < length a.layers = omega (arith, c.loop-place-test.true, c.layer_count-place-end.ensures.value) in
    elim c.if-is_holder.branch [
      | then-is_holder w ↦
          subst (λ (h : Holders). AreHolders a b c.args.page (place + 1) h) (sym w.holders-is)
          (held_more a b c.args.page place c.loop-place.holders less c.loop-place.invariant)
      | else-is_holder w ↦
          subst (λ (h : Holders). AreHolders a b c.args.page (place + 1) h) (sym w.holders-is)
          (passed_more a b c.args.page place c.loop-place.holders (c.is_holder.ensures w.if-is_holder.false)
          c.loop-place.invariant)
    ]
