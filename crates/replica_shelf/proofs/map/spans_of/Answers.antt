use Rattle.std.proofs.Common.{◌+◌, sym, subst}
use Rattle.replica_node.specs.Places.{own_at}
use Rattle.replica_shelf.specs.Saving.{ListsBelow}
use Rattle.replica_shelf.proofs.SpanLemmas.{lists_run, lists_on}
use Rattle.replica_shelf.proofs.map.spans_of.Goals as goal

pub loop-first-preserved : goal.loop-first-preserved
loop-first-preserved c =
    let own = own_at c.args.node.now c.args.place in
    let end = c.end_of_run-end.result in
    record {
      listed = lists_on c.push.new.self.items own (end + 1) c.next_own-first-in-loop-first.result
          c.next_own-first-in-loop-first.ensures
          (subst (λ ss. ListsBelow ss own (end + 1)) (sym c.in_ok-push.ensures.items)
          (lists_run c.loop-first.spans.items own c.loop-first.first end c.loop-first.invariant.listed c.end_of_run-end.ensures));
      own = c.next_own-first-in-loop-first.ensures.there;
    }
