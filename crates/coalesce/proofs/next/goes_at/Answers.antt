use Rattle.std.proofs.Common.{◌≡◌, true, false, rules}
use Rattle.coalesce.proofs.FirstLemmas.{stays_unmarked, goes_drop, goes_fold, stays_more}
use Rattle.coalesce.proofs.next.goes_at.Goals as goal

pub returns-then-not-meta : goal.returns-then-not-meta
returns-then-not-meta c =
    let unmarked : c.meta-meta.result.now.marked ≡ false = search rules in
    stays_unmarked c.args.tree.now c.args.place c.meta-meta.result.now c.requires.within c.meta-meta.ensures c.requires.whole unmarked

pub returns-in-None : goal.returns-in-None
returns-in-None c =
    let marked : c.meta-meta.result.now.marked ≡ true = search rules in
    goes_drop c.args.tree.now c.args.place c.meta-meta.result.now c.requires.within c.meta-meta.ensures marked c.in-None.ensures.told

pub returns-in-One-Layer : goal.returns-in-One-Layer
returns-in-One-Layer c =
    let marked : c.meta-meta.result.now.marked ≡ true = search rules in
    goes_fold c.args.tree.now c.args.place c.meta-meta.result.now c.requires.within c.meta-meta.ensures c.in-One-Layer.child
    c.meta.result.now c.meta.ensures marked
    (rw c.in-One-Layer.field-0-is at c.in-One-Layer.ensures.told)

pub returns-in-More : goal.returns-in-More
returns-in-More c = stays_more c.args.tree.now c.args.place c.requires.within c.requires.whole c.in-More.ensures.told
