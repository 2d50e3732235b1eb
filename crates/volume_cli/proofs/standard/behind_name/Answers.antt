use Rattle.std.proofs.Common.{◌≡◌, IfOk, drop, ap, subst, ◌∙◌}
use Rattle.std.proofs.lemmas.Iterator.{items_from_collect}
use Rattle.std.proofs.lemmas.Iterator.Adapters.{YieldsList-from_skip, YieldsList-from_vec}
use Rattle.std.specs.Vec.Iter.{into_iter_items, into_iter_len}
use Rattle.volume_cli.proofs.standard.behind_name.Goals as goal

pub returns-in-Ok-collect-clause-words : goal.returns-in-Ok-collect-clause-words
returns-in-Ok-collect-clause-words c =
    let args = c.in-Ok.args in
    let source = c.skip.ensures.source in
    let all = YieldsList-from_vec (into_iter_items args) (ap into_iter_items source) (ap into_iter_len source ∙ args.rest.ok.0) in
    let rest = items_from_collect c.collect.result c.collect.ensures.ran (YieldsList-from_skip 1 all c.skip.ensures.count) in
    let words = c.in-Ok-collect.words in
    let same : words.items ≡ drop 1 (into_iter_items args) =
    subst (λ r. IfOk r (λ w. w.items ≡ drop 1 (into_iter_items args))) c.in-Ok-collect.is rest in
    rw c.in-Ok.is same
