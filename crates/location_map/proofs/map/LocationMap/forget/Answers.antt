use Rattle.std.proofs.Common.{◌-◌, ◌++◌, List, ℕ, length, take, drop, ap, sym, subst, ◌∙◌, arith, vec_len}
use Rattle.std.proofs.lemmas.List.{with_items_is}
use Rattle.location_map.specs.LocationMap.{Forgets}
use Rattle.location_map.proofs.KnownLemmas.{unknown, length-cleared, zeros_put, forgets_cleared}
use Rattle.location_map.proofs.map.LocationMap.forget.Goals as goal

pub returns-then-first-end : goal.returns-then-first-end
returns-then-first-end c =
    let learned = c.self.inside.learned in
    let behind = c.self.inside.block_count - vec_len learned in
    let range = c.args.range in
    let count = range.end - range.first in
    let now = c.deref_mut.result.now in
    let parts = zeros_put learned.items now c.fill.new.self range.first count c.deref_mut.ensures.value (omega arith)
    (c.fill.ensures.after (λ y same. same)) in
    let bytes = with_items_is learned (take range.first now ++ (c.fill.new.self ++ drop count (drop range.first now)))
    (ap length parts ∙ length-cleared learned.items range.first count (omega arith) ∙ sym learned.ok.0) ∙ parts in
    subst (λ (xs : List ℕ). Forgets c.args.self.now (xs ++ unknown behind) range) (sym bytes)
    (forgets_cleared learned.items c.args.self.now range behind c.if-first-end.true (omega arith) c.self.view_is)
