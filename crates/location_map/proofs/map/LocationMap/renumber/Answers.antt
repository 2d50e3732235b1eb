use Rattle.std.proofs.Common.{◌-◌, ◌++◌, ap, sym, ◌∙◌, arith, map, vec_len}
use Rattle.std.proofs.lemmas.List.{with_items_is}
use Rattle.location_map.specs.LocationMap.{index_without}
use Rattle.location_map.proofs.KnownLemmas.{unknown, map-known}
use Rattle.location_map.proofs.map.LocationMap.renumber.Goals as goal

pub returns : goal.returns
returns c =
    let learned = c.self.inside.learned in
    let behind = c.self.inside.block_count - vec_len learned in
    ap (λ xs. xs ++ unknown behind)
    (with_items_is learned c.renumber_all.new.indices (omega arith)
    ∙ c.renumber_all.ensures ∙ ap (map (index_without c.args.gone)) c.deref_mut.ensures.value)
    ∙ sym (map-known c.args.gone learned.items behind)
    ∙ ap (map (index_without c.args.gone)) c.self.view_is
