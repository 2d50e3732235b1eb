use Rattle.std.proofs.Common.{rules, ◌≡◌, ◌<◌, [], length, get_or, sym, ap, ◌∙◌}
use Rattle.std.proofs.lemmas.List.{get_or_read}
use Rattle.open_rebuild.specs.Listed.{place_of}
use Rattle.open_rebuild.proofs.FrozenLemmas.{place_in_order}
use Rattle.open_rebuild.proofs.frozen_layers.FrozenLayers.name_at.Goals as goal

pub returns-clause-place : goal.returns-clause-place
returns-clause-place c =
    let names = c.self.inside.names.items in
    let inside : c.args.place < length names = search rules in
    let there : get_or names c.args.place [] ≡ c.index.result.now =
    sym (get_or_read names c.args.place c.index.result.now inside c.index.ensures []) in
    ap (λ ns. place_of ns c.index.result.now) (sym c.self.view_is)
    ∙ ap (place_of names) (sym there)
    ∙ place_in_order names c.args.place inside c.self.invariant
