use Rattle.std.proofs.Common.{rules, ◌≡◌, ℕ, ◌<◌, true, List, [], length, get_or, sym, ap, ◌∙◌}
use Rattle.std.specs.Str.{bytes_eq}
use Rattle.std.proofs.lemmas.Slice.Eq.{bytes_eq-Decides}
use Rattle.std.proofs.lemmas.List.{get_or_read}
use Rattle.open_rebuild.proofs.PlaceLemmas.{place_at}
use Rattle.open_rebuild.proofs.frozen_layers.FrozenLayers.place.Goals as goal

pub returns-then-eq : goal.returns-then-eq
returns-then-eq c =
    let items = c.self.inside.names.items in
    let place = c.loop-place.place in
    let inside : place < length c.args.self.now = search rules in
    let view : items ≡ c.args.self.now = search rules in
    let kept : place < length items = search rules in
    let is : bytes_eq c.index.result.now c.args.name.now ≡ true = search rules in
    let there : get_or items place [] ≡ c.index.result.now = sym (get_or_read items place c.index.result.now kept c.index.ensures []) in
    sym (place_at c.args.self.now c.args.name.now place inside c.loop-place.invariant
    (ap (λ (names : List (List ℕ)). get_or names place []) (sym view) ∙ there ∙ (bytes_eq-Decides c.index.result.now c.args.name.now).0 is))
