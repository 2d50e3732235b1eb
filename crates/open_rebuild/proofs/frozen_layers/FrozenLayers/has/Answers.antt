use Rattle.std.proofs.Common.{rules, ◌≡◌, length, arith}
use Rattle.std.proofs.lemmas.Bool.Decides.{nat_tests}
use Rattle.open_rebuild.specs.Listed.{place_of}
use Rattle.open_rebuild.proofs.ListedLemmas.{placed}
use Rattle.open_rebuild.proofs.FrozenLemmas.{place_there}
use Rattle.open_rebuild.proofs.frozen_layers.FrozenLayers.has.Goals as goal

pub returns : goal.returns
returns c =
    let names = c.args.self.now in
    let name = c.args.name.now in
    let count : c.len.result ≡ length names = search rules in
    let place : c.place.result ≡ place_of names name = c.place.ensures in (
      λ is. place_there names name (grind (arith, nat_tests, is, count, place)),
      λ there. grind (arith, nat_tests, placed names name there, count, place),
    )
