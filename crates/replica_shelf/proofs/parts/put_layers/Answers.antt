use Rattle.std.proofs.Common.{rules, ◌≡◌, ◌<◌, length, arith, subst}
use Rattle.replica_shelf.specs.Saving.{stamps_of, AreWritten, IsBelow}
use Rattle.replica_shelf.proofs.CallLemmas.{both_then, both_and, both_map}
use Rattle.replica_shelf.proofs.ClearLemmas.{only_then}
use Rattle.replica_shelf.proofs.PartLemmas.{layers_more}
use Rattle.replica_shelf.proofs.parts.put_layers.Goals as goal

pub loop-place-preserved : goal.loop-place-preserved
loop-place-preserved g c =
    let shelf = c.args.shelf in
    let place = c.loop-place.place in
    let old = g.S.Shelves.holds c.args.shelves.now in
    let now = g.S.Shelves.holds c.loop-place.shelves in
    let new = g.S.Shelves.holds c.put_part.new.shelves in
    let e = c.in_ok-put_part.ensures in
    let count = c.layer_count-place-end.ensures in
    let within : place < length c.args.node.now.layers = omega (arith, count.value) in
    record {
      first = both_then old now new _ _ _ c.loop-place.invariant.first (both_and now new _ _ e.ok e.others)
          (λ x y z before (part, changes) clear.
          layers_more shelf (stamps_of c.args.meta.now) c.args.node.now place y z count.once within (before clear) part changes);
      only = both_then old now new _ _ _ c.loop-place.invariant.only e.others
          (λ x y z before changes. only_then shelf x y z before changes.only);
      faults = search rules;
    }

pub returns-clause-ok : goal.returns-clause-ok
returns-clause-ok g c =
    let count = length c.args.node.now.layers in
    let all : c.loop-place.place ≡ count = omega (arith, c.layer_count-place-end.ensures.value) in
    both_map (g.S.Shelves.holds c.args.shelves.now) (g.S.Shelves.holds c.loop-place.shelves) _ _ c.loop-place.invariant.first
    (λ x y first clear. subst (λ n. AreWritten (IsBelow n) (y c.args.shelf) (stamps_of c.args.meta.now) c.args.node.now) all (first clear))

pub returns-in_err-put_part-clause-others : goal.returns-in_err-put_part-clause-others
returns-in_err-put_part-clause-others g c =
    both_then (g.S.Shelves.holds c.args.shelves.now) (g.S.Shelves.holds c.loop-place.shelves)
    (g.S.Shelves.holds c.put_part.new.shelves) _ _ _ c.loop-place.invariant.only c.put_part.ensures.others
    (λ x y z before changes. only_then c.args.shelf x y z before changes.only)
