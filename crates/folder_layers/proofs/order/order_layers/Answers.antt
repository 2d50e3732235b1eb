use Rattle.std.proofs.Common.{◌≡◌, ℕ, ◌+◌, List, Option, map, take, string_bytes, sym, subst, ◌∙◌, arith}
use Rattle.std.specs.List.{All}
use Rattle.std.proofs.lemmas.List.{length-map, take_all}
use Rattle.std.proofs.lemmas.List.Elements.{All-push}
use Rattle.folder_checks.specs.Snapshots.{metas_of}
use Rattle.folder_checks.specs.declared.parts.ImageParts.{ImageParts}
use Rattle.folder_layers.specs.Ordered.{IsSnapshotAt}
use Rattle.folder_layers.specs.Turns.{OneCanCome, AllComeInTurn}
use Rattle.folder_layers.proofs.OrderedLemmas.{places_of, one_can_come, place_within, places_more, are_ordered}
use Rattle.folder_layers.proofs.order.order_layers.Goals as goal

-- it is so of equal lists
same_lists : (ps qs : List (Option ℕ)) (xs ys : List ℕ) → ps ≡ qs → xs ≡ ys → AllComeInTurn ps ys → AllComeInTurn qs xs
same_lists ps qs xs ys one two come =
    subst (AllComeInTurn qs) (sym two) (subst (λ parents. AllComeInTurn parents ys) one come)

pub places_in_turn-requires : goal.places_in_turn-requires
places_in_turn-requires c =
    subst OneCanCome (sym c.deref.ensures.value) (one_can_come (map string_bytes c.args.names.now) (metas_of c.args.snapshots.now)
    c.in_ok-parents.parents.items c.requires.listed c.in_ok-parents.ensures c.requires.fit)

pub layer_at-requires-clause-within : goal.layer_at-requires-clause-within
layer_at-requires-clause-within c =
    let places = c.deref-place-items.result.now in
    let parents = c.in_ok-parents.parents.items in
    let come = same_lists c.deref.result.now parents places c.in_ok-places.places.items c.deref.ensures.value
    c.deref-place-items.ensures.value c.in_ok-places.ensures in
    let within = place_within (map string_bytes c.args.names.now) (metas_of c.args.snapshots.now) parents c.requires.listed
    c.in_ok-parents.ensures c.requires.fit places c.loop-place.place-index come c.loop-place-test.true in
    omega (arith, within, length-map c.args.snapshots.now (λ (p : ImageParts). p.meta))

pub loop-place-preserved : goal.loop-place-preserved
loop-place-preserved c =
    let IsSnapshot = IsSnapshotAt (map string_bytes c.args.names.now) (metas_of c.args.snapshots.now) in
    let layers = c.loop-place.layers.items in
    let layer = c.in_ok-layer.layer in
    let places = c.deref-place-items.result.now in
    record {
      places = subst (λ ls. places_of ls ≡ take (c.loop-place.place-index + 1) places) (sym c.in_ok-push.ensures.items)
          (places_more layers layer places c.loop-place.place-index c.loop-place-test.true c.loop-place.invariant.places
          c.in_ok-layer.ensures.place);
      each = subst (All IsSnapshot) (sym c.in_ok-push.ensures.items)
          (All-push IsSnapshot layers layer c.loop-place.invariant.each c.in_ok-layer.ensures.snapshot);
    }

pub returns : goal.returns
returns c =
    let places = c.deref-place-items.result.now in
    let parents = c.in_ok-parents.parents.items in
    let come = same_lists c.deref.result.now parents places c.in_ok-places.places.items c.deref.ensures.value
    c.deref-place-items.ensures.value c.in_ok-places.ensures in
    are_ordered (map string_bytes c.args.names.now) (metas_of c.args.snapshots.now) parents c.requires.listed
    c.in_ok-parents.ensures c.requires.fit places c.loop-place.layers.items come
    (c.loop-place.invariant.places ∙ take_all c.loop-place.place-index places c.loop-place-test.false) c.loop-place.invariant.each
