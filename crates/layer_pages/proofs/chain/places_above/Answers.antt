use Rattle.std.proofs.Common.{◌≡◌, ℕ, ◌<◌, ◌+◌, ◌∷◌, ◌++◌, [], List, drop, map, length, Option, sym, ap, subst, ◌∙◌, arith}
use Rattle.std.proofs.lemmas.List.{append-nil, append_assoc, map-append}
use Rattle.volume_model.specs.Snapshots.{Snapshot}
use Rattle.replica_node.specs.Fold.{tree_of}
use Rattle.layer_pages.specs.Chains.{chain_in, down_to}
use Rattle.layer_pages.specs.Places.{ArePlaces, snapshot_at}
use Rattle.layer_pages.proofs.ChainLemmas.{chain_passes, part_ends, part_takes}
use Rattle.layer_pages.proofs.ListLemmas.{each_more}
use Rattle.layer_pages.proofs.chain.places_above.Goals as goal
use Rattle.layer_pages.proofs.chain.places_above.Goals.{then-is_named+else-is_named-2+in_ok-push, else-is_named}

-- the walk has come to the base
pub returns-then-is_named-2 : goal.returns-then-is_named-2
returns-then-is_named-2 c =
    let ks = c.args.node.now.layers in
    let less : c.loop-place.place < length ks = omega (arith, c.loop-place-test.true, c.layer_count-count.ensures.value) in
    let front = map (snapshot_at ks) c.loop-place.places.items in
    record {
      within = c.loop-place.invariant.within;
      chain = sym (append-nil front)
          ∙ ap (λ (ss : List Snapshot). front ++ ss) (sym (part_ends ks c.loop-place.place c.loop-place.wanted c.meta-meta.result.now less
          c.meta-meta.ensures c.args.base.now (sym c.is_named.ensures ∙ c.if-is_named.true)
          (sym c.is_named-then-is_named.ensures ∙ c.if-is_named-2.true)))
          ∙ c.loop-place.invariant.chain;
    }

pub loop-place-preserved : goal.loop-place-preserved
loop-place-preserved c =
    let node = c.args.node.now in
    let ks = c.args.node.now.layers in
    let place = c.loop-place.place in
    let base = c.args.base.now in
    let m = c.meta-meta.result.now in
    let places = c.loop-place.places.items in
    let front = map (snapshot_at ks) places in
    let less : place < length ks = omega (arith, c.loop-place-test.true, c.layer_count-count.ensures.value) in
    let rest = λ (want : Option (List ℕ)). down_to base (chain_in (drop (place + 1) (tree_of node)) want) in
    elim c.if-is_named.branch [
      | then-is_named+else-is_named-2+in_ok-push w ↦
          let items : c.if-is_named.places.items ≡ places ++ place ∷ [] = ap (λ v. v.items) w.places-is ∙ w.in_ok-push.ensures.items in
          record {
            within = subst (ArePlaces node) (sym items)
                (each_more places place (λ p. p < length ks) c.loop-place.invariant.within less);
            chain = ap (λ (ps : List ℕ). map (snapshot_at ks) ps ++ rest c.if-is_named.wanted) items
                ∙ ap (λ want. map (snapshot_at ks) (places ++ place ∷ []) ++ rest want) w.wanted-is
                ∙ ap (λ (ss : List Snapshot). ss ++ rest m.parent) (map-append (snapshot_at ks) places (place ∷ []))
                ∙ append_assoc front (snapshot_at ks place ∷ []) (rest m.parent)
                ∙ ap (λ (ss : List Snapshot). front ++ ss) (sym (part_takes ks place c.loop-place.wanted m less c.meta-meta.ensures base
                (sym c.is_named.ensures ∙ w.if-is_named.true) (sym w.is_named-then-is_named.ensures ∙ w.if-is_named-2.false)))
                ∙ c.loop-place.invariant.chain;
          }
      | else-is_named w ↦
          let items : c.if-is_named.places.items ≡ places = ap (λ v. v.items) w.places-is in
          record {
            within = subst (ArePlaces node) (sym items) c.loop-place.invariant.within;
            chain = ap (λ (ps : List ℕ). map (snapshot_at ks) ps ++ rest c.if-is_named.wanted) items
                ∙ ap (λ want. front ++ rest want) w.wanted-is
                ∙ ap (λ (ss : List Snapshot). front ++ down_to base ss) (sym (chain_passes ks place c.loop-place.wanted m less
                c.meta-meta.ensures (sym c.is_named.ensures ∙ w.if-is_named.false)))
                ∙ c.loop-place.invariant.chain;
          }
    ]
