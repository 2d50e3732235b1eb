use Rattle.std.proofs.Common.{◌≡◌, length, replicate, sym, subst, set, true, false, rules}
use Rattle.folder_layers.specs.Turns.{NoneCanCome, IsNextPlace}
use Rattle.folder_layers.proofs.TurnLemmas.{HaveCome, none_has_come, one_more, all_have_come}
use Rattle.folder_layers.proofs.turns.places_in_turn.Goals as goal

pub loop-place-init : goal.loop-place-init
loop-place-init c =
    let parents = c.args.parents.now in
    let done = c.in_ok-done.done.items in
    let items : done ≡ replicate (length parents) false = search rules in
    subst (λ places. HaveCome parents places done) (sym c.new-places.ensures.items) (none_has_come parents done items)

pub loop-place-preserved : goal.loop-place-preserved
loop-place-preserved c =
    let parents = c.args.parents.now in
    let done = c.loop-place.done.items in
    let place = c.in-Some.place in
    let next : IsNextPlace parents done place = subst (λ d. IsNextPlace parents d place) c.deref.ensures.value c.in-Some.ensures in
    subst (λ places. HaveCome parents places (set done place true))
    (sym c.in_ok-push.ensures.items) (one_more parents c.loop-place.places.items done place c.loop-place.invariant next)

pub returns : goal.returns
returns c =
    let parents = c.args.parents.now in
    all_have_come parents c.loop-place.places.items c.loop-place.done.items c.loop-place.invariant c.requires
    (subst (NoneCanCome parents) c.deref.ensures.value c.in_default.ensures)
