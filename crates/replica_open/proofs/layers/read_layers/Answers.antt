use Rattle.std.proofs.Common.{rules, sym, length, ◌<◌, ◌∙◌, append_assoc}
use Rattle.std.proofs.lemmas.List.Elements.{All-contains}
use Rattle.folder_layers.specs.declared.order.OrderedLayer.{OrderedLayer}
use Rattle.replica_open.proofs.LayerLemmas.{next_is, one_of, room_left, layers_next, turn_next, read_next, short_next, whole_next}
use Rattle.replica_open.proofs.layers.read_layers.Goals as goal

pub push_layer-requires-clause-room : goal.push_layer-requires-clause-room
push_layer-requires-clause-room g c =
    room_left _ c.loop-layer.tree c.args.layers.items c.loop-layer.yielded c.loop-layer.layer-iterator.rest.items
    c.next.new.self.rest.items c.in-Some.layer c.loop-layer.invariant.layers c.loop-layer.invariant.whole c.in-Some.ensures.steps.0
    c.requires.layers.few

pub push_layer-requires-clause-new : goal.push_layer-requires-clause-new
push_layer-requires-clause-new g c =
    (next_is c.loop-layer.tree c.loop-layer.layer-iterator.rest.items c.next.new.self.rest.items c.in-Some.layer
    c.in-Some.ensures.steps.0 c.loop-layer.invariant.turn).new

pub push_layer-requires-clause-parent : goal.push_layer-requires-clause-parent
push_layer-requires-clause-parent g c =
    (next_is c.loop-layer.tree c.loop-layer.layer-iterator.rest.items c.next.new.self.rest.items c.in-Some.layer
    c.in-Some.ensures.steps.0 c.loop-layer.invariant.turn).parent

pub loop-layer-preserved : goal.loop-layer-preserved
loop-layer-preserved g c =
    let inv = c.loop-layer.invariant in
    let all = c.args.layers.items in
    let rest = c.loop-layer.layer-iterator.rest.items in
    let left = c.next.new.self.rest.items in
    let x = c.in-Some.layer in
    let is = c.in-Some.ensures.steps.0 in
    let old = c.loop-layer.tree in
    let new = c.push_layer.new.self in
    record {
      whole = append_assoc c.loop-layer.yielded _ left ∙ whole_next all c.loop-layer.yielded rest left x inv.whole is;
      turn = turn_next old new x left c.in-Ok.image c.push_layer.ensures (next_is old rest left x is inv.turn);
      layers = layers_next _ old new c.loop-layer.yielded x c.in-Ok.image c.push_layer.ensures (search rules) inv.layers;
      read = read_next (g.S.Shelves.holds c.args.shelves.now) (g.S.Shelves.holds c.loop-layer.shelves) c.args.shelf c.args.size
          c.args.snapshots.now all old new x c.in-Ok.image c.index-snapshots-place.result c.in_ok-image.field-0
          c.push_layer.ensures inv.same c.in-Ok.is (one_of all c.loop-layer.yielded rest left x inv.whole is)
          (sym c.index-snapshots-place.is) inv.read c.in_ok-image.ensures.told;
      same = search rules;
      faults = search rules;
    }

pub returns-in-Err-clause-told : goal.returns-in-Err-clause-told
returns-in-Err-clause-told g c =
    let all = c.args.layers.items in
    let x = c.in-Some.layer in
    short_next (g.S.Shelves.holds c.args.shelves.now) (g.S.Shelves.holds c.loop-layer.shelves) c.args.shelf c.args.size x.place
    c.args.snapshots.now all c.in-Err.damage c.index-snapshots-place.result c.in_ok-image.field-0 c.loop-layer.invariant.same
    c.in-Err.is
    (All-contains (λ (l : OrderedLayer). l.place < length c.args.snapshots.now) all x c.requires.layers.within
    (one_of all c.loop-layer.yielded c.loop-layer.layer-iterator.rest.items c.next.new.self.rest.items x c.loop-layer.invariant.whole
    c.in-Some.ensures.steps.0))
    (sym c.index-snapshots-place.is) c.in_ok-image.ensures.told
