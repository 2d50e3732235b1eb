use Rattle.std.proofs.Common.{◌≡◌, ◌≢◌, sym, subst, ◌∙◌, rules, refl}
use Rattle.std.proofs.lemmas.List.{get_or_default}
use Rattle.volume_model.specs.declared.mark.FoldOrDrop.{FoldOrDrop}
use Rattle.volume_model.specs.Purge.{CanBeDone}
use Rattle.coalesce.specs.Way.{IsWayOf, HasNoWay}
use Rattle.replica_node.specs.Node.{Node, blank}
use Rattle.replica_node.specs.Fold.{tree_of}
use Rattle.open_calls.specs.Calls.{node_at}
use Rattle.volume_core.specs.State.{State, state_of}
use Rattle.volume_maint.proofs.Purging.{IsPurging, can_told, told_can, one_way, not_onto_new, node_in}
use Rattle.volume_maint.proofs.fold.can_be_done.Goals as goal

pub returns-then-is_onto_new-clause-cannot : goal.returns-then-is_onto_new-clause-cannot
returns-then-is_onto_new-clause-cannot c = λ e can. not_onto_new (state_of c.args.world.now) c.args.part.now
    c.requires.sound can (c.if-is_onto_new.ensures.new refl)

pub returns-in-Some-clause-can : goal.returns-in-Some-clause-can
returns-in-Some-clause-can c =
    let left_index = c.index.result.now in
    λ e.
    let s : State = state_of c.args.world.now in
    let purging : IsPurging s = record { stream = c.requires.turn.0; own = c.requires.turn.2.own; idle = c.requires.turn.1 } in
    let read : left_index ≡ node_at s.nodes c.args.source = c.index.ensures
    ∙ get_or_default s.nodes c.args.source left_index (blank 0)
    (node_in s c.args.source c.requires.sound purging c.requires.read) in
    let same : c.in-Some.way ≡ c.args.part.now = search rules in
    let way : IsWayOf (tree_of left_index) left_index.on c.gone.result c.in-Some.way = c.in-Some.ensures in
    let can : CanBeDone (tree_of (node_at s.nodes c.args.source)) (node_at s.nodes c.args.source).on c.args.part.now =
    subst (λ (n : Node). CanBeDone (tree_of n) n.on c.args.part.now) read
    (subst (λ (f : FoldOrDrop). CanBeDone (tree_of left_index) left_index.on f) same way.1) in
    can_told s c.args.source c.requires.sound purging c.requires.read c.args.part.now can (c.if-is_onto_new.ensures.not refl)

pub returns-in-Some-clause-cannot : goal.returns-in-Some-clause-cannot
returns-in-Some-clause-cannot c =
    let left_index = c.index.result.now in
    λ e told.
    let s : State = state_of c.args.world.now in
    let purging : IsPurging s = record { stream = c.requires.turn.0; own = c.requires.turn.2.own; idle = c.requires.turn.1 } in
    let read : left_index ≡ node_at s.nodes c.args.source = c.index.ensures
    ∙ get_or_default s.nodes c.args.source left_index (blank 0)
    (node_in s c.args.source c.requires.sound purging c.requires.read) in
    let way : IsWayOf (tree_of left_index) left_index.on c.gone.result c.in-Some.way = c.in-Some.ensures in
    let can = told_can s c.args.source c.requires.sound purging c.requires.read c.args.part.now told in
    let same : c.in-Some.way ≡ c.args.part.now =
    one_way (tree_of left_index) left_index.on c.in-Some.way c.args.part.now way.1
    (subst (λ (n : Node). CanBeDone (tree_of n) n.on c.args.part.now) (sym read) can) (way.0 ∙ c.gone.ensures) in
    let off : c.in-Some.way ≢ c.args.part.now = search rules in
    off same

pub returns-in-None-clause-cannot : goal.returns-in-None-clause-cannot
returns-in-None-clause-cannot c = λ e told.
    let s : State = state_of c.args.world.now in
    let purging : IsPurging s = record { stream = c.requires.turn.0; own = c.requires.turn.2.own; idle = c.requires.turn.1 } in
    let read : c.index.result.now ≡ node_at s.nodes c.args.source = c.index.ensures
    ∙ get_or_default s.nodes c.args.source c.index.result.now (blank 0)
    (node_in s c.args.source c.requires.sound purging c.requires.read) in
    let no : HasNoWay (tree_of c.index.result.now) c.index.result.now.on c.gone.result = c.in-None.ensures in
    let can = told_can s c.args.source c.requires.sound purging c.requires.read c.args.part.now told in
    no c.args.part.now (sym c.gone.ensures) (subst (λ (n : Node). CanBeDone (tree_of n) n.on c.args.part.now) (sym read) can)
