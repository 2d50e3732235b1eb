use Rattle.std.proofs.Common.{◌≡◌, List, length, set, ap, subst, ◌∙◌}
use Rattle.std.proofs.lemmas.List.{get_or_default}
use Rattle.vol_units.specs.Name.{sys_name}
use Rattle.volume_model.specs.declared.mode.Mode.{Mode}
use Rattle.volume_model.specs.declared.mode.Mode.TheVariants.{Wo}
use Rattle.replica_node.specs.Node.{Node, blank}
use Rattle.replica_node.specs.Held.{emptied}
use Rattle.step_answers.specs.declared.whole_op.WholeOp.TheVariants as whole
use Rattle.open_calls.specs.Calls.{node_at}
use Rattle.open_calls.specs.Whole.{AreSpared}
use Rattle.open_rebuild.specs.Claim.{IsNew}
use Rattle.volume_core.specs.State.{State, state_of}
use Rattle.volume_maint.specs.Steps.{barrier_modes, barrier_put, with_places}
use Rattle.volume_maint.proofs.Barriers.{begins_by, long_node, node_within}
use Rattle.volume_maint.proofs.barrier.begin_barrier.Goals as goal

pub returns-clause-ok : goal.returns-clause-ok
returns-clause-ok c =
    let s : State = state_of c.args.world.now in
    let source = c.args.source in
    let b = c.in_ok-rebuild.rebuild in
    let target = c.in_ok-blank.blank in
    let spares = c.in_ok-spares.spares in
    let read : c.index-node.result.now ≡ node_at s.nodes source =
    c.index-node.ensures ∙ get_or_default s.nodes source c.index-node.result.now (blank 0)
    (node_within s source c.requires.sound c.requires.source.read) in
    let begun = c.in_ok-rebuild.ensures in
    let spared : AreSpared (whole.Barrier c.args.target) (barrier_modes s c.args.target) (set s.nodes c.args.target target) spares =
    subst (λ (ms : List Mode). AreSpared (whole.Barrier c.args.target) (set ms c.args.target Wo)
    (set s.nodes c.args.target target) spares) c.modes-modes.ensures
    (subst (λ (ns : List Node). AreSpared (whole.Barrier c.args.target) (set c.modes-modes.result.now c.args.target Wo)
    (set ns c.args.target target) spares) c.deref.ensures.value c.in_ok-spares.ensures) in
    let is : state_of c.put_barrier.new.world ≡ barrier_put (with_places s) c.args.i b target spares =
    c.put_barrier.ensures ∙ ap (λ (x : State). barrier_put x c.args.i b target spares) c.in_ok-make_places.ensures.ok in
    begins_by s (state_of c.put_barrier.new.world) c.args.i c.args.target source b target spares c.requires.source begun.0
    begun.1 (long_node s source c.requires.sound c.requires.none c.requires.source.read)
    (subst (λ (n : Node). IsNew (length n.disk) n (sys_name n.number) b) read begun.2) (c.in_ok-blank.ensures ∙ ap emptied read) spared is
