use Rattle.std.proofs.Common.{◌≡◌, ap, sym, subst, ◌∙◌}
use Rattle.journal_book.specs.declared.opening.Opening.{Opening}
use Rattle.volume_core.specs.Opened.{MayOpen, IsOpenedOn}
use Rattle.volume_core.specs.State.{state_of}
use Rattle.opened_world.specs.Opening.{opened_opening}
use Rattle.opened_world.proofs.OpensLemmas.{may_open, begins_there}
use Rattle.opened_world.proofs.opening.open_world.Goals as goal
use Rattle.opened_world.proofs.opening.open_world.Goals.{In_ok-opening}

opening_is : (c : In_ok-opening) → c.in_ok-opening.opening ≡ opened_opening c.args.nodes.items c.args.reasons.now
opening_is c = c.in_ok-opening.ensures ∙ ap (λ nodes. opened_opening nodes c.args.reasons.now) c.deref.ensures.value

pub open-requires : goal.open-requires
open-requires c =
    let (replicas, source, known) = c.requires.known in
    subst (λ (o : Opening). MayOpen c.args.size o c.args.nodes.items) (sym (opening_is (goal.at.open-requires c).In_ok-opening))
    (may_open c.args.size replicas source c.args.nodes.items c.args.reasons.now known)

pub returns-clause-spot : goal.returns-clause-spot
returns-clause-spot c =
    begins_there c.args.size c.args.streams c.args.nodes.items c.args.reasons.now (state_of c.in_ok-world.world)
    (subst (λ (o : Opening). IsOpenedOn c.args.size o c.args.nodes.items c.args.streams (state_of c.in_ok-world.world))
    (opening_is (goal.at.returns-clause-spot c).In_ok-opening) c.in_ok-world.ensures.begun)
