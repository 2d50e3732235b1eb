use Rattle.std.proofs.Common.{◌*◌, ◌<◌, length, sym, subst, rules}
use Rattle.std.specs.Prelude.{Contains}
use Rattle.vol_units.specs.declared.size.TheConstants.{PAGE_BYTES}
use Rattle.replica_node.specs.Node.{layer_names}
use Rattle.open_calls.specs.Calls.{node_at}
use Rattle.open_calls.specs.Maint.{command_at}
use Rattle.volume_core.specs.State.{State, state_of}
use Rattle.volume_core.specs.Sound.{IsSound}
use Rattle.volume_rebuild.specs.Places.{IsToCopy}
use Rattle.volume_rebuild.specs.Answers.{CopiesIn}
use Rattle.volume_rebuild.proofs.Left.{target_kept, target_inside, target_there}
use Rattle.volume_rebuild.proofs.Copied.{copied_kept, copied_goes}
use Rattle.volume_core.proofs.Moves.{may_same}
use Rattle.volume_rebuild.proofs.copying.copy_in.Goals as goal

pub take_page-requires-clause-kept : goal.take_page-requires-clause-kept
take_page-requires-clause-kept c =
    let s : State = state_of c.args.world.now in
    let found = c.in-Some.ensures in
    let is : IsToCopy s found.0 c.args.page.now = found.1 in
    subst (λ r. Contains (layer_names (node_at s.nodes r).layers) c.args.page.now.layer) found.2
    (target_kept s found.0 c.requires.sound is.begun c.args.page.now is.left.frozen)

pub take_page-requires-clause-inside : goal.take_page-requires-clause-inside
take_page-requires-clause-inside c =
    let s : State = state_of c.args.world.now in
    let found = c.in-Some.ensures in
    let is : IsToCopy s found.0 c.args.page.now = found.1 in
    subst (λ r. c.args.page.now.page * PAGE_BYTES < length (node_at s.nodes r).disk) found.2
    (target_inside s found.0 c.requires.sound is.begun c.args.page.now is.left.frozen)

pub returns-clause-sound : goal.returns-clause-sound
returns-clause-sound c =
    let s : State = state_of c.args.world.now in
    let s2 : State = state_of c.list.new.world in
    let copied : CopiesIn s c.args.page.now c.args.with.now c.take_page.new.with s2 = search rules in
    subst IsSound (sym copied.state) (copied_kept s copied.b c.args.page.now copied.after c.args.with.now c.requires.sound
    copied.is copied.puts (c.requires.page copied.b copied.is))

pub returns-clause-may : goal.returns-clause-may
returns-clause-may c =
    let s : State = state_of c.args.world.now in
    let s2 : State = state_of c.list.new.world in
    let copied : CopiesIn s c.args.page.now c.args.with.now c.take_page.new.with s2 = search rules in
    copied_goes s s2 copied.b c.args.page.now copied.after (command_at s.commands 0).stream (returns-clause-sound c) copied.state

pub returns-in_default-clause-may : goal.returns-in_default-clause-may
returns-in_default-clause-may c = may_same _ (state_of c.args.world.now) c.requires.sound

pub take_page-requires-clause-node : goal.take_page-requires-clause-node
take_page-requires-clause-node c =
    let s : State = state_of c.args.world.now in
    let found = c.in-Some.ensures in
    let is : IsToCopy s found.0 c.args.page.now = found.1 in
    subst (λ r. r < length s.nodes) found.2 (target_there s found.0 c.requires.sound is.begun)
