use Rattle.std.proofs.Common.{◌≡◌, sym, subst, rules}
use Rattle.std.specs.Prelude.{Some}
use Rattle.volume_core.specs.State.{State, state_of}
use Rattle.volume_core.specs.Sound.{IsSound}
use Rattle.volume_core.specs.Streams.{MayGo}
use Rattle.volume_core.proofs.TurnLemmas.{for_asker}
use Rattle.open_rebuild.specs.Rebuild.{IsReplica}
use Rattle.open_calls.specs.Calls.{node_at}
use Rattle.volume_rebuild.specs.Answers.{Promotes}
use Rattle.volume_rebuild.proofs.Promoted.{promoted_kept, promoted_goes}
use Rattle.volume_core.proofs.Moves.{may_same, may_still}
use Rattle.volume_rebuild.proofs.Left.{source_there, target_there}
use Rattle.volume_rebuild.proofs.promotion.promote.Goals as goal

pub returns-clause-sound : goal.returns-clause-sound
returns-clause-sound c =
    let s : State = state_of c.args.world.now in
    let s2 : State = state_of c.end_first.new.world in
    let done : Promotes s c.args.t s2 = search rules in
    let source : IsReplica (node_at s.nodes done.b.source) c.replica_blocks-source.result = c.replica_blocks-source.ensures in
    let target : IsReplica (node_at s.nodes done.b.target) c.replica_blocks-target.result = c.replica_blocks-target.ensures in
    subst IsSound (sym done.state) (promoted_kept s c.args.t done.b c.replica_blocks-source.result
    c.replica_blocks-target.result c.requires.sound done.turn done.past done.all source target)

pub returns-clause-may : goal.returns-clause-may
returns-clause-may c =
    let s : State = state_of c.args.world.now in
    let s2 : State = state_of c.end_first.new.world in
    let done : Promotes s c.args.t s2 = search rules in
    for_asker s c.args.t 0 (λ stream. MayGo stream s s2) done.turn.stands
    (promoted_goes s s2 done.b.target c.requires.sound (returns-clause-sound c) done.state)

pub returns-then-not-free_turn_at-clause-may : goal.returns-then-not-free_turn_at-clause-may
returns-then-not-free_turn_at-clause-may c = λ at stands. may_same _ (state_of c.args.world.now) c.requires.sound

pub returns-in_default-clause-may : goal.returns-in_default-clause-may
returns-in_default-clause-may c = λ at stands. may_same _ (state_of c.args.world.now) c.requires.sound

pub returns-then-not-rebuild-clause-may : goal.returns-then-not-rebuild-clause-may
returns-then-not-rebuild-clause-may c = λ at stands. may_still _ (state_of c.args.world.now) (state_of c.then-not-rebuild.world)
    c.requires.sound (search rules)

pub replica_blocks-source-requires : goal.replica_blocks-source-requires
replica_blocks-source-requires c =
    let s : State = state_of c.args.world.now in
    let begun : s.rebuild ≡ Some c.in-Some.rebuild = search rules in
    source_there s c.in-Some.rebuild c.requires.sound begun

pub replica_blocks-target-requires : goal.replica_blocks-target-requires
replica_blocks-target-requires c =
    let s : State = state_of c.args.world.now in
    let begun : s.rebuild ≡ Some c.in-Some.rebuild = search rules in
    target_there s c.in-Some.rebuild c.requires.sound begun
