use Rattle.std.proofs.Common.{◌≡◌, sym, subst, rules}
use Rattle.open_calls.specs.Maint.{command_at}
use Rattle.volume_core.specs.State.{State, state_of}
use Rattle.volume_core.specs.Sound.{IsSound}
use Rattle.volume_core.specs.Streams.{MayGo}
use Rattle.volume_core.specs.Turn.{turn_ended, IsFreeTurn}
use Rattle.volume_maint.specs.Answers.{MayEnd}
use Rattle.volume_maint.proofs.TurnSound.{ended_kept}
use Rattle.volume_core.proofs.TurnLemmas.{for_asker}
use Rattle.volume_maint.proofs.TurnStreams.{ended_goes}
use Rattle.volume_core.proofs.Moves.{may_same}
use Rattle.volume_maint.proofs.turn.end_maint.Goals as goal

pub returns-clause-sound : goal.returns-clause-sound
returns-clause-sound c =
    let s : State = state_of c.args.world.now in
    let turn : IsFreeTurn s c.args.t = search rules in
    let may : MayEnd s (command_at s.commands 0).command c.args.reply = search rules in
    let is : state_of c.end_first.new.world ≡ turn_ended s c.args.reply = c.end_first.ensures.state in
    subst IsSound (sym is) (ended_kept s c.args.t c.requires.sound turn c.args.reply may)

pub returns-clause-may : goal.returns-clause-may
returns-clause-may c =
    let s : State = state_of c.args.world.now in
    let turn : IsFreeTurn s c.args.t = search rules in
    let is : state_of c.end_first.new.world ≡ turn_ended s c.args.reply = c.end_first.ensures.state in
    for_asker s c.args.t 0 (λ stream. MayGo stream s (state_of c.end_first.new.world)) turn.stands
    (ended_goes s (state_of c.end_first.new.world) c.requires.sound (returns-clause-sound c) c.args.reply is)

pub returns-then-not-free_turn_at-clause-may : goal.returns-then-not-free_turn_at-clause-may
returns-then-not-free_turn_at-clause-may c = λ at stands. may_same _ (state_of c.args.world.now) c.requires.sound

pub returns-then-not-may_end-clause-may : goal.returns-then-not-may_end-clause-may
returns-then-not-may_end-clause-may c = λ at stands. may_same _ (state_of c.args.world.now) c.requires.sound
