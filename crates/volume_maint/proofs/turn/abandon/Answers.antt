use Rattle.std.proofs.Common.{◌≡◌, sym, subst, rules, arith}
use Rattle.volume_core.specs.State.{State, state_of}
use Rattle.volume_core.specs.Sound.{IsSound}
use Rattle.volume_core.specs.Streams.{MayGo}
use Rattle.volume_maint.specs.Steps.{turn_abandoned}
use Rattle.volume_maint.proofs.TurnSound.{abandoned_kept}
use Rattle.volume_core.proofs.TurnLemmas.{for_asker}
use Rattle.volume_maint.proofs.TurnStreams.{abandoned_goes}
use Rattle.volume_maint.proofs.turn.abandon.Goals as goal

-- the rebuild is given up
pub returns-in-Some-clause-sound : goal.returns-in-Some-clause-sound
returns-in-Some-clause-sound c =
    let s : State = state_of c.args.world.now in
    let is : state_of c.end_first.new.world ≡ turn_abandoned s = search rules in
    subst IsSound (sym is) (abandoned_kept s c.args.t c.requires.sound c.requires.turn)

pub returns-in-Some-clause-may : goal.returns-in-Some-clause-may
returns-in-Some-clause-may c =
    let s : State = state_of c.args.world.now in
    let s2 : State = state_of c.end_first.new.world in
    let is : s2 ≡ turn_abandoned s = search rules in
    for_asker s c.args.t 0 (λ stream. MayGo stream s s2) c.requires.turn.stands
    (abandoned_goes s s2 c.requires.sound (returns-in-Some-clause-sound c)
    (omega (arith, c.requires.turn.stands.within, c.requires.sound.maint.queued.paired)) is)

-- it was aborted
pub returns-in-Some-ended-clause-sound : goal.returns-in-Some-ended-clause-sound
returns-in-Some-ended-clause-sound c =
    let s : State = state_of c.args.world.now in
    let is : state_of c.end_first-in-Some-ended.new.world ≡ turn_abandoned s = search rules in
    subst IsSound (sym is) (abandoned_kept s c.args.t c.requires.sound c.requires.turn)

pub returns-in-Some-ended-clause-may : goal.returns-in-Some-ended-clause-may
returns-in-Some-ended-clause-may c =
    let s : State = state_of c.args.world.now in
    let s2 : State = state_of c.end_first-in-Some-ended.new.world in
    let is : s2 ≡ turn_abandoned s = search rules in
    for_asker s c.args.t 0 (λ stream. MayGo stream s s2) c.requires.turn.stands
    (abandoned_goes s s2 c.requires.sound (returns-in-Some-ended-clause-sound c)
    (omega (arith, c.requires.turn.stands.within, c.requires.sound.maint.queued.paired)) is)

-- the turn is given back
pub returns-in_default-ended-clause-sound : goal.returns-in_default-ended-clause-sound
returns-in_default-ended-clause-sound c =
    let s : State = state_of c.args.world.now in
    let is : state_of c.take_command.new.world ≡ turn_abandoned s = search rules in
    subst IsSound (sym is) (abandoned_kept s c.args.t c.requires.sound c.requires.turn)

pub returns-in_default-ended-clause-may : goal.returns-in_default-ended-clause-may
returns-in_default-ended-clause-may c =
    let s : State = state_of c.args.world.now in
    let s2 : State = state_of c.take_command.new.world in
    let is : s2 ≡ turn_abandoned s = search rules in
    for_asker s c.args.t 0 (λ stream. MayGo stream s s2) c.requires.turn.stands
    (abandoned_goes s s2 c.requires.sound (returns-in_default-ended-clause-sound c)
    (omega (arith, c.requires.turn.stands.within, c.requires.sound.maint.queued.paired)) is)
