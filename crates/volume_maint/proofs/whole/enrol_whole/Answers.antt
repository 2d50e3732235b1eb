use Rattle.std.proofs.Common.{◌≡◌, sym, subst, rules}
use Rattle.range_turns.specs.Order.{IsFresh}
use Rattle.open_calls.specs.Maint.{CanStill}
use Rattle.volume_core.specs.State.{State, state_of, modes_in}
use Rattle.volume_core.specs.Sound.{IsSound}
use Rattle.volume_maint.specs.Answers.{seen_by, snapshots_told}
use Rattle.volume_maint.specs.Steps.{whole_enrolled}
use Rattle.volume_maint.proofs.Asks.{asked_sound}
use Rattle.volume_maint.proofs.Owes.{asked_goes}
use Rattle.volume_core.proofs.Moves.{may_same, may_still}
use Rattle.volume_maint.proofs.whole.enrol_whole.Goals as goal

pub returns-clause-sound : goal.returns-clause-sound
returns-clause-sound c =
    let s : State = state_of c.args.world.now in
    let is : state_of c.put_whole.new.world ≡ whole_enrolled s c.in_ok-number.number c.args.stream (seen_by s c.args.op.now)
    c.args.op.now = search rules in
    let can : CanStill (snapshots_told s) (modes_in s) s.nodes c.args.op.now = search rules in
    let fresh : IsFresh s.tickets c.in_ok-number.number = search rules in
    subst IsSound (sym is) (asked_sound s c.in_ok-number.number c.args.stream c.args.op.now c.requires.sound
    c.bytes-size.ensures.size.whole fresh c.requires.stream c.requires.idle c.requires.asks can)

pub returns-clause-may : goal.returns-clause-may
returns-clause-may c =
    let s : State = state_of c.args.world.now in
    let is : state_of c.put_whole.new.world ≡ whole_enrolled s c.in_ok-number.number c.args.stream (seen_by s c.args.op.now)
    c.args.op.now = search rules in
    asked_goes s (state_of c.put_whole.new.world) c.requires.sound (returns-clause-sound c) c.in_ok-number.number
    c.args.stream (seen_by s c.args.op.now) c.args.op.now is

pub returns-then-not-can_be_asked-clause-may : goal.returns-then-not-can_be_asked-clause-may
returns-then-not-can_be_asked-clause-may c = may_same _ (state_of c.args.world.now) c.requires.sound

pub returns-in_err-number-clause-may : goal.returns-in_err-number-clause-may
returns-in_err-number-clause-may c =
    may_still c.args.stream (state_of c.args.world.now) (state_of c.put_whole.new.world) c.requires.sound (search rules)
