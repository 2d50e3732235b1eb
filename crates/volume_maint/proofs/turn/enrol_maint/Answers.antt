use Rattle.std.proofs.Common.{◌≡◌, length, sym, subst, refl, rules}
use Rattle.open_calls.specs.declared.maint.MaintCall.{MaintCall}
use Rattle.volume_core.specs.declared.world.World.{World}
use Rattle.volume_core.specs.State.{State, state_of}
use Rattle.volume_core.specs.Sound.{IsSound}
use Rattle.volume_maint.specs.Steps.{maint_enrolled}
use Rattle.volume_maint.proofs.TurnSound.{enrolled_kept}
use Rattle.volume_maint.proofs.TurnStreams.{enrolled_goes}
use Rattle.volume_core.proofs.Moves.{may_still}
use Rattle.volume_maint.proofs.turn.enrol_maint.Goals as goal

pub returns-clause-sound : goal.returns-clause-sound
returns-clause-sound c =
    let s : State = state_of c.args.world.now in
    let call : MaintCall = record { stream = c.args.stream; saw = length s.book.entries; command = c.args.command.now } in
    let after : World = record c.args.world.now {
      maint = c.enrol-number.new.self;
      commands = c.push.new.self;
      journal =
          c.reserve-3.new.self;
    } in
    let is : state_of after ≡ maint_enrolled s c.enrol-number.result call = search rules in
    subst IsSound (sym is) (enrolled_kept s c.enrol-number.result call c.requires.sound c.requires.stream c.requires.idle
    c.requires.free c.requires.wants refl (search rules))

pub returns-clause-may : goal.returns-clause-may
returns-clause-may c =
    let s : State = state_of c.args.world.now in
    let call : MaintCall = record { stream = c.args.stream; saw = length s.book.entries; command = c.args.command.now } in
    let after : World = record c.args.world.now {
      maint = c.enrol-number.new.self;
      commands = c.push.new.self;
      journal =
          c.reserve-3.new.self;
    } in
    let is : state_of after ≡ maint_enrolled s c.enrol-number.result call = search rules in
    enrolled_goes s (state_of after) c.requires.sound (returns-clause-sound c) c.enrol-number.result call is

pub returns-in_err-reserve-clause-may : goal.returns-in_err-reserve-clause-may
returns-in_err-reserve-clause-may c = may_still c.args.stream (state_of c.args.world.now) _ c.requires.sound (search rules)

pub returns-in_err-reserve-2-clause-may : goal.returns-in_err-reserve-2-clause-may
returns-in_err-reserve-2-clause-may c = may_still c.args.stream (state_of c.args.world.now) _ c.requires.sound (search rules)

pub returns-in_err-reserve-3-clause-may : goal.returns-in_err-reserve-3-clause-may
returns-in_err-reserve-3-clause-may c = may_still c.args.stream (state_of c.args.world.now) _ c.requires.sound (search rules)
