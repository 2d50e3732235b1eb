use Rattle.std.proofs.Common.{rules}
use Rattle.open_calls.specs.Calls.{open_at}
use Rattle.volume_core.specs.State.{State, state_of}
use Rattle.volume_maint.specs.Answers.{AcksPart}
use Rattle.volume_maint.proofs.Owes.{acked_goes}
use Rattle.volume_maint.proofs.WholeSound.{acks_kept}
use Rattle.volume_core.proofs.Moves.{may_same}
use Rattle.volume_maint.proofs.whole_end.ack_whole.Goals as goal

pub returns-in-Taken-clause-sound : goal.returns-in-Taken-clause-sound
returns-in-Taken-clause-sound c =
    let s : State = state_of c.args.world.now in
    let acks : AcksPart s c.args.t c.args.replica (state_of c.ack_on.new.world) = search rules in
    acks_kept s (state_of c.ack_on.new.world) c.args.t c.args.replica c.requires.sound acks

pub returns-in-Taken-clause-may : goal.returns-in-Taken-clause-may
returns-in-Taken-clause-may c = λ i stands.
    let s : State = state_of c.args.world.now in
    let s2 : State = state_of c.ack_on.new.world in
    let acks : AcksPart s c.args.t c.args.replica s2 = search rules in
    acked_goes (open_at s.calls i).stream s s2 (returns-in-Taken-clause-sound c) acks.w c.args.replica acks.state

pub returns-in_default-clause-may : goal.returns-in_default-clause-may
returns-in_default-clause-may c = λ at stands. may_same _ (state_of c.args.world.now) c.requires.sound

pub returns-in-Apart-clause-may : goal.returns-in-Apart-clause-may
returns-in-Apart-clause-may c = λ at stands. may_same _ (state_of c.args.world.now) c.requires.sound
