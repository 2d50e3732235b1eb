use Rattle.std.proofs.Common.{rules}
use Rattle.std.specs.Prelude.{IfSome}
use Rattle.open_calls.specs.declared.whole.Whole.{Whole}
use Rattle.volume_core.specs.State.{State, state_of}
use Rattle.volume_maint.specs.Places.{IsWholeOn}
use Rattle.volume_maint.proofs.Owes.{ends_goes}
use Rattle.volume_maint.proofs.WholeAsked.{HasNonePending, ends_sound, ends_whole}
use Rattle.volume_core.proofs.Moves.{may_same}
use Rattle.volume_maint.proofs.whole_end.complete_whole.Goals as goal

pub returns-clause-sound : goal.returns-clause-sound
returns-clause-sound c =
    let s : State = state_of c.args.world.now in
    let at : (w : Whole) × IsWholeOn s c.args.t w c.in-Some.i = c.in-Some.ensures in
    let pending : IfSome s.whole (λ w. HasNonePending s w) = search rules in
    ends_sound s (state_of c.end_at.new.world) c.args.t c.in-Some.i c.requires.sound at pending c.end_at.ensures.done c.end_at.ensures.lost

pub returns-clause-ok : goal.returns-clause-ok
returns-clause-ok c =
    let s : State = state_of c.args.world.now in
    let at : (w : Whole) × IsWholeOn s c.args.t w c.in-Some.i = c.in-Some.ensures in
    let pending : IfSome s.whole (λ w. HasNonePending s w) = search rules in
    ends_whole s (state_of c.end_at.new.world) c.args.t c.in-Some.i c.requires.sound at pending c.end_at.ensures.done c.end_at.ensures.lost

pub returns-clause-may : goal.returns-clause-may
returns-clause-may c = ends_goes (state_of c.args.world.now) (state_of c.end_at.new.world) c.args.t c.requires.sound
    (returns-clause-sound c) (returns-clause-ok c)

pub returns-in_default-clause-may : goal.returns-in_default-clause-may
returns-in_default-clause-may c = λ at stands. may_same _ (state_of c.args.world.now) c.requires.sound

pub returns-in-Some-first_pending-clause-may : goal.returns-in-Some-first_pending-clause-may
returns-in-Some-first_pending-clause-may c = λ at stands. may_same _ (state_of c.args.world.now) c.requires.sound
