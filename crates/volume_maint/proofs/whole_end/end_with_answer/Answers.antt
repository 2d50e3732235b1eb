use Rattle.std.proofs.Common.{◌≡◌, sym, subst}
use Rattle.open_calls.specs.Calls.{open_at}
use Rattle.open_calls.specs.Maint.{IsAskedBy}
use Rattle.volume_core.specs.State.{State, state_of}
use Rattle.volume_core.specs.Steps.{without_call}
use Rattle.volume_maint.proofs.whole_end.end_with_answer.Goals as goal

pub end_turn-requires-clause-asked : goal.end_turn-requires-clause-asked
end_turn-requires-clause-asked c =
    let s : State = state_of c.args.world.now in
    let stream = (open_at s.calls c.args.i).stream in
    let is : state_of c.take_call.new.world ≡ without_call s c.args.i = c.take_call.ensures in
    (stream, subst (λ (x : State). IsAskedBy x.maint x.commands stream c.args.op.now) (sym is) c.requires.asked)
