use Rattle.std.proofs.Common.{◌≡◌, ◌+◌, ◌<◌, ◌^◌, length, sym, subst, rules}
use Rattle.std.specs.Prelude.{None, Some}
use Rattle.volume_model.specs.declared.call.Reply.TheVariants as reply
use Rattle.volume_model.proofs.SpotLemmas.{has_source}
use Rattle.range_turns.specs.Order.{IsClear}
use Rattle.step_answers.specs.declared.whole_op.WholeOp.{WholeOp}
use Rattle.step_answers.specs.Asked.{command_of}
use Rattle.open_calls.specs.Calls.{open_at}
use Rattle.volume_core.specs.State.{State, state_of, modes_in}
use Rattle.volume_core.specs.Steps.{with_place}
use Rattle.volume_core.specs.Sound.{IsSound}
use Rattle.volume_core.specs.Streams.{MayGo}
use Rattle.volume_core.proofs.Keep.{calm_by}
use Rattle.volume_maint.specs.Answers.{refused_in, IsWaiting, MayBegin}
use Rattle.volume_maint.specs.Steps.{whole_ended}
use Rattle.volume_maint.proofs.BarrierSound.{starts_sound}
use Rattle.volume_maint.proofs.Begins.{free_source, asked_op}
use Rattle.volume_maint.proofs.WholeEnds.{refused_whole}
use Rattle.volume_maint.proofs.Owes.{for_caller, starts_goes, ended_goes}
use Rattle.volume_core.proofs.Moves.{may_same, may_still}
use Rattle.volume_maint.proofs.whole.admit_whole.Goals as goal

pub refuse-requires-clause-none : goal.refuse-requires-clause-none
refuse-requires-clause-none c =
    let s : State = state_of c.args.world.now in
    let at = c.waiting_whole_at-i.ensures in
    let clear : IsClear s.tickets c.waiting_whole_at-i.result = search rules in
    calm_by s c.waiting_whole_at-i.result c.requires.sound at.stands.within clear (λ w. at.waits)

pub begin-requires-clause-none : goal.begin-requires-clause-none
begin-requires-clause-none c =
    let s : State = state_of c.args.world.now in
    let at = c.waiting_whole_at-i.ensures in
    let clear : IsClear s.tickets c.waiting_whole_at-i.result = search rules in
    calm_by s c.waiting_whole_at-i.result c.requires.sound at.stands.within clear (λ w. at.waits)

pub returns-in-Some-refusal-clause-sound : goal.returns-in-Some-refusal-clause-sound
returns-in-Some-refusal-clause-sound c =
    let s : State = state_of c.args.world.now in
    let i = c.waiting_whole_at-i.result in
    let at = c.waiting_whole_at-i.ensures in
    let clear : IsClear s.tickets i = search rules in
    let asks : (open_at s.calls i).op ≡ Some c.op_at-op.result = search rules in
    let begins : MayBegin s c.op_at-op.result = search rules in
    let why : refused_in s (command_of c.op_at-op.result) ≡ Some c.in-Some-refusal.why = search rules in
    let is : state_of c.refuse.new.world ≡ whole_ended (with_place s) i c.op_at-op.result
    (reply.Refused c.in-Some-refusal.why) = search rules in
    subst IsSound (sym is) (refused_whole s i c.op_at-op.result c.in-Some-refusal.why c.requires.sound at.stands.within
    at.kind at.waits clear asks begins why)

pub long_source-source-requires-clause-read : goal.long_source-source-requires-clause-read
long_source-source-requires-clause-read c =
    let s : State = state_of c.args.world.now in
    let free : refused_in s (command_of c.op_at-op.result) ≡ None = search rules in
    let source = free_source s c.op_at-op.result free in
    has_source (modes_in s) source.0 source.1

pub returns-clause-sound : goal.returns-clause-sound
returns-clause-sound c =
    let s : State = state_of c.args.world.now in
    let i = c.waiting_whole_at-i.result in
    let op : WholeOp = c.op_at-op.result in
    let clear : IsClear s.tickets i = search rules in
    let asks : (open_at s.calls i).op ≡ Some op = search rules in
    let begins : MayBegin s op = search rules in
    let free : refused_in s (command_of op) ≡ None = search rules in
    let few : length s.book.entries < 2 ^ 63 = search rules in
    let waiting : IsWaiting s c.args.t i op = record { awaits = c.waiting_whole_at-i.ensures; asks = asks; clear = clear } in
    starts_sound s (state_of c.begin.new.world) c.args.t i c.long_source-source.result op c.requires.sound waiting begins
    free few c.long_source-source.ensures.long c.in_ok-begin.ensures.ok

pub returns-in-Some-refusal-clause-may : goal.returns-in-Some-refusal-clause-may
returns-in-Some-refusal-clause-may c =
    let s : State = state_of c.args.world.now in
    let s2 : State = state_of c.refuse.new.world in
    let i = c.waiting_whole_at-i.result in
    let op : WholeOp = c.op_at-op.result in
    let at = c.waiting_whole_at-i.ensures in
    let asks : (open_at s.calls i).op ≡ Some op = search rules in
    let is : s2 ≡ whole_ended (with_place s) i op (reply.Refused c.in-Some-refusal.why) = search rules in
    for_caller s c.args.t i (λ n. MayGo n s s2) at.stands
    (ended_goes s s2 c.requires.sound (returns-in-Some-refusal-clause-sound c) i (s.book.spare + 1) op
    (reply.Refused c.in-Some-refusal.why) (asked_op s i op c.requires.sound at.stands.within at.kind asks) is)

pub returns-clause-may : goal.returns-clause-may
returns-clause-may c =
    let s : State = state_of c.args.world.now in
    let s2 : State = state_of c.begin.new.world in
    let i = c.waiting_whole_at-i.result in
    let op : WholeOp = c.op_at-op.result in
    for_caller s c.args.t i (λ n. MayGo n s s2) c.waiting_whole_at-i.ensures.stands
    (starts_goes s s2 c.requires.sound (returns-clause-sound c) i op c.in_ok-begin.ensures.ok)

pub returns-in-Some-clause-may : goal.returns-in-Some-clause-may
returns-in-Some-clause-may c = λ at stands. may_same _ (state_of c.args.world.now) c.requires.sound

pub returns-then-not-may_begin-clause-may : goal.returns-then-not-may_begin-clause-may
returns-then-not-may_begin-clause-may c = λ at stands. may_same _ (state_of c.args.world.now) c.requires.sound

pub returns-in_err-place-clause-may : goal.returns-in_err-place-clause-may
returns-in_err-place-clause-may c =
    λ at stands. may_still _ (state_of c.args.world.now) (state_of c.refuse.new.world) c.requires.sound (search rules)

pub returns-in_err-begin-clause-may : goal.returns-in_err-begin-clause-may
returns-in_err-begin-clause-may c =
    λ at stands. may_still _ (state_of c.args.world.now) (state_of c.begin.new.world) c.requires.sound (search rules)
