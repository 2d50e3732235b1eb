use Rattle.std.proofs.Common.{◌≡◌, ◌<◌, ◌≤◌, length, sym, subst, rules}
use Rattle.volume_model.specs.PlainStep.{plain_step}
use Rattle.volume_core.specs.Answers.{failed_by, after_fail}
use Rattle.volume_core.specs.State.{State, state_of, told_of, modes_in, index_at}
use Rattle.volume_core.specs.Steps.{with_place, answered}
use Rattle.volume_core.specs.Sound.{IsSound}
use Rattle.open_calls.specs.Due.{due, forms}
use Rattle.volume_core.proofs.Falls.{place_left}
use Rattle.volume_core.proofs.FallsKept.{now_sound}
use Rattle.volume_core.specs.Answers.{IsAnsweredNow}
use Rattle.volume_core.proofs.Appends.{now_may, now_sees, fail_few}
use Rattle.volume_core.proofs.Moves.{may_same, may_still}
use Rattle.volume_core.proofs.world.World.answer_now.Goals as goal

pub returns-clause-sound : goal.returns-clause-sound
returns-clause-sound c =
    let s : State = state_of c.args.self.now in
    let call = c.args.call.now in
    let e : state_of c.push_answer.new.self ≡ answered (after_fail (with_place s) (failed_by call)) c.args.stream
    (length s.book.entries) call (plain_step (modes_in s) (told_of s) call).1 = search rules in
    subst IsSound (sym e) (now_sound s c.args.stream call c.requires.sound c.requires.stream c.requires.idle c.requires.free c.requires.now)

pub returns-clause-may : goal.returns-clause-may
returns-clause-may c =
    let is : IsAnsweredNow (state_of c.args.self.now) c.args.stream c.args.call.now c.push_answer.result
    (state_of c.push_answer.new.self) = search rules in
    now_may c.args.stream (state_of c.args.self.now) (state_of c.push_answer.new.self) c.args.call.now c.push_answer.result
    c.requires.now is (returns-clause-sound c)

pub returns-clause-sees : goal.returns-clause-sees
returns-clause-sees c =
    let is : IsAnsweredNow (state_of c.args.self.now) c.args.stream c.args.call.now c.push_answer.result
    (state_of c.push_answer.new.self) = search rules in
    now_sees c.args.stream (state_of c.args.self.now) (state_of c.push_answer.new.self) c.args.call.now c.push_answer.result
    is c.requires.idle

pub returns-in_err-reply-clause-may : goal.returns-in_err-reply-clause-may
returns-in_err-reply-clause-may c = may_same c.args.stream (state_of c.args.self.now) c.requires.sound

pub push_answer-requires-clause-spare : goal.push_answer-requires-clause-spare
push_answer-requires-clause-spare c =
    let s : State = state_of c.args.self.now in
    let e : state_of c.follow_fail.new.self ≡ after_fail (with_place s) (failed_by c.args.call.now) = search rules in
    subst (λ (x : State). 0 < x.book.spare) (sym e)
    (place_left (due s.whole (told_of s).volume) (forms s.whole s.nodes) s c.requires.sound.on
    (failed_by c.args.call.now))

pub returns-in_err-make_place-clause-may : goal.returns-in_err-make_place-clause-may
returns-in_err-make_place-clause-may c = may_still c.args.stream (state_of c.args.self.now) (state_of c.make_place.new.self)
    c.requires.sound (search rules)

pub push_answer-requires-clause-few : goal.push_answer-requires-clause-few
push_answer-requires-clause-few c =
    let s : State = state_of c.args.self.now in
    let e : state_of c.follow_fail.new.self ≡ after_fail (with_place s) (failed_by c.args.call.now) = search rules in
    subst (λ (x : State). index_at x.indices c.args.stream ≤ length x.book.entries) (sym e)
    (fail_few (with_place s) (failed_by c.args.call.now) c.args.stream
    (c.requires.sound.on.told.ordered.few c.args.stream c.requires.stream))
