use Rattle.std.proofs.Common.{◌≡◌, ℕ, length, sym, subst, rules, refl}
use Rattle.volume_model.specs.declared.call.Call.{Call}
use Rattle.volume_model.specs.declared.call.Refusal.TheVariants.{OutOfRange}
use Rattle.volume_model.specs.declared.call.Reply.TheVariants as reply
use Rattle.volume_core.specs.State.{State, state_of}
use Rattle.volume_core.specs.Answers.{placed_for}
use Rattle.volume_core.specs.Steps.{answered}
use Rattle.volume_core.specs.Sound.{IsSound}
use Rattle.volume_core.proofs.Keep.{refused_kept}
use Rattle.volume_core.proofs.Appends.{Appends, nothing_more, answered_may, answered_sees}
use Rattle.volume_core.proofs.Moves.{may_still}
use Rattle.volume_core.proofs.world.World.refuse_range.Goals as goal

more : (n : ℕ) (s : State) (c : Call) → Appends n s (placed_for s c)
more n s c = nothing_more n s (placed_for s c).book.spare (placed_for s c).book.spare_data

pub returns-clause-sound : goal.returns-clause-sound
returns-clause-sound c =
    let s : State = state_of c.args.self.now in
    let e : state_of c.push_answer.new.self ≡ answered (placed_for s c.args.call) c.args.stream (length s.book.entries) c.args.call
    (reply.Refused OutOfRange) = search rules in
    subst IsSound (sym e) (refused_kept s c.args.stream c.args.call c.requires.sound c.requires.stream c.requires.idle
    c.requires.free c.requires.range c.requires.refused)

pub returns-clause-may : goal.returns-clause-may
returns-clause-may c =
    let s : State = state_of c.args.self.now in
    let e : state_of c.push_answer.new.self ≡ answered (placed_for s c.args.call) c.args.stream (length s.book.entries) c.args.call
    (reply.Refused OutOfRange) = search rules in
    answered_may c.args.stream s (placed_for s c.args.call) (state_of c.push_answer.new.self) (length s.book.entries) c.args.call
    (reply.Refused OutOfRange) (more c.args.stream s c.args.call) e (λ name removes. refl) (returns-clause-sound c)

pub returns-clause-sees : goal.returns-clause-sees
returns-clause-sees c =
    let s : State = state_of c.args.self.now in
    let e : state_of c.push_answer.new.self ≡ answered (placed_for s c.args.call) c.args.stream (length s.book.entries) c.args.call
    (reply.Refused OutOfRange) = search rules in
    answered_sees c.args.stream s (placed_for s c.args.call) (state_of c.push_answer.new.self) (length s.book.entries) c.args.call
    (reply.Refused OutOfRange) (more c.args.stream s c.args.call) e c.requires.idle

pub returns-in_err-make_place_for-clause-may : goal.returns-in_err-make_place_for-clause-may
returns-in_err-make_place_for-clause-may c = may_still c.args.stream (state_of c.args.self.now) (state_of c.make_place_for.new.self)
    c.requires.sound (search rules)
