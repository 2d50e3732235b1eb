use Rattle.std.proofs.Common.{◌≡◌, sym, subst, ◌∙◌, ap, rules}
use Rattle.volume_core.specs.State.{State, state_of}
use Rattle.volume_core.specs.Steps.{given_up}
use Rattle.volume_core.specs.Sound.{IsSound}
use Rattle.volume_core.proofs.GivenUp.{given_up_kept, given_up_may}
use Rattle.volume_core.proofs.world.World.give_up.Goals as goal

pub returns-clause-sound : goal.returns-clause-sound
returns-clause-sound c =
    let s : State = state_of c.args.self.now in
    let b = c.requires.begun in
    let is : state_of c.push_aborted.new.self ≡ given_up s c.args.stream c.args.target = search rules in
    subst IsSound (sym (is ∙ ap (given_up s c.args.stream) (sym b.2)))
    (given_up_kept s c.args.stream b.0 c.requires.sound c.requires.stream b.1)

pub returns-clause-may : goal.returns-clause-may
returns-clause-may c =
    let s : State = state_of c.args.self.now in
    let is : state_of c.push_aborted.new.self ≡ given_up s c.args.stream c.args.target = search rules in
    given_up_may s (state_of c.push_aborted.new.self) c.args.stream c.args.target is (returns-clause-sound c)
