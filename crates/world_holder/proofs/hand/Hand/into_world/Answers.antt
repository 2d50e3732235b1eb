use Rattle.std.proofs.Common.{◌≡◌, rules, subst, sym, ap, ◌∙◌}
use Rattle.std.specs.Global.{Box}
use Rattle.volume_core.specs.declared.world.World.{World}
use Rattle.volume_core.specs.State.{state_of}
use Rattle.volume_core.specs.Sound.{IsSound, NoneGaveUp}
use Rattle.world_holder.proofs.Rests.{ends_rest, ends_turns, ends_kept}
use Rattle.world_holder.proofs.hand.Hand.into_world.Goals as goal

pub returns-clause-sound : goal.returns-clause-sound
returns-clause-sound c =
    let e : c.unwrap.result ≡ c.args.self.last.value = search rules in
    subst (λ (b : Box World). IsSound (state_of b.value)) (sym e) c.requires.rests.sound

pub returns-clause-rest : goal.returns-clause-rest
returns-clause-rest c =
    let e : c.unwrap.result ≡ c.args.self.last.value = search rules in
    let rests = c.requires.rests in
    ap (λ (b : Box World). b.value.turns.tickets) e
    ∙ ends_rest c.args.stream (state_of c.args.self.last.value.value) rests.sound rests.kept.alone c.requires.idle

pub returns-clause-turns : goal.returns-clause-turns
returns-clause-turns c =
    let e : c.unwrap.result ≡ c.args.self.last.value = search rules in
    let rests = c.requires.rests in
    ap (λ (b : Box World). b.value.commands.items) e
    ∙ ends_turns c.args.stream (state_of c.args.self.last.value.value) rests.sound rests.kept.alone c.requires.idle

pub returns-clause-gave_up : goal.returns-clause-gave_up
returns-clause-gave_up c =
    let e : c.unwrap.result ≡ c.args.self.last.value = search rules in
    let rests = c.requires.rests in
    subst (λ (b : Box World). NoneGaveUp b.value.gave_up.items) (sym e)
    (ends_kept c.args.stream (state_of c.args.self.last.value.value) rests.sound rests.kept.alone c.requires.idle c.requires.kept)
