use Rattle.std.proofs.Common.{◌≡◌, [], rules, subst, sym, refl}
use Rattle.std.proofs.Common.{Some}
use Rattle.std.specs.Global.{Box}
use Rattle.volume_core.specs.declared.world.World.{World}
use Rattle.volume_core.specs.State.{state_of}
use Rattle.world_holder.specs.View.{runs, IsFree}
use Rattle.world_holder.specs.Rests.{IsInHand}
use Rattle.world_holder.proofs.Rests.{rest_idle, rest_alone, rest_free}
use Rattle.world_holder.proofs.hand.Hand.of.Goals as goal

pub returns-clause-rests : goal.returns-clause-rests
returns-clause-rests c =
    let e : c.of-last.result.value ≡ c.args.world = search rules in
    let s = state_of c.args.world.value in
    subst (λ (b : Box World). IsInHand (Some c.args.world) b c.args.stream) (sym e) (record {
      is = refl;
      sound = c.requires.sound;
      kept = record {
        there = c.requires.there;
        alone = rest_alone s c.requires.rest c.requires.turns c.args.stream c.requires.gave_up;
      };
    })

pub returns-clause-free : goal.returns-clause-free
returns-clause-free c =
    let e : c.of-last.result.value ≡ c.args.world = search rules in
    subst (λ (b : Box World). IsFree c.args.stream (state_of b.value)) (sym e)
    (rest_free (state_of c.args.world.value) c.requires.rest c.requires.turns c.args.stream c.requires.gave_up)

pub returns-clause-idle : goal.returns-clause-idle
returns-clause-idle c =
    let e : c.of-last.result.value ≡ c.args.world = search rules in
    subst (λ (b : Box World). runs c.args.stream (state_of b.value) ≡ []) (sym e)
    (rest_idle (state_of c.args.world.value) c.requires.rest c.requires.turns c.args.stream)
