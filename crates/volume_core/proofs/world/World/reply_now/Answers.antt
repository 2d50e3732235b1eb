use Rattle.std.proofs.Common.{◌≡◌, sym, ap, ◌∙◌, rules}
use Rattle.volume_model.specs.declared.command.Command.TheVariants as command
use Rattle.volume_model.specs.declared.call.Call.TheVariants as call
use Rattle.volume_model.specs.declared.call.Reply.TheVariants as reply
use Rattle.volume_model.specs.PlainStep.{plain_step}
use Rattle.volume_model.specs.Snapshots.{layer_count}
use Rattle.volume_core.specs.State.{state_of, told_of, modes_in}
use Rattle.volume_core.proofs.Now.{layers_told}
use Rattle.volume_core.proofs.world.World.reply_now.Goals as goal

pub returns-in_ok-modes-in-Command-Status : goal.returns-in_ok-modes-in-Command-Status
returns-in_ok-modes-in-Command-Status c =
    let s = state_of c.args.self.now in
    let layers : c.layers.result ≡ layer_count (told_of s).volume.snapshots = c.layers.ensures ∙ layers_told s c.requires.sound in
    let modes : c.of.result ≡ modes_in s = search rules in
    let is : c.args.call.now ≡ call.Command command.Status = search rules in
    ap (λ n. reply.Status n c.of.result) layers ∙ ap (reply.Status (layer_count (told_of s).volume.snapshots)) modes
    ∙ ap (λ x. (plain_step (modes_in s) (told_of s) x).1) (sym is)
