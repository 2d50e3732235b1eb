use Rattle.std.proofs.Common.{length, sym, ap, ◌∙◌}
use Rattle.open_calls.proofs.Forms.{length-forms}
use Rattle.volume_core.specs.State.{state_of}
use Rattle.volume_maint.proofs.whole.begin_other.Goals as goal

pub of-requires : goal.of-requires
of-requires c =
    let s = state_of c.args.world.now in
    ap length c.modes.ensures ∙ c.requires.sound.on.clients.agree.as_many ∙ length-forms s.whole s.nodes
    ∙ sym (ap length c.deref.ensures.value)
