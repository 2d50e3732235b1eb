use Rattle.std.proofs.Common.{◌≡◌, rules}
use Rattle.volume_model.specs.declared.mode.Mode.TheVariants.{Rw}
use Rattle.volume_model.specs.Modes.{mode_of}
use Rattle.volume_core.specs.State.{state_of, modes_in}
use Rattle.volume_core.proofs.Moves.{may_same}
use Rattle.world_steps.proofs.Purges.{refuses_fold}
use Rattle.world_steps.proofs.in_turn.fold_in.Goals as goal

pub returns-clause-why : goal.returns-clause-why
returns-clause-why c =
    let read : mode_of (modes_in (state_of c.args.world.now)) c.args.replica ≡ Rw = search rules in
    refuses_fold (state_of c.args.world.now) c.args.replica c.args.page c.args.parent.now c.requires.purges read
    c.fold_page.result c.fold_page.ensures.why

pub returns-then-ne-clause-may : goal.returns-then-ne-clause-may
returns-then-ne-clause-may c = may_same _ (state_of c.args.world.now) c.requires.sound

pub returns-then-page-page_count-clause-may : goal.returns-then-page-page_count-clause-may
returns-then-page-page_count-clause-may c = may_same _ (state_of c.args.world.now) c.requires.sound
