use Rattle.std.proofs.Common.{◌∙◌}
use Rattle.volume_model.proofs.NamesLemmas.{names_tell}
use Rattle.volume_core.specs.State.{State, state_of, opening_of}
use Rattle.volume_backup.proofs.told.is_live.Goals as goal

pub returns : goal.returns
returns c =
    let s : State = state_of c.args.world.now in
    let on = c.requires.on in
    let tells = names_tell (opening_of s) s.book.opening.names s.book.entries on.told.legal on.opened.named on.opened.names in
    c.live.ensures ∙ tells.live c.args.name.now
