use Rattle.std.proofs.Common.{sym}
use Rattle.volume_model.proofs.NameParts.{parted_into, parted_not}
use Rattle.volume_model.proofs.command.parted.Goals as goal

pub returns-in-Some-clause-some : goal.returns-in-Some-clause-some
returns-in-Some-clause-some c = parted_into c.args.text.now c.in-Some.blank (sym c.in-Some.ensures.place)

pub returns-in-None-clause-none : goal.returns-in-None-clause-none
returns-in-None-clause-none c = parted_not c.args.text.now (sym c.in-None.ensures.place)
