use Rattle.std.proofs.Common.{rules, sym}
use Rattle.folder_layers.proofs.FitLemmas.{sys_front, earlier_by}
use Rattle.folder_layers.proofs.misfit.is_earlier.Goals as goal

pub returns-in-Some : goal.returns-in-Some
returns-in-Some c =
    let begins = sym c.if-not-starts_with.ensures.value in
    earlier_by c.args.number c.args.name.now c.split_at.result.1.now c.in-Some.own (search rules) (search rules)
    (sys_front c.args.name.now c.split_at.result.1.now begins c.split_at.ensures.back) c.in-Some.ensures begins
