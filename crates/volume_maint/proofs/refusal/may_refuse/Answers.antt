use Rattle.std.proofs.Common.{◌≡◌, rules}
use Rattle.std.specs.Prelude.{Some}
use Rattle.volume_core.specs.State.{State, state_of}
use Rattle.volume_maint.specs.Answers.{refused_in}
use Rattle.volume_maint.proofs.Refusals.{store_is_backup, good_refused, plain_refused}
use Rattle.volume_maint.proofs.refusal.may_refuse.Goals as goal

pub returns-then-is_of_store-clause-may : goal.returns-then-is_of_store-clause-may
returns-then-is_of_store-clause-may c e = good_refused (state_of c.args.world.now) c.args.command.now c.args.why
    (c.is_of_store.ensures.yes c.if-is_of_store.true) (c.is_good_backup.ensures.good e)

pub returns-then-is_of_store-clause-not : goal.returns-then-is_of_store-clause-not
returns-then-is_of_store-clause-not c e may = c.is_good_backup.ensures.not e
    (store_is_backup (state_of c.args.world.now) c.args.command.now c.args.why c.requires.asks
    (c.is_of_store.ensures.yes c.if-is_of_store.true) may)

pub returns-clause-not : goal.returns-clause-not
returns-clause-not c e may =
    let s : State = state_of c.args.world.now in
    let refused : refused_in s c.args.command.now ≡ Some c.args.why = plain_refused s c.args.command.now c.args.why
    (c.is_of_store.ensures.no c.if-is_of_store.false) may in
    search rules
