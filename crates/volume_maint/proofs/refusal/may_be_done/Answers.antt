use Rattle.std.proofs.Common.{◌≡◌, sym, subst, rules}
use Rattle.volume_core.specs.State.{State, state_of}
use Rattle.step_answers.specs.declared.answers.NextPart.TheVariants as next
use Rattle.volume_maint.specs.Answers.{MayBeDone, IsNextPart}
use Rattle.volume_maint.proofs.Refusals.{may_be_done, done_is_next}
use Rattle.volume_maint.proofs.refusal.may_be_done.Goals as goal

pub returns-in-Purge-clause-may : goal.returns-in-Purge-clause-may
returns-in-Purge-clause-may c e =
    let s : State = state_of c.args.world.now in
    let nothing : c.fold_next.result ≡ next.Nothing = search rules in
    subst (MayBeDone s) (sym c.in-Purge.is) (may_be_done s (subst (IsNextPart s) nothing c.fold_next.ensures))

pub returns-in-Purge-clause-not : goal.returns-in-Purge-clause-not
returns-in-Purge-clause-not c e may = (
  c.in-Purge.is,
  λ none.
      let s : State = state_of c.args.world.now in
      let nothing : c.fold_next.result ≡ next.Nothing =
      done_is_next s c.fold_next.result c.fold_next.ensures (subst (MayBeDone s) c.in-Purge.is may) none in
      search rules,
)
