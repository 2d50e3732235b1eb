use Rattle.std.proofs.Common.{◌≡◌, rules, arith, ◌∙◌, subst, below_more, Err}
use Rattle.backup_units.specs.Backups.{IsWhole}
use Rattle.backup_restore.specs.Restoring.{RefusesPage, AnswersBlocks}
use Rattle.backup_restore.proofs.RestoreLemmas.{whole_more, first_bad}
use Rattle.backup_restore.proofs.blocks.check_blocks.Goals as goal

pub loop-page-preserved : goal.loop-page-preserved
loop-page-preserved g c =
    let so_far = c.loop-page.invariant in
    let volume = c.args.volume.now in
    record {
      whole = λ t. below_more _ _ (so_far.whole t)
          (whole_more _ volume c.args.listed.now c.loop-page.page-index c.page-item.result c.loop-page-test.true c.page-item.is
          (subst (λ o. IsWhole o volume c.page-item.result) so_far.same (c.in_ok-check_page.ensures.whole t)));
      same = c.check_page.ensures.same ∙ so_far.same;
      faults = search rules;
    }

pub returns-in_err-check_page-clause-answer : goal.returns-in_err-check_page-clause-answer
returns-in_err-check_page-clause-answer g c t =
    let so_far = c.loop-page.invariant in
    let volume = c.args.volume.now in
    let error = c.in_err-check_page.field-0.0 in
    let same : Err error ≡ c.from_residual.result = search rules in
    subst (AnswersBlocks (g.T.Target.holds c.args.target.now) volume c.args.listed.now) same
    (first_bad _ volume c.args.listed.now c.loop-page.page-index c.page-item.result error c.loop-page-test.true
    c.page-item.is (so_far.whole t)
    (subst (λ o. RefusesPage o volume c.page-item.result error) so_far.same (c.in_err-check_page.ensures.refused t)))

pub returns-clause-answer : goal.returns-clause-answer
returns-clause-answer g c t page low = c.loop-page.invariant.whole t page (omega (arith, low, c.loop-page-test.false))
