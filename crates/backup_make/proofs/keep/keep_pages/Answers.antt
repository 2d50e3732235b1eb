use Rattle.std.proofs.Common.{◌≡◌, rules, sym, subst, get_or, refl}
use Rattle.backup_units.specs.Backups.{page_at, HoldsPage}
use Rattle.backup_make.proofs.KeptLemmas.{giver_then, stays_then, adds_then, kept_step, given}
use Rattle.backup_make.proofs.keep.keep_pages.Goals as goal

pub loop-page-preserved : goal.loop-page-preserved
loop-page-preserved g c =
    let so_far = c.loop-page.invariant in
    let volume = c.args.volume.now in
    let room = c.given_page.result.now in
    let number = get_or c.args.wanted.now c.loop-page.page-index 0 in
    let after = g.T.Target.holds c.keep_page.new.target in
    let stays = stays_then _ _ _ _ _ _ so_far.stays c.page.ensures.stays in
    record {
      giver = giver_then _ _ _ _ _ _ so_far.giver c.page.ensures.keeps;
      stays = stays;
      adds = λ t. adds_then volume _ _ _ (so_far.adds t) (c.keep_page.ensures.adds t);
      faults = search rules;
      kept = λ disk is start.
          let page : page_at disk number ≡ room = given _ _ _ _ disk room number stays is (search rules) in
          kept_step _ _ _ volume disk _ c.loop-page.page-index c.args.wanted.now number c.in_ok-listed.listed
          refl (search rules) (λ t. (c.keep_page.ensures.adds t).blocks) (search rules)
          (λ t. subst (HoldsPage after volume) (sym page) (search rules))
          (so_far.kept disk is start);
    }

pub returns-in_err-listed-clause-adds : goal.returns-in_err-listed-clause-adds
returns-in_err-listed-clause-adds g c tells =
    adds_then c.args.volume.now _ _ _ (c.loop-page.invariant.adds tells) (c.keep_page.ensures.adds tells)

pub returns-in_err-page-clause-giver : goal.returns-in_err-page-clause-giver
returns-in_err-page-clause-giver g c = giver_then _ _ _ _ _ _ c.loop-page.invariant.giver c.page.ensures.keeps

pub returns-in_err-listed-clause-giver : goal.returns-in_err-listed-clause-giver
returns-in_err-listed-clause-giver g c = giver_then _ _ _ _ _ _ c.loop-page.invariant.giver c.page.ensures.keeps
