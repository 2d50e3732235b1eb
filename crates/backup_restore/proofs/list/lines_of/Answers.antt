use Rattle.std.proofs.Common.{◌≡◌, rules, refl, sym, ◌∙◌, subst, Err, [], IfErr}
use Rattle.backup_restore.specs.Listed.{AreLines}
use Rattle.backup_restore.specs.Listing.{AddsLine, RefusesOneOf}
use Rattle.backup_restore.specs.ReadCfg.{AnswersCfg}
use Rattle.backup_restore.proofs.LineLemmas.{lines_none, lines_more, lines_all, first_refused}
use Rattle.backup_restore.proofs.list.lines_of.Goals as goal

pub loop-name-init : goal.loop-name-init
loop-name-init g c = record {
  lines = λ t. subst (AreLines (g.T.Target.holds c.args.target.now) c.args.volume.now []) (sym c.new-text.ensures.items)
      (lines_none (g.T.Target.holds c.args.target.now) c.args.volume.now);
  same = refl;
  faults = refl;
}

pub loop-name-preserved : goal.loop-name-preserved
loop-name-preserved g c =
    let so_far = c.loop-name.invariant in
    let volume = c.args.volume.now in
    let name = c.name-item.result in
    let old = c.loop-name.text.items in
    let new = c.add_line.new.text.items in
    record {
      lines = λ t. lines_more (g.T.Target.holds c.args.target.now) volume c.args.names.now c.loop-name.name-index name old new
          c.loop-name-test.true c.name-item.is
          (subst (λ o. AddsLine o volume name old new) so_far.same (c.in_ok-add_line.ensures.line t)) (so_far.lines t);
      same = c.add_line.ensures.same ∙ so_far.same;
      faults = search rules;
    }

pub returns-in_err-add_line-clause-refused : goal.returns-in_err-add_line-clause-refused
returns-in_err-add_line-clause-refused g c t =
    let so_far = c.loop-name.invariant in
    let volume = c.args.volume.now in
    let error = c.in_err-add_line.field-0.0 in
    let objects = g.T.Target.holds c.args.target.now in
    let name = c.name-item.result in
    let same : Err error ≡ c.from_residual.result = search rules in
    subst (λ r. IfErr r (RefusesOneOf objects volume c.args.names.now)) same
    (first_refused objects volume c.args.names.now c.loop-name.name-index name c.loop-name.text.items error c.loop-name-test.true
    c.name-item.is (so_far.lines t)
    (subst (λ o. AnswersCfg o volume name (Err error)) so_far.same (c.in_err-add_line.ensures.refused t)))

pub returns-clause-lines : goal.returns-clause-lines
returns-clause-lines g c t =
    lines_all (g.T.Target.holds c.args.target.now) c.args.volume.now c.args.names.now c.loop-name.name-index c.loop-name.text.items
    c.loop-name-test.false (c.loop-name.invariant.lines t)
