use Rattle.std.proofs.Common.{◌≡◌, rules, arith, ◌∙◌, subst, below_more, Err}
use Rattle.std.specs.Io.KnownBytes.{Appends}
use Rattle.outer_traits.specs.Passing.{WritesPrefix}
use Rattle.backup_units.specs.Backups.{IsWhole, page_of}
use Rattle.backup_restore.specs.Restoring.{RefusesPage, AnswersBlocks}
use Rattle.backup_restore.proofs.RestoreLemmas.{whole_more, first_bad, written_more, written_all, prefix_none, prefix_more, prefix_all}
use Rattle.backup_restore.proofs.blocks.write_blocks.Goals as goal

pub loop-page-preserved : goal.loop-page-preserved
loop-page-preserved g c =
    let so_far = c.loop-page.invariant in
    let volume = c.args.volume.now in
    let page = c.page-item.result in
    record {
      whole = λ t. below_more _ _ (so_far.whole t)
          (whole_more _ volume c.args.listed.now c.loop-page.page-index page c.loop-page-test.true c.page-item.is
          (subst (λ o. IsWhole o volume page) so_far.same (c.in_ok-write_page.ensures.whole t)));
      written = λ t. written_more (g.T.Target.holds c.args.target.now) volume c.args.listed.now c.loop-page.page-index page
          (g.K.Sink.contents c.args.sink.now) (g.K.Sink.contents c.loop-page.sink) (g.K.Sink.contents c.write_page.new.sink)
          c.loop-page-test.true c.page-item.is (so_far.written t)
          (subst (λ o. Appends (g.K.Sink.contents c.loop-page.sink) (g.K.Sink.contents c.write_page.new.sink) (page_of o volume page))
          so_far.same (c.in_ok-write_page.ensures.written t));
      same = c.write_page.ensures.same ∙ so_far.same;
      faults = search rules;
      write_faults = search rules;
    }

pub returns-in_err-piece-clause-prefix : goal.returns-in_err-piece-clause-prefix
returns-in_err-piece-clause-prefix g c t = prefix_none _ _

pub returns-in_err-write_page-clause-prefix : goal.returns-in_err-write_page-clause-prefix
returns-in_err-write_page-clause-prefix g c t =
    let so_far = c.loop-page.invariant in
    let volume = c.args.volume.now in
    let page = c.page-item.result in
    prefix_more (g.T.Target.holds c.args.target.now) volume c.args.listed.now c.loop-page.page-index page
    (g.K.Sink.contents c.args.sink.now) (g.K.Sink.contents c.loop-page.sink) (g.K.Sink.contents c.write_page.new.sink)
    c.loop-page-test.true c.page-item.is (so_far.written t)
    (subst (λ o. WritesPrefix (g.K.Sink.contents c.loop-page.sink) (g.K.Sink.contents c.write_page.new.sink) (page_of o volume page))
    so_far.same (c.write_page.ensures.prefix t))

pub returns-in_err-write_page-clause-answer : goal.returns-in_err-write_page-clause-answer
returns-in_err-write_page-clause-answer g c t =
    let so_far = c.loop-page.invariant in
    let volume = c.args.volume.now in
    let error = c.in_err-write_page.field-0.0 in
    let same : Err error ≡ c.from_residual-in_err-write_page.result = search rules in
    subst (AnswersBlocks (g.T.Target.holds c.args.target.now) volume c.args.listed.now) same
    (first_bad _ volume c.args.listed.now c.loop-page.page-index c.page-item.result error c.loop-page-test.true
    c.page-item.is (so_far.whole t)
    (subst (λ o. RefusesPage o volume c.page-item.result error) so_far.same (c.in_err-write_page.ensures.refused t)))

pub returns-clause-whole : goal.returns-clause-whole
returns-clause-whole g c t =
    written_all (g.T.Target.holds c.args.target.now) c.args.volume.now c.args.listed.now c.loop-page.page-index _ _
    c.loop-page-test.false (c.loop-page.invariant.written t)

pub returns-clause-prefix : goal.returns-clause-prefix
returns-clause-prefix g c t =
    prefix_all _ _ _
    (written_all (g.T.Target.holds c.args.target.now) c.args.volume.now c.args.listed.now c.loop-page.page-index _ _
    c.loop-page-test.false (c.loop-page.invariant.written t))

pub returns-clause-answer : goal.returns-clause-answer
returns-clause-answer g c t page low = c.loop-page.invariant.whole t page (omega (arith, low, c.loop-page-test.false))
