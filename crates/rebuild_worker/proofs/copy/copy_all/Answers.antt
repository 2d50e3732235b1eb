use Rattle.std.proofs.Common.{ap, ◌∙◌, Ok, rules}
use Rattle.rebuild_worker.proofs.CopyLemmas.{copies_more, copies_none, copies_still, keeps_here, keeps_then}
use Rattle.rebuild_worker.proofs.copy.copy_all.Goals as goal

pub pages-init : goal.pages-init
pages-init g c = record {
  keeps = keeps_here (search rules);
  idle = search rules;
  room = search rules;
  pages = copies_none _ _;
}

pub pages-preserved : goal.pages-preserved
pages-preserved g c =
    let whole = c.in_ok-place-in-Page.was ∙ ap Ok c.in_default.is in
    let lists = c.copy_page.ensures.listed whole in
    let takes = c.in-Page.ensures.takes in
    let copying = g.C.CopySteps.copying in
    let texts = g.C.CopySteps.is_text in
    let before = c.pages.invariant in
    record {
      keeps = keeps_then (keeps_then before.keeps c.next.ensures.keeps) c.copy_page.ensures.keeps;
      idle = lists.hand;
      room = c.copy_page.ensures.room;
      pages = copies_more (texts c.next.new.self) (texts c.copy_page.new.steps) c.in-Page.page
          (copying c.args.steps.now) (copying c.next.new.self) (copying c.copy_page.new.steps)
          (copies_still (texts c.pages.steps) (texts c.next.new.self) (copying c.args.steps.now) (copying c.pages.steps)
          (copying c.next.new.self)
          before.pages c.next.ensures.quiet takes.2 c.next.ensures.keeps.texts)
          (c.copy_page.ensures.copied whole) lists c.copy_page.ensures.keeps.texts;
    }
