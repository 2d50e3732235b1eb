use Rattle.std.proofs.Common.{◌*◌, arith}
use Rattle.replica_node.proofs.AllFolded.{no_pages, has_page, one_page, all_pages}
use Rattle.replica_node.proofs.fold.fold_pages.Goals as goal

pub loop-page-init : goal.loop-page-init
loop-page-init c = λ p q can. no_pages c.args.tree.now p q c.args.places (c.args.pages * 512) can c.requires.node

pub fold_page-requires-clause-can : goal.fold_page-requires-clause-can
fold_page-requires-clause-can c =
    let can = c.requires.can in
    (can.0, can.1, (c.loop-page.invariant can.0 can.1 can.2).can)

pub fold_page-requires-clause-own : goal.fold_page-requires-clause-own
fold_page-requires-clause-own c =
    let can = c.requires.can in
    let far = c.loop-page.invariant can.0 can.1 can.2 in
    has_page c.loop-page.tree c.args.pages c.args.places.child c.loop-page.page far.node far.can.at.child.within (omega arith)

pub fold_page-requires-clause-under : goal.fold_page-requires-clause-under
fold_page-requires-clause-under c =
    let can = c.requires.can in
    let far = c.loop-page.invariant can.0 can.1 can.2 in
    has_page c.loop-page.tree c.args.pages c.args.places.parent c.loop-page.page far.node far.can.at.parent.within (omega arith)

pub loop-page-preserved : goal.loop-page-preserved
loop-page-preserved c = λ p q can.
    let far = c.loop-page.invariant p q can in
    one_page c.args.tree.now c.loop-page.tree c.fold_page.new.tree p q c.args.places c.args.pages c.loop-page.page far
    c.count-count.ensures.whole
    (omega arith) (c.fold_page.ensures.folds p q far.can) (c.fold_page.ensures.readings p q far.can) (c.fold_page.ensures.can p q far.can)

pub returns : goal.returns
returns c = λ p q can. all_pages c.args.tree.now c.loop-page.tree p q c.args.places c.args.pages c.loop-page.page
    (omega arith) (c.loop-page.invariant p q can)
