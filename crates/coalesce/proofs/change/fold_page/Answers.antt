use Rattle.std.proofs.Common.{◌≡◌}
use Rattle.coalesce.specs.Folding.{snapshots_in}
use Rattle.coalesce.proofs.KeepLemmas.{page_keeps, page_snapshots, page_can, places_kept}
use Rattle.coalesce.proofs.PlaceLemmas.{fold_parent}
use Rattle.coalesce.proofs.change.fold_page.Goals as goal

pub move_page-requires-clause-parent : goal.move_page-requires-clause-parent
move_page-requires-clause-parent c =
    let can = c.requires.can.2 in
    fold_parent c.args.tree.now c.requires.can.0 c.requires.can.1 c.args.places.parent c.args.places.child
    c.count-count.ensures.whole can.at can.can

pub returns-clause-folds : goal.returns-clause-folds
returns-clause-folds c = λ p q can. record {
  parent = c.args.places.parent;
  child = c.args.places.child;
  at = can.at;
  moved = c.move_page.ensures.moves;
  rest = c.move_page.ensures.rest;
}

pub returns-clause-readings : goal.returns-clause-readings
returns-clause-readings c = λ p q can.
    page_keeps c.args.tree.now c.move_page.new.self p q c.args.places.parent c.args.places.child c.args.page c.count-count.ensures.whole
    can.at can.can c.move_page.ensures.moves c.move_page.ensures.rest

-- the same snapshots
same : (c : goal.After-move_page) → snapshots_in c.move_page.new.self ≡ snapshots_in c.args.tree.now
same c =
    let can = c.requires.can.2 in
    page_snapshots c.args.tree.now c.move_page.new.self c.requires.can.0 c.requires.can.1 c.args.places.parent
    c.args.places.child c.args.page
    c.count-count.ensures.whole can.at can.can c.move_page.ensures.moves

pub returns-clause-snapshots : goal.returns-clause-snapshots
returns-clause-snapshots c = same c

pub returns-clause-can : goal.returns-clause-can
returns-clause-can c = λ p q can. record {
  can = page_can c.args.tree.now c.move_page.new.self p q can.can (same c) c.move_page.ensures.rest;
  at = places_kept c.args.tree.now c.move_page.new.self p q c.args.places.parent c.args.places.child (same c) can.at;
}
