use Rattle.std.proofs.Common.{◌/◌}
use Rattle.replica_node.proofs.FoldLemmas.{fold_is}
use Rattle.replica_node.proofs.TreeOf.{can_fold, page_inside}
use Rattle.replica_node.proofs.node.ReplicaNode.fold_step.Goals as goal

pub fold_places-places-requires : goal.fold_places-places-requires
fold_places-places-requires c =
    can_fold c.self.inside.tree (c.self.inside.size / 4096) c.args.self.now c.args.parent.now c.args.child.now c.self.view_is c.requires.can

pub fold_page-requires-clause-can : goal.fold_page-requires-clause-can
fold_page-requires-clause-can c = (c.args.parent.now, c.args.child.now, c.fold_places-places.ensures)

pub fold_page-requires-clause-own : goal.fold_page-requires-clause-own
fold_page-requires-clause-own c =
    page_inside c.self.inside.tree (c.self.inside.size / 4096) c.args.self.now c.fold_places-places.result.child c.args.page
    c.self.view_is c.self.invariant c.requires.inside
    c.fold_places-places.ensures.at.child.within

pub fold_page-requires-clause-under : goal.fold_page-requires-clause-under
fold_page-requires-clause-under c =
    page_inside c.self.inside.tree (c.self.inside.size / 4096) c.args.self.now c.fold_places-places.result.parent
    c.args.page c.self.view_is c.self.invariant c.requires.inside
    c.fold_places-places.ensures.at.parent.within

pub invariant_of-self : goal.invariant_of-self
invariant_of-self c =
    let can = c.fold_places-places.ensures in
    (fold_is c.self.inside.tree c.fold_page.new.tree (c.self.inside.size / 4096) c.args.self.now c.args.parent.now
    c.args.child.now c.args.page
    c.self.view_is c.self.invariant c.count-count.ensures.whole c.requires.can c.requires.inside
    (c.fold_page.ensures.folds c.args.parent.now c.args.child.now can)
    (c.fold_page.ensures.readings c.args.parent.now c.args.child.now can)).0

pub returns : goal.returns
returns c =
    let can = c.fold_places-places.ensures in
    (fold_is c.self.inside.tree c.fold_page.new.tree (c.self.inside.size / 4096) c.args.self.now c.args.parent.now
    c.args.child.now c.args.page
    c.self.view_is c.self.invariant c.count-count.ensures.whole c.requires.can c.requires.inside
    (c.fold_page.ensures.folds c.args.parent.now c.args.child.now can)
    (c.fold_page.ensures.readings c.args.parent.now c.args.child.now can)).1
