use Rattle.std.proofs.Common.{◌≡◌, ℕ, ◌*◌, ◌/◌, false, length, refl, sym, ap, subst, ◌∙◌, arith}
use Rattle.replica_node.specs.Node.{node_of, IsNode, has_own}
use Rattle.replica_node.specs.Fold.{own_named, pages_folded, FoldsPages, replaced_node}
use Rattle.replica_node.proofs.AllFolded.{can_back, none_left}
use Rattle.replica_node.proofs.GoneLemmas.{has_no_block, replace_is}
use Rattle.replica_node.proofs.ReadLemmas.{length-node}
use Rattle.replica_node.proofs.TreeOf.{can_fold, own_count}
use Rattle.replica_node.proofs.node.ReplicaNode.fold.Goals as goal

pub fold_places-places-requires : goal.fold_places-places-requires
fold_places-places-requires c =
    can_fold c.self.inside.tree (c.self.inside.size / 4096) c.args.self.now c.args.parent.now c.args.child.now c.self.view_is c.requires

pub fold_pages-requires-clause-can : goal.fold_pages-requires-clause-can
fold_pages-requires-clause-can c = (c.args.parent.now, c.args.child.now, c.fold_places-places.ensures)

blocks : (c : goal.After-page_count) → c.self.inside.size / 4096 ≡ c.page_count.result * 512
blocks c = omega (arith, c.page_count.ensures)

pub fold_pages-requires-clause-node : goal.fold_pages-requires-clause-node
fold_pages-requires-clause-node c = subst (IsNode c.self.inside.tree) (blocks c) c.self.invariant

-- all pages are folded in the tree
far : (c : goal.After-replace-arg-1) → FoldsPages c.self.inside.tree c.fold_pages.new.tree c.args.parent.now
    c.args.child.now c.fold_places-places.result (c.page_count.result * 512) c.page_count.result
far c = c.fold_pages.ensures c.args.parent.now c.args.child.now c.fold_places-places.ensures

-- so the child has no block left
none : (c : goal.After-replace-arg-1) (block : ℕ)
    → has_own (own_named (node_of c.fold_pages.new.tree (c.page_count.result * 512)).layers c.args.child.now) block ≡ false
none c block =
    let start = node_of c.self.inside.tree (c.page_count.result * 512) in
    ap (λ n. has_own (own_named n.layers c.args.child.now) block) (far c).is
    ∙ none_left start c.args.parent.now c.args.child.now c.page_count.result
    (own_count c.self.inside.tree (c.page_count.result * 512) start refl) block

pub replace-requires-clause-can : goal.replace-requires-clause-can
replace-requires-clause-can c = (far c).can.can

pub replace-requires-clause-empty : goal.replace-requires-clause-empty
replace-requires-clause-empty c =
    has_no_block c.fold_pages.new.tree (c.page_count.result * 512)
    (node_of c.fold_pages.new.tree (c.page_count.result * 512)) c.args.child.now refl
    (far c).node c.count-count.ensures.whole (none c)

-- what the parent's going leaves
left : (c : goal.After-replace) → IsNode c.replace.new.tree (c.page_count.result * 512)
    × (node_of c.replace.new.tree (c.page_count.result * 512) ≡ replaced_node
    (node_of c.fold_pages.new.tree (c.page_count.result * 512)) c.args.parent.now c.args.child.now)
left c =
    let r = c.replace.ensures in
    let count = c.page_count.result * 512 in
    let all = c.fold_pages.ensures c.args.parent.now c.args.child.now c.fold_places-places.ensures in
    replace_is c.fold_pages.new.tree c.replace.new.tree count (node_of c.fold_pages.new.tree count) c.args.parent.now c.args.child.now refl
    all.node c.count-count.ensures.whole (can_back c.fold_pages.new.tree count c.args.parent.now c.args.child.now all.can.can)
    r.replaces r.rest r.readings

pub invariant_of-self : goal.invariant_of-self
invariant_of-self c =
    let same : c.self.inside.size / 4096 ≡ c.page_count.result * 512 = omega (arith, c.page_count.ensures) in
    subst (IsNode c.replace.new.tree) (sym same) (left c).0

pub returns : goal.returns
returns c =
    let count = c.self.inside.size / 4096 in
    let same : count ≡ c.page_count.result * 512 = omega (arith, c.page_count.ensures) in
    let p = c.args.parent.now in
    let q = c.args.child.now in
    let all = c.fold_pages.ensures p q c.fold_places-places.ensures in
    let pages : c.page_count.result ≡ length c.args.self.now.disk / 2097152 =
    omega (arith, length-node c.self.inside.tree count c.args.self.now c.self.view_is c.self.invariant, same) in
    ap (node_of c.replace.new.tree) same ∙ (left c).1
    ∙ ap (λ n. replaced_node n p q) all.is
    ∙ ap (λ m. replaced_node (pages_folded (node_of c.self.inside.tree m) p q c.page_count.result) p q) (sym same)
    ∙ ap (λ n. replaced_node (pages_folded n p q c.page_count.result) p q) c.self.view_is
    ∙ ap (λ m. replaced_node (pages_folded c.args.self.now p q m) p q) pages
