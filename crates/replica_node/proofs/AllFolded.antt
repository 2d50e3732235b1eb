-- All pages of a child, one after another, are folded onto its parent.
use Rattle.std.proofs.Common.{◌≡◌, ⊎_elim, ℕ, zero, suc, ◌+◌, ◌*◌, ◌/◌, ◌<◌, false, not, ◌&&◌, List, length, refl}
use Rattle.std.proofs.Common.{sym, ap, subst, ◌∙◌, arith, add-one}
use Rattle.std.specs.Prelude.{All}
use Rattle.std.proofs.lemmas.Bool.{cases_eq, cases_lt, and_right}
use Rattle.layer_chain.specs.Tree.{Tree, IsWholeTree, layer_at}
use Rattle.volume_model.specs.Purge.{CanFold}
use Rattle.volume_model.specs.Snapshots.{Snapshot}
use Rattle.coalesce.specs.declared.change.FoldPlaces.{FoldPlaces}
use Rattle.coalesce.specs.Folding.{snapshots_in, CanFoldAt, FoldsPage, KeepsOthers}
use Rattle.replica_node.specs.Node.{Kept, Node, node_of, has_own, IsNode}
use Rattle.replica_node.specs.Fold.{tree_of, own_named, is_in, page_folded, pages_folded, FoldsPages}
use Rattle.replica_node.proofs.FoldLemmas.{fold_is}
use Rattle.replica_node.proofs.FoldedNode.{page_folded_own, own_past}
use Rattle.replica_node.proofs.OwnLemmas.{is_in-same}
use Rattle.replica_node.proofs.ReadLemmas.{length-node}
use Rattle.replica_node.proofs.TreeOf.{tree_is}

-- ---- page by page

no_page_folded : (node : Node) (p c : List ℕ) → node ≡ pages_folded node p c 0
unfolding pages_folded
no_page_folded node p c = refl

page_more : (node : Node) (p c : List ℕ) (page : ℕ) → page_folded (pages_folded node p c page) p c page ≡ pages_folded node p c (page + 1)
unfolding pages_folded
page_more node p c page = ap (pages_folded node p c) (sym (add-one page))

pub no_pages : (t : Tree) (p c : List ℕ) (places : FoldPlaces) (count : ℕ) → CanFoldAt t p c places → IsNode t count
    → FoldsPages t t p c places count 0
no_pages t p c places count can n = record { can = can; node = n; is = no_page_folded (node_of t count) p c }

-- what can be folded of the tree can be of the replica
pub can_back : (t : Tree) (count : ℕ) (p c : List ℕ) → CanFold (snapshots_in t) t.on p c → CanFold (tree_of (node_of t count)) t.on p c
can_back t count p c can = subst (λ (ss : List Snapshot). CanFold ss t.on p c) (sym (tree_is t count (node_of t count) refl)) can

-- each layer has a place for each page
pub has_page : (t : Tree) (pages place page : ℕ) → IsNode t (pages * 512) → place < length t.layers → page < pages
    → page < length (layer_at t.layers place).image
has_page t pages place page n within inside =
    let whole : length (layer_at t.layers place).image * 512 ≡ pages * 512 = (n.images place _ within).pages in
    omega (arith, whole)

pub one_page : (start old new : Tree) (p c : List ℕ) (places : FoldPlaces) (pages page : ℕ)
    → FoldsPages start old p c places (pages * 512) page
    → IsWholeTree old → page < pages → FoldsPage old new p c page → KeepsOthers old new p → CanFoldAt new p c places
    → FoldsPages start new p c places (pages * 512) (page + 1)
one_page start old new p c places pages page far whole inside folds keeps can =
    let count = pages * 512 in
    let step = fold_is old new count (node_of old count) p c page refl far.node whole (can_back old count p c far.can.can)
    (omega (arith, length-node old count (node_of old count) refl far.node)) folds keeps in
    record {
      can = can;
      node = step.0;
      is = step.1 ∙ ap (λ n. page_folded n p c page) far.is ∙ page_more (node_of start count) p c page;
    }

pub all_pages : (start new : Tree) (p c : List ℕ) (places : FoldPlaces) (pages page : ℕ) → page ≡ pages
    → FoldsPages start new p c places (pages * 512) page
    → FoldsPages start new p c places (pages * 512) pages
all_pages start new p c places pages page all far = subst (FoldsPages start new p c places (pages * 512)) all far

-- ---- the child has no block left

-- one that it had not it has not
still_none : (node : Node) (p c : List ℕ) (pages block : ℕ) → has_own (own_named node.layers c) block ≡ false
    → has_own (own_named (pages_folded node p c pages).layers c) block ≡ false
unfolding pages_folded
still_none node p c zero block none = none
still_none node p c (suc pages) block none =
    page_folded_own (pages_folded node p c pages) p c pages block
    ∙ and_right (not (is_in pages block)) (has_own (own_named (pages_folded node p c pages).layers c) block)
    (still_none node p c pages block none)

-- and none of a page that was folded
none_before : (node : Node) (p c : List ℕ) (pages block : ℕ) → block / 512 < pages
    → has_own (own_named (pages_folded node p c pages).layers c) block ≡ false
unfolding pages_folded
none_before node p c zero block before = absurd (omega arith)
none_before node p c (suc pages) block before =
    let pages_folded_here = pages_folded node p c pages in
    page_folded_own pages_folded_here p c pages block
    ∙ ⊎_elim
    (λ last. ap (λ b. not b && has_own (own_named pages_folded_here.layers c) block) (is_in-same pages block last))
    (λ other. and_right (not (is_in pages block)) (has_own (own_named pages_folded_here.layers c) block)
    (none_before node p c pages block (omega arith)))
    (cases_eq (block / 512) pages)

pub none_left : (node : Node) (p c : List ℕ) (pages : ℕ) → All (λ (k : Kept). length k.own ≡ pages * 512) node.layers
    → (block : ℕ) → has_own (own_named (pages_folded node p c pages).layers c) block ≡ false
none_left node p c pages all block =
    ⊎_elim
    (λ before. none_before node p c pages block before)
    (λ past. still_none node p c pages block (own_past node.layers c (pages * 512) block all (omega arith)))
    (cases_lt (block / 512) pages)
