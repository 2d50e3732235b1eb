use Rattle.std.proofs.Common.{◌≡◌, ◌+◌, ◌*◌, ◌++◌, ◌∷◌, [], length, sym, ap, subst, ◌∙◌, arith}
use Rattle.replica_node.specs.Fold.{tree_of}
use Rattle.layer_pages.specs.Chains.{chain_above}
use Rattle.layer_pages.specs.Pages.{ArePagesOf}
use Rattle.layer_pages.specs.Places.{OneHasAt, NoneHasAt}
use Rattle.layer_pages.proofs.ListLemmas.{page_passed, page_listed, all_pages}
use Rattle.layer_pages.proofs.PlaceLemmas.{one_has, none_has}
use Rattle.layer_pages.proofs.ReadLemmas.{others_as_base}
use Rattle.layer_pages.proofs.pages.pages_above.Goals as goal
use Rattle.layer_pages.proofs.pages.pages_above.Goals.{then-one_has+in_ok-push, else-one_has}

pub loop-page-preserved : goal.loop-page-preserved
loop-page-preserved c =
    let node = c.args.node.now in
    let page = c.loop-page.page in
    let pages = c.loop-page.pages.items in
    let chain = chain_above (tree_of node) c.args.name.now c.args.base.now in
    let places = c.in_ok-places.places.items in
    let at = c.in_ok-places.ensures in
    elim c.if-one_has.branch [
      | then-one_has+in_ok-push w ↦
          let items : c.if-one_has.pages.items ≡ pages ++ page ∷ [] = ap (λ v. v.items) w.pages-is ∙ w.in_ok-push.ensures.items in
          let has = subst (λ ps. OneHasAt node ps page) c.deref.ensures.value (c.one_has.ensures.some w.if-one_has.true) in
          subst (ArePagesOf node chain ((page + 1) * 2097152)) (sym items)
          (page_listed node chain pages page c.loop-page.invariant
          (one_has node chain places page c.layer_count-layers.ensures.once at.within at.chain has))
      | else-one_has w ↦
          let items : c.if-one_has.pages.items ≡ pages = ap (λ v. v.items) w.pages-is in
          let none = subst (λ ps. NoneHasAt node ps page) c.deref.ensures.value (c.one_has.ensures.none w.if-one_has.false) in
          subst (ArePagesOf node chain ((page + 1) * 2097152)) (sym items)
          (page_passed node chain pages page c.loop-page.invariant
          (none_has node chain places page c.layer_count-layers.ensures.once at.within at.chain none))
    ]

pub returns-clause-others : goal.returns-clause-others
returns-clause-others c =
    let node = c.args.node.now in
    let name = c.args.name.now in
    let base = c.args.base.now in
    let count = c.page_count-count.result in
    let all : c.loop-page.page ≡ count = omega (arith, c.loop-page-test.false, c.loop-page.auto.page-end) in
    others_as_base node c.block_count-blocks.result count name base c.loop-page.pages.items
    (record {
      once = c.layer_count-layers.ensures.once;
      layers = c.head_parent-parent.ensures.older;
      chained = c.block_count-blocks.ensures.chained;
      blocks = c.block_count-blocks.ensures.value;
      whole = c.page_count-count.ensures;
    })
    c.requires.kept c.requires.over
    (all_pages node (chain_above (tree_of node) name base) c.loop-page.page (length node.disk) c.loop-page.pages.items
    (ap (λ n. n * 2097152) all ∙ c.page_count-count.ensures) c.loop-page.invariant)
