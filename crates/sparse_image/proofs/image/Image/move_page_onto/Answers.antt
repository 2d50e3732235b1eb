use Rattle.std.proofs.Common.{◌<◌, [], length, set, subst, ap, arith}
use Rattle.std.proofs.lemmas.List.{get_or_read}
use Rattle.sparse_image.specs.Image.{table_at, EmptiesPage, LaysPageOver}
use Rattle.sparse_image.proofs.TableLemmas.{IsTable-page_over}
use Rattle.sparse_image.proofs.ImageLemmas.{SetsTable-set, SetsTable-over, SetsTable, EmptiesPage-set, LaysPageOver-set, IsImage-set}
use Rattle.sparse_image.proofs.image.Image.move_page_onto.Goals as goal

pub invariant_of-below : goal.invariant_of-below
invariant_of-below c =
    let above = c.self.inside.pages.items in
    let below = c.below.inside.pages.items in
    let page = c.args.page in
    let own : page < length above = omega (arith, ap length c.self.view_is) in
    let under : page < length below = omega (arith, ap length c.below.view_is) in
    let upper = get_or_read above page _ own c.index_mut.ensures.value [] in
    let lower = get_or_read below page _ under c.index_mut-2.ensures.value [] in
    IsImage-set below _ page _ (SetsTable-over above below page _ _ _ under upper lower c.move_onto.ensures.under) c.below.invariant
    (IsTable-page_over (table_at above page) (table_at below page) (c.self.invariant.tables page) (c.below.invariant.tables page))

pub returns-clause-own : goal.returns-clause-own
returns-clause-own c =
    let above = c.self.inside.pages.items in
    let page = c.args.page in
    let own : page < length above = omega (arith, ap length c.self.view_is) in
    subst (λ i. EmptiesPage i (set above page c.move_onto.new.self) page) c.self.view_is
    (EmptiesPage-set above _ page (subst (SetsTable above (set above page c.move_onto.new.self) page)
    c.move_onto.ensures.own (SetsTable-set above page _ own)))

pub returns-clause-under : goal.returns-clause-under
returns-clause-under c =
    let above = c.self.inside.pages.items in
    let below = c.below.inside.pages.items in
    let page = c.args.page in
    let own : page < length above = omega (arith, ap length c.self.view_is) in
    let under : page < length below = omega (arith, ap length c.below.view_is) in
    let upper = get_or_read above page _ own c.index_mut.ensures.value [] in
    let lower = get_or_read below page _ under c.index_mut-2.ensures.value [] in
    subst (λ i. LaysPageOver i c.args.below.now (set below page c.move_onto.new.below) page) c.self.view_is
    (subst (λ i. LaysPageOver above i (set below page c.move_onto.new.below) page) c.below.view_is
    (LaysPageOver-set above below _ page (SetsTable-over above below page _ _ _ under upper lower c.move_onto.ensures.under)
    (c.self.invariant.tables page) (c.below.invariant.tables page)))
