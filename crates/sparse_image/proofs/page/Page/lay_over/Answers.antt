use Rattle.std.proofs.Common.{◌≡◌, ◌≢◌, ◌<◌, length, None, sym, ap, subst, ◌∙◌, arith, below_more, length-set}
use Rattle.std.proofs.Common.{get_or-set_same, get_or-set_other}
use Rattle.std.proofs.lemmas.List.{get_or_read}
use Rattle.sparse_image.specs.Image.{place_at}
use Rattle.sparse_image.specs.Whole.{IsTable}
use Rattle.sparse_image.proofs.TableLemmas.{page_over-moved, page_over-all, IsTable-page_over}
use Rattle.sparse_image.proofs.page.Page.lay_over.Goals as goal

pub loop-i-preserved : goal.loop-i-preserved
loop-i-preserved c =
    let own = c.loop-i.self-inside.places.items in
    let under = c.loop-i.below-inside.places.items in
    let i = c.loop-i.i in
    let in_own : i < length own = omega arith in
    let in_under : i < length under = omega (arith, ap length c.self.view_is, ap length c.below.view_is) in
    let a = get_or_read own i _ in_own c.index_mut.ensures.value None in
    let b = get_or_read under i _ in_under c.index_mut-in-loop-i.ensures.value None in
    record {
      own = length-set own i c.move_onto.new.self ∙ c.loop-i.invariant.own;
      under = length-set under i c.move_onto.new.below ∙ c.loop-i.invariant.under;
      moved =
          page_over-moved own under i c.move_onto.new.self c.move_onto.new.below in_own in_under c.move_onto.ensures.own (cc)
          ∙ c.loop-i.invariant.moved;
      empty =
          below_more (λ k. place_at _ k ≡ None) i
          (λ k h. let other : k ≢ i = omega arith in
          get_or-set_other own i k c.move_onto.new.self None other ∙ c.loop-i.invariant.empty k h)
          (get_or-set_same own i c.move_onto.new.self None in_own ∙ c.move_onto.ensures.own);
    }

pub invariant_of-below : goal.invariant_of-below
invariant_of-below c =
    let above = c.self.inside.places.items in
    let below = c.below.inside.places.items in
    let same : length above ≡ length below = omega (arith, ap length c.self.view_is, ap length c.below.view_is) in
    let done = c.loop-i.invariant in
    subst IsTable
    (sym (page_over-all _ _ above below done.own done.under same (λ i h. done.empty i (omega arith)) done.moved))
    (IsTable-page_over above below c.self.invariant c.below.invariant)

pub returns-clause-under : goal.returns-clause-under
returns-clause-under c =
    let above = c.self.inside.places.items in
    let below = c.below.inside.places.items in
    let same : length above ≡ length below = omega (arith, ap length c.self.view_is, ap length c.below.view_is) in
    let done = c.loop-i.invariant in
    rw (← c.self.view_is, ← c.below.view_is)
    (page_over-all _ _ above below done.own done.under same (λ i h. done.empty i (omega arith)) done.moved)
