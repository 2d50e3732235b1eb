use Rattle.std.proofs.Common.{◌<◌, length, set, subst, ap, arith}
use Rattle.sparse_image.specs.Image.{PutsTable}
use Rattle.sparse_image.proofs.ImageLemmas.{SetsTable-set, PutsTable-set, IsImage-set, SetsTable}
use Rattle.sparse_image.proofs.image.Image.swap_page.Goals as goal

inside : (c : goal.After-self-1) → c.args.page < length c.self.inside.pages.items
inside c = omega (arith, ap length c.self.view_is)

sets : (c : goal.After-self-1) → SetsTable c.self.inside.pages.items
    (set c.self.inside.pages.items c.args.page c.swap.new.x) c.args.page c.args.with.now
sets c = subst (SetsTable c.self.inside.pages.items (set c.self.inside.pages.items c.args.page c.swap.new.x) c.args.page)
    c.swap.ensures.x_after (SetsTable-set c.self.inside.pages.items c.args.page c.swap.new.x (inside c))

pub invariant_of-self : goal.invariant_of-self
invariant_of-self c = IsImage-set c.self.inside.pages.items _ c.args.page c.args.with.now (sets c) c.self.invariant
    c.is_made-made.ensures.table

pub returns-clause-own : goal.returns-clause-own
returns-clause-own c =
    subst (λ i. PutsTable i (set c.self.inside.pages.items c.args.page c.swap.new.x) c.args.page c.args.with.now) c.self.view_is
    (PutsTable-set c.self.inside.pages.items _ c.args.page c.args.with.now (sets c))
