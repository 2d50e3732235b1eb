use Rattle.std.proofs.Common.{subst, sym}
use Rattle.open_rebuild.specs.Listed.{IsSought}
use Rattle.open_rebuild.proofs.ListedLemmas.{sought_none}
use Rattle.open_rebuild.proofs.listed_pages.ListedPages.with_count.Goals as goal

pub invariant_of-result : goal.invariant_of-result
invariant_of-result c = subst (λ bits. IsSought bits 0) (sym c.loop-page.invariant) (sought_none c.loop-page._page)
