use Rattle.std.proofs.Common.{◌≡◌, replicate, false}
use Rattle.open_rebuild.proofs.listed_pages.ListedPages.with_count.Given as goal

abbrev pub invariant-loop-page : goal.invariant-loop-page
invariant-loop-page l = l.bits.items ≡ replicate l._page false
