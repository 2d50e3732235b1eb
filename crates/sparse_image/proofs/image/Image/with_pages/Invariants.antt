use Rattle.std.proofs.Common.{◌≡◌, replicate, []}
use Rattle.sparse_image.proofs.image.Image.with_pages.Given as goal

abbrev pub invariant-loop-page : goal.invariant-loop-page
invariant-loop-page l = l.pages.items ≡ replicate l._page []
