use Rattle.std.proofs.Common.{◌≡◌, ℕ, ◌<◌, length, None}
use Rattle.sparse_image.specs.Image.{place_at, page_over}
use Rattle.sparse_image.proofs.page.Page.lay_over.Given as goal

abbrev pub invariant-loop-i : goal.invariant-loop-i
invariant-loop-i l = record {
  own : length l.self-inside.places.items ≡ length l.initial.self-inside.places.items;
  under : length l.below-inside.places.items ≡ length l.initial.below-inside.places.items;
  moved : page_over l.self-inside.places.items l.below-inside.places.items ≡ page_over l.initial.self-inside.places.items
      l.initial.below-inside.places.items;
  empty : (k : ℕ) → k < l.i → place_at l.self-inside.places.items k ≡ None;
}
