use Rattle.std.proofs.Common.{◌≡◌, ◌<◌, ℕ, None}
use Rattle.sparse_image.specs.Image.{place_at}
use Rattle.sparse_image.proofs.page.Page.has_block.Given as goal

-- none of the places so far has a block
abbrev pub invariant-loop-place : goal.invariant-loop-place
invariant-loop-place l = (i : ℕ) → i < l.place → place_at l.self-inside.places.items i ≡ None
