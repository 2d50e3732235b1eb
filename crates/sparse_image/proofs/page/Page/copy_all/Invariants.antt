use Rattle.std.proofs.Common.{◌≡◌, ◌<◌, ◌≤◌, ℕ, length, is_some, true}
use Rattle.sparse_image.specs.Image.{place_at}
use Rattle.sparse_image.proofs.page.Page.copy_all.Given as goal

-- the places so far are those of the other page, and the others have boxes
abbrev pub invariant-loop-place : goal.invariant-loop-place
invariant-loop-place l = record {
  count : length l.self-inside.places.items ≡ 512;
  copied : (i : ℕ) → i < l.place → place_at l.self-inside.places.items i ≡ place_at l.other-inside.places.items i;
  boxes : (i : ℕ) → l.place ≤ i → i < 512 → is_some (place_at l.self-inside.places.items i) ≡ true;
}
