use Rattle.std.proofs.Common.{◌≡◌, ◌<◌, ℕ, length, is_some, true}
use Rattle.sparse_image.specs.Image.{place_at}
use Rattle.sparse_image.proofs.page.Page.with_boxes.Given as goal

-- the places so far have boxes
abbrev pub invariant-loop-place : goal.invariant-loop-place
invariant-loop-place l = record {
  count : length l.self ≡ 512;
  boxes : (i : ℕ) → i < l.place → is_some (place_at l.self i) ≡ true;
}
