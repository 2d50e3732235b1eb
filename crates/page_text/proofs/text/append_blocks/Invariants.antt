use Rattle.std.specs.Prelude.{◌≡◌, ◌*◌, ◌≤◌, ◌++◌, length, vec_capacity}
use Rattle.sparse_image.specs.Disk.{joined}
use Rattle.page_text.specs.Text.{block_at}
use Rattle.page_text.proofs.text.append_blocks.Given as goal

abbrev pub invariant-loop-place : goal.invariant-loop-place
invariant-loop-place l = record {
  spelled : l.text.items ≡ l.initial.text.items ++ joined (block_at l.page) l.place;
  few : length (joined (block_at l.page) l.place) ≤ l.place * 4096;
  room : vec_capacity l.initial.text ≤ vec_capacity l.text;
}
