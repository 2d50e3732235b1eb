use Rattle.std.specs.Prelude.{◌≡◌, ◌+◌, ◌≤◌, ◌++◌, [], ◌∷◌, vec_len, vec_capacity}
use Rattle.sparse_image.specs.Disk.{joined}
use Rattle.page_text.specs.Text.{map_byte}
use Rattle.page_text.proofs.text.append_map.Given as goal

abbrev pub invariant-loop-byte : goal.invariant-loop-byte
invariant-loop-byte l = record {
  spelled : l.text.items ≡ l.initial.text.items ++ joined (λ byte. map_byte l.page byte ∷ []) l.byte;
  long : vec_len l.text ≡ vec_len l.initial.text + l.byte;
  room : vec_capacity l.initial.text ≤ vec_capacity l.text;
}
