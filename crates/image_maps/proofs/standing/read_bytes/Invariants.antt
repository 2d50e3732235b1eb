use Rattle.std.proofs.Common.{◌≡◌, ◌++◌, take}
use Rattle.image_maps.specs.Standing.{IsStanding, text_read, Keeps}
use Rattle.image_maps.proofs.standing.read_bytes.Given as goal

abbrev pub invariant-loop-byte : goal.invariant-loop-byte
invariant-loop-byte l = record {
  standing : IsStanding l.block_count l.spans.items l.at;
  read : text_read l.spans.items l.at ≡ text_read l.initial.spans.items l.initial.at ++ take l.byte-index l.bytes;
  kept : Keeps l.initial.spans.items l.spans.items;
}
