use Rattle.std.proofs.Common.{◌≡◌, take}
use Rattle.image_maps.specs.Maps.{map_text}
use Rattle.image_maps.proofs.write.write_map.Given as goal

abbrev pub invariant-loop-span : goal.invariant-loop-span
invariant-loop-span l = l.text.items ≡ map_text (take l.span-index l.spans)
