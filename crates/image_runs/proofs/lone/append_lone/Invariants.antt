use Rattle.std.proofs.Common.{◌≡◌, ◌*◌, length, take, flat_map}
use Rattle.image_runs.specs.Printing.{lone_text}
use Rattle.image_runs.proofs.lone.append_lone.Given as goal

abbrev pub invariant-loop-i : goal.invariant-loop-i
invariant-loop-i l = (length l.text ≡ 160) × (take (5 * l.i) l.text ≡ flat_map lone_text (take l.i l.bytes))
