use Rattle.std.proofs.Common.{◌-◌}
use Rattle.image_maps.proofs.digits.+some_reaches.Given as goal

abbrev pub decreases-some_reaches : goal.decreases-some_reaches
decreases-some_reaches l = l.end - l.low
