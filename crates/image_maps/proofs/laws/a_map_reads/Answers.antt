use Rattle.std.proofs.Common.{refl}
use Rattle.std.specs.Fmt.{digits}
use Rattle.image_maps.proofs.laws.a_map_reads.Goals as goal

pub returns : goal.returns
unfolding digits
returns c = refl
