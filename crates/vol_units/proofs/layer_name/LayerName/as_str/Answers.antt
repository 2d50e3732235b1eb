use Rattle.vol_units.proofs.NameLemmas.{IsName-layer}
use Rattle.vol_units.proofs.layer_name.LayerName.as_str.Goals as goal

pub as_str-requires : goal.as_str-requires
as_str-requires c = IsName-layer _ c.self.invariant
