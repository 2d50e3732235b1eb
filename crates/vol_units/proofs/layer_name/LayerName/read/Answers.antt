use Rattle.vol_units.proofs.NameLemmas.{IsName-own, IsOwnName-sys}
use Rattle.vol_units.proofs.layer_name.LayerName.read.Goals as goal

pub of-requires : goal.of-requires
of-requires c = (IsName-own _ (IsOwnName-sys _ (c.is_sys_name.ensures.0 c.if-is_sys_name.true))).most
