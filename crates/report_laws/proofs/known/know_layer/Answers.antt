use Rattle.std.proofs.Common.{rules}
use Rattle.vol_units.proofs.NameLemmas.{IsName-layer}
use Rattle.report_laws.proofs.known.know_layer.Goals as goal

pub returns : goal.returns
returns c = search (rules, IsName-layer)
