use Rattle.std.proofs.Common.{◌++◌}
use Rattle.image_maps.proofs.MapLemmas.{no_bad_map}
use Rattle.image_maps.proofs.laws.what_begins_a_map_is_not_refused.Goals as goal

pub returns : goal.returns
returns c text blocks place small (more, (spans, is)) bad =
    no_bad_map (text ++ more) blocks place spans small is (bad more)
