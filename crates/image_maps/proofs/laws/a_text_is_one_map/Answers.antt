use Rattle.image_maps.proofs.MapLemmas.{one_map, no_bad_map, one_place}
use Rattle.image_maps.proofs.laws.a_text_is_one_map.Goals as goal

pub returns-clause-one : goal.returns-clause-one
returns-clause-one c = one_map

pub returns-clause-none : goal.returns-clause-none
returns-clause-none c = no_bad_map

pub returns-clause-place : goal.returns-clause-place
returns-clause-place c = one_place
