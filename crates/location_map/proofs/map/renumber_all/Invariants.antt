use Rattle.std.proofs.Common.{◌≡◌, ◌++◌, map, take, drop}
use Rattle.location_map.specs.LocationMap.{index_without}
use Rattle.location_map.proofs.map.renumber_all.Given as goal

-- the bytes so far are changed, and the others are as they were
abbrev pub invariant-loop-index : goal.invariant-loop-index
invariant-loop-index l =
    l.indices ≡ map (index_without l.gone) (take l.index-index l.initial.indices) ++ drop l.index-index l.initial.indices
