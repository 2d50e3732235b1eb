use Rattle.std.proofs.Common.{◌≡◌, length}
use Rattle.std.specs.List.{All}
use Rattle.client_worker.specs.Rooms.{AreBoxes}
use Rattle.client_worker.proofs.rooms.make_sets.Given as goal

-- as many sets as were made
abbrev pub invariant-loop-r : goal.invariant-loop-r
invariant-loop-r l = record {
  count : length l.sets.items ≡ l._r;
  boxes : All (AreBoxes l.count) l.sets.items;
}
