use Rattle.std.proofs.Common.{◌≡◌, length}
use Rattle.std.specs.List.{AllWithin}
use Rattle.client_worker.specs.Rooms.{AreBoxes}
use Rattle.client_worker.proofs.rooms.make_all_full.Given as goal

-- the sets before are full
abbrev pub invariant-loop-r : goal.invariant-loop-r
invariant-loop-r l = record {
  count : length l.sets ≡ length l.initial.sets;
  boxes : AllWithin (AreBoxes l.count) l.sets 0 l.r;
}
