use Rattle.std.proofs.Common.{◌≡◌, ◌≤◌, [], vec_len, vec_capacity}
use Rattle.std.specs.List.{All}
use Rattle.outer_memory.proofs.kept_frames.KeptFrames.new.Given as goal

abbrev pub invariant-loop : goal.invariant-loop
invariant-loop l = (vec_len l.spare ≡ l.counter) × All (λ room. (room.items ≡ []) × (l.longest ≤ vec_capacity room)) l.spare.items
