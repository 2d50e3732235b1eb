use Rattle.std.proofs.Common.{◌≡◌, ◌==◌, take}
use Rattle.std.specs.List.{list_all}
use Rattle.image_runs.proofs.run.is_all.Given as goal

abbrev pub invariant-loop-b : goal.invariant-loop-b
invariant-loop-b l = l.same ≡ list_all (λ x. x == l.byte) (take l.b-index l.bytes)
