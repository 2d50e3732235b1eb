use Rattle.std.proofs.Common.{◌-◌, None}
use Rattle.replica_compare.specs.Least.{IsLeastOf}
use Rattle.replica_compare.specs.Blocks.{DiffersAt, TellsFrom}
use Rattle.replica_compare.proofs.readings.least_at.Given as goal

abbrev pub invariant-loop-done : goal.invariant-loop-done
invariant-loop-done l = record {
  told : TellsFrom l.one l.other l.block (l.count - l.done) l.differs;
  least : IsLeastOf (DiffersAt l.one l.other l.block) l.one.layers (l.count - l.done) None l.best;
}
