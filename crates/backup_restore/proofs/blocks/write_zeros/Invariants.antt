use Rattle.std.proofs.Common.{◌≡◌, ◌*◌}
use Rattle.std.specs.Io.KnownBytes.{Appends}
use Rattle.vol_units.specs.Bytes.{zeros}
use Rattle.backup_restore.specs.Restoring.{zeros_at_once}
use Rattle.backup_restore.proofs.blocks.write_zeros.Given as goal

abbrev pub invariant-loop : goal.invariant-loop
invariant-loop g l = record {
  written : Appends (g.K.Sink.contents l.initial.sink) (g.K.Sink.contents l.sink) (zeros (l.counter * zeros_at_once));
  faults : g.K.Sink.faults l.sink ≡ g.K.Sink.faults l.initial.sink;
}
