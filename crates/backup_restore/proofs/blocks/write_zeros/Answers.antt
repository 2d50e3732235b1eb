use Rattle.std.proofs.Common.{refl, rules, subst}
use Rattle.std.specs.Io.KnownBytes.{Appends}
use Rattle.outer_traits.specs.Passing.{WritesPrefix}
use Rattle.backup_restore.proofs.RestoreLemmas.{zeros_none, zeros_more, zeros_prefix}
use Rattle.backup_restore.proofs.blocks.write_zeros.Goals as goal

pub loop-init : goal.loop-init
loop-init g c = record { written = zeros_none (g.K.Sink.contents c.args.sink.now); faults = refl }

pub loop-preserved : goal.loop-preserved
loop-preserved g c = record {
  written = zeros_more c.loop.counter (g.K.Sink.contents c.args.sink.now) (g.K.Sink.contents c.loop.sink)
      (g.K.Sink.contents c.write.new.sink) c.loop.invariant.written
      (subst (Appends (g.K.Sink.contents c.loop.sink) (g.K.Sink.contents c.write.new.sink)) c.requires c.in_ok-write.ensures.written);
  faults = search rules;
}

pub returns-in_err-write-clause-prefix : goal.returns-in_err-write-clause-prefix
returns-in_err-write-clause-prefix g c =
    zeros_prefix c.loop.counter c.args.count (g.K.Sink.contents c.args.sink.now) (g.K.Sink.contents c.loop.sink)
    (g.K.Sink.contents c.write.new.sink) c.loop-test.true c.loop.invariant.written
    (subst (WritesPrefix (g.K.Sink.contents c.loop.sink) (g.K.Sink.contents c.write.new.sink)) c.requires c.write.ensures.prefix)
