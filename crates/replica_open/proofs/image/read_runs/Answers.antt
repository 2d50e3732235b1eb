use Rattle.std.proofs.Common.{rules, ◌*◌, ap, length, take, get_or, arith, ◌+◌}
use Rattle.image_maps.specs.Maps.{has_block, is_within}
use Rattle.replica_open.proofs.ReadLemmas.{told_more, spans_more, span_fits}
use Rattle.replica_open.proofs.image.read_runs.Goals as goal

pub read_run-requires-clause-inside : goal.read_run-requires-clause-inside
read_run-requires-clause-inside g c =
    omega (
      arith,
      c.loop-run.invariant.count,
      span_fits (length c.args.into.now * 512) c.args.spans.now 0 c.loop-run.run-index (record { first = 0; count = 0 }) c.requires.spans
          c.loop-run-test.true,
    )

pub loop-run-preserved : goal.loop-run-preserved
loop-run-preserved g c =
    let spans = c.args.spans.now in
    let i = c.loop-run.run-index in
    record {
      same = search rules;
      faults = search rules;
      count = search rules;
      told = told_more (g.S.Shelves.holds c.args.shelves.now) (g.S.Shelves.holds c.loop-run.shelves) c.args.shelf
          (length c.args.into.now * 2097152) (length c.loop-run.into * 2097152) c.args.file.now
          (has_block (take i spans)) (is_within (get_or spans i (record { first = 0; count = 0 }))) (has_block (take (i + 1) spans))
          c.args.into.now c.loop-run.into c.read_run.new.into c.in_ok-read_run.field-0 c.loop-run.invariant.same
          (ap (λ n. n * 2097152) c.loop-run.invariant.count) c.in-None.is
          (λ k. spans_more spans i (record { first = 0; count = 0 }) k c.loop-run-test.true) c.loop-run.invariant.told
          c.in_ok-read_run.ensures.told;
    }
