use Rattle.std.proofs.Common.{◌*◌, length, arith}
use Rattle.image_maps.specs.Maps.{has_block}
use Rattle.replica_open.specs.Reading.{ReadsOrStops}
use Rattle.replica_open.proofs.ReadLemmas.{read_is, of_file}
use Rattle.replica_open.proofs.image.read_image.Goals as goal

pub returns-in-None-clause-told : goal.returns-in-None-clause-told
returns-in-None-clause-told g c =
    let n = length c.in_ok-read.read in
    let a = g.S.Shelves.holds c.args.shelves.now in
    read_is a c.args.shelf c.args.size (n * 2097152) c.args.image.now c.args.spans.now
    c.in_ok-read.read c.read_runs.new.into c.page_count.result c.in_ok-read_runs.field-0 c.in_ok-read.ensures.empty
    (omega (arith, c.in_ok-read.ensures.empty.count, c.page_count.ensures)) c.in-None.is
    (of_file a c.as_str.result.now c.args.image.now
    (λ f files. ReadsOrStops (files c.args.shelf) (n * 2097152) f (has_block c.args.spans.now) c.in_ok-read.read c.read_runs.new.into
    c.in_ok-read_runs.field-0) c.as_str.ensures.value c.in_ok-read_runs.ensures.told)
