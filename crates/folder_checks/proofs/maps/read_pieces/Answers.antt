use Rattle.std.proofs.Common.{◌∙◌, ap, subst}
use Rattle.std.specs.Prelude.{IfOk}
use Rattle.image_maps.specs.Maps.{AreSpans}
use Rattle.image_maps.specs.Reading.{Reading}
use Rattle.folder_checks.proofs.PieceLemmas.{all_bad, all_read}
use Rattle.folder_checks.proofs.maps.read_pieces.Goals as goal

pub returns-in-Some-clause-told : goal.returns-in-Some-clause-told
returns-in-Some-clause-told g c =
    all_bad (g.S.Shelves.holds c.args.shelves.now) c.args.shelf c.args.file.now c.args.block_count c.args.len c.in-Some.place
    c.new-reader.result c.feed_all.new.reader.fed c.in_ok-place.field-0 c.in-Some.is c.new-reader.ensures c.requires
    c.in_ok-place.ensures.told

pub returns-clause-told : goal.returns-clause-told
returns-clause-told g c =
    all_read (g.S.Shelves.holds c.args.shelves.now) c.args.shelf c.args.file.now c.args.block_count c.args.len c.new-reader.result
    c.feed_all.new.reader c.in_ok-place.field-0 c.in_ok-end_map-in-None.field-0 c.in-None.is c.new-reader.ensures
    c.in_ok-place.ensures.blocks c.requires c.in_ok-place.ensures.told c.in_ok-end_map-in-None.ensures.told

pub returns-clause-known : goal.returns-clause-known
returns-clause-known g c =
    subst (λ n. IfOk c.in_ok-end_map-in-None.field-0 (λ spans. AreSpans 0 n spans.items))
    (c.in_ok-place.ensures.blocks ∙ ap (λ (r : Reading). r.blocks) c.new-reader.ensures) c.in_ok-end_map-in-None.ensures.known
