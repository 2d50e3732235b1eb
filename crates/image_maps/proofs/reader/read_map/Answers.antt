use Rattle.std.proofs.lemmas.Result.{err_from_is_err_and}
use Rattle.image_maps.proofs.StandingLemmas.{refused_map}
use Rattle.image_maps.proofs.reader.read_map.Goals as goal

pub returns-in_err-feed-clause-refused : goal.returns-in_err-feed-clause-refused
returns-in_err-feed-clause-refused c =
    let error = err_from_is_err_and c.from_residual.result c.from_residual.ensures.1 in
    rw (error.1, error.2)
    (refused_map c.args.block_count c.args.text.now c.new-reader.result c.in_err-feed.field-0.0 c.feed.new.self.fed
    c.new-reader.ensures c.in_err-feed.ensures.fed)
