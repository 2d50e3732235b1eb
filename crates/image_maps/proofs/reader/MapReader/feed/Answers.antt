use Rattle.image_maps.proofs.StandingLemmas.{feeds_all}
use Rattle.image_maps.proofs.reader.MapReader.feed.Goals as goal

pub returns-in-Ok-clause-fed : goal.returns-in-Ok-clause-fed
returns-in-Ok-clause-fed c =
    let told = c.read_bytes in
    feeds_all c.self.inside.block_count c.self.inside.spans.items told.new.spans.items c.self.inside.at told.new.at
    c.self.inside.bad c.args.self.now c.args.piece.now c.self.view_is c.in_default.is told.ensures.standing
    c.in-Ok.ensures.ok
