use Rattle.image_maps.proofs.StandingLemmas.{ends_in_line}
use Rattle.image_maps.proofs.reader.MapReader.end.Goals as goal

pub returns-in_default-line : goal.returns-in_default-line
returns-in_default-line c =
    ends_in_line c.self.inside.block_count c.self.inside.spans.items c.self.inside.at c.self.inside.bad c.args.self
    c.self.view_is c.in_default.is c.self.invariant c.in_default-line.not-Empty
