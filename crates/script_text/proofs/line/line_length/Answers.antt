use Rattle.script_text.proofs.LineLemmas.{HasNoLine-from_position, IsCut-from_position}
use Rattle.script_text.proofs.line.line_length.Goals as goal

pub returns-clause-cut : goal.returns-clause-cut
returns-clause-cut c = (IsCut-from_position c.args.input.now c.first_feed.result c.requires c.first_feed.ensures).0

pub returns-clause-within : goal.returns-clause-within
returns-clause-within c = (IsCut-from_position c.args.input.now c.first_feed.result c.requires c.first_feed.ensures).1

pub returns-clause-none : goal.returns-clause-none
returns-clause-none c = HasNoLine-from_position c.args.input.now c.first_feed.result c.first_feed.ensures
