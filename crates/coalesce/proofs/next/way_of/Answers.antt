use Rattle.coalesce.proofs.WayLemmas.{way_at, no_way}
use Rattle.coalesce.proofs.next.way_of.Goals as goal

pub returns-in-Some : goal.returns-in-Some
returns-in-Some c =
    way_at c.args.tree.now c.args.name.now c.in-Some.place c.goes_at.result c.in-Some.ensures.place c.goes_at.ensures

pub returns-in-None : goal.returns-in-None
returns-in-None c = no_way c.args.tree.now c.args.name.now c.in-None.ensures.place
