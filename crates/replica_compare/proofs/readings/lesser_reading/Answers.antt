use Rattle.std.proofs.Common.{sym, ◌∙◌}
use Rattle.replica_compare.proofs.ReadLemmas.{none_more, later_more, sooner_more}
use Rattle.replica_compare.proofs.readings.lesser_reading.Goals as goal

pub returns-then-not-stands_before : goal.returns-then-not-stands_before
returns-then-not-stands_before c =
    later_more c.args.one.now c.args.other.now c.args.block c.args.best c.in-Some.layer c.in-Some.ensures
    (sym c.stands_before.ensures ∙ c.if-not-stands_before.true) c.requires.first

pub returns : goal.returns
returns c =
    sooner_more c.args.one.now c.args.other.now c.args.block c.args.best c.in-Some.layer c.in-Some.ensures
    (sym c.stands_before.ensures ∙ c.if-not-stands_before.false) c.requires.first

pub returns-then-all_alike : goal.returns-then-all_alike
returns-then-all_alike c =
    none_more c.args.one.now c.args.other.now c.args.block c.args.best (c.all_alike.ensures c.if-all_alike.true) c.requires.first
