use Rattle.std.proofs.Common.{rules, [], sym, subst}
use Rattle.backup_restore.specs.Listing.{AreNamesIn}
use Rattle.backup_restore.proofs.NamesLemmas.{names_none, names_more, names_all}
use Rattle.backup_restore.proofs.names.names_in.Goals as goal

pub loop-object-init : goal.loop-object-init
loop-object-init c = subst (AreNamesIn c.args.prefix.now []) (sym c.new-names.ensures.items) (names_none c.args.prefix.now)

pub loop-object-preserved : goal.loop-object-preserved
loop-object-preserved c =
    names_more c.args.prefix.now c.args.objects.now c.loop-object.object-index c.object-item.result _ c.loop-object.names.items
    c.add_name.new.names.items c.loop-object-test.true c.object-item.is (search rules) c.in_ok-add_name.ensures c.loop-object.invariant

pub returns : goal.returns
returns c =
    names_all c.args.prefix.now c.args.objects.now c.loop-object.object-index c.loop-object.names.items c.loop-object-test.false
    c.loop-object.invariant
