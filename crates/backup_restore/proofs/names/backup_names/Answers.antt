use Rattle.std.proofs.Common.{◌≡◌, rules, subst, map, string_bytes, Global}
use Rattle.backup_units.specs.Names.{cfg_prefix}
use Rattle.backup_restore.specs.Listing.{AreNamesIn}
use Rattle.backup_restore.proofs.NamesLemmas.{are_backups}
use Rattle.backup_restore.proofs.names.backup_names.Goals as goal

pub returns-clause-names : goal.returns-clause-names
returns-clause-names g c t =
    let prefix = c.deref.result.now in
    let objects = c.in-Ok.objects.items in
    let names = c.in_ok-names-in-Ok.names.items in
    let is : prefix ≡ cfg_prefix c.args.volume.now = search rules in
    let again : c.deref-in-Ok.result.now ≡ prefix = search rules in
    let all : c.deref-in-Ok-2.result.now ≡ objects = search rules in
    are_backups (g.T.Target.holds c.args.target.now) c.args.volume.now prefix (map (string_bytes {Z = Global}) objects) names
    c.sorted.result.items is (c.in-Ok.ensures.names t)
    (subst (λ p. AreNamesIn p (map (string_bytes {Z = Global}) objects) names) again
    (subst (λ l. AreNamesIn c.deref-in-Ok.result.now (map (string_bytes {Z = Global}) l) names) all c.in_ok-names-in-Ok.ensures))
    c.sorted.ensures.same c.sorted.ensures.ascending
