use Rattle.std.proofs.Common.{◌≡◌, ◌++◌, codes, rules}
use Rattle.backup_restore.proofs.NamesLemmas.{name_read}
use Rattle.backup_restore.proofs.names.backup_of.Goals as goal

pub returns-in-Some : goal.returns-in-Some
returns-in-Some c =
    let name = c.in-Some.name.now in
    let cut : c.args.object.now ≡ c.args.prefix.now ++ (name ++ codes ".cfg") = search rules in
    name_read c.args.prefix.now c.args.object.now name c.read.result c.ok.result c.ok.ensures.value cut c.read.ensures
