use Rattle.backup_restore.proofs.NamesLemmas.{same_names, names_rise}
use Rattle.backup_restore.proofs.names.sorted.Goals as goal

pub returns-clause-same : goal.returns-clause-same
returns-clause-same c =
    same_names c.args.names.items c.sort_unstable.new.self.items c.dedup.new.self.items c.sort_unstable.ensures.permutation
    c.dedup.ensures.filtered

pub returns-clause-ascending : goal.returns-clause-ascending
returns-clause-ascending c =
    names_rise c.sort_unstable.new.self.items c.dedup.new.self.items c.sort_unstable.ensures.sorted c.dedup.ensures.filtered
