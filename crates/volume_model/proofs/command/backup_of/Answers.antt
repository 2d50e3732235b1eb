use Rattle.std.proofs.Common.{rules}
use Rattle.volume_model.specs.Commands.{IsOfNoBackup}
use Rattle.volume_model.proofs.NameParts.{no_names, no_backup}
use Rattle.volume_model.proofs.command.backup_of.Goals as goal

pub returns-in_default-clause-refused : goal.returns-in_default-clause-refused
returns-in_default-clause-refused c = λ b n named layer. no_names c.args.names.now b n c.in_default.ensures.none

pub returns-in_err-backup-clause-refused : goal.returns-in_err-backup-clause-refused
returns-in_err-backup-clause-refused c =
    let none : IsOfNoBackup c.args.names.now = no_backup c.args.names.now c.in-Some.backup.now c.in-Some.snapshot.now
    c.in-Some.ensures.some (λ named layer. c.in_err-backup.ensures named) in
    search rules

pub returns-in_err-snapshot-clause-refused : goal.returns-in_err-snapshot-clause-refused
returns-in_err-snapshot-clause-refused c =
    let none : IsOfNoBackup c.args.names.now = no_backup c.args.names.now c.in-Some.backup.now c.in-Some.snapshot.now
    c.in-Some.ensures.some (λ named layer. c.in_err-snapshot.ensures layer) in
    search rules
