use Rattle.chain_meta.specs.DiskMetas.{SaysDisk, RefusesDisk}
use Rattle.folder_checks.proofs.MetaLemmas.{refused, only_one, not_syntax, not_missing, not_backing}
use Rattle.folder_checks.proofs.metas.disk_in.Goals as goal

pub returns-in-Ok : goal.returns-in-Ok
returns-in-Ok c =
    (c.in-Ok.ensures.found, only_one (SaysDisk c.args.text.now) (RefusesDisk c.args.text.now) c.in-Ok.meta c.in-Ok.ensures.only)

pub returns-in-Err-Syntax : goal.returns-in-Err-Syntax
returns-in-Err-Syntax c =
    let e = c.in-Err-Syntax in
    refused (SaysDisk c.args.text.now) (RefusesDisk c.args.text.now) e.field-0 (not_syntax e.field-0 e.field-0-is)
    e.ensures.only

pub returns-in-Err-Missing : goal.returns-in-Err-Missing
returns-in-Err-Missing c =
    let e = c.in-Err-Missing in
    refused (SaysDisk c.args.text.now) (RefusesDisk c.args.text.now) e.field-0 (not_missing e.field-0 e.field-0-0 e.field-0-is)
    e.ensures.only

pub returns-in-Err-Backing : goal.returns-in-Err-Backing
returns-in-Err-Backing c =
    let e = c.in-Err-Backing in
    refused (SaysDisk c.args.text.now) (RefusesDisk c.args.text.now) e.field-0 (not_backing e.field-0 e.field-0-is)
    e.ensures.only
