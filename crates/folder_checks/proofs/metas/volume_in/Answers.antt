use Rattle.chain_meta.specs.VolumeMetas.{SaysVolume, RefusesVolume}
use Rattle.folder_checks.proofs.MetaLemmas.{refused, only_one, low_head, not_syntax, not_missing, not_backing}
use Rattle.folder_checks.proofs.metas.volume_in.Goals as goal

pub returns-in-Ok : goal.returns-in-Ok
returns-in-Ok c = record {
  said = (c.in-Ok.ensures.found, only_one (SaysVolume c.args.text.now) (RefusesVolume c.args.text.now) c.in-Ok.meta c.in-Ok.ensures.only);
  known = low_head c.args.text.now c.in-Ok.meta c.in-Ok.ensures.found;
}

pub returns-in-Err-Syntax-clause-said : goal.returns-in-Err-Syntax-clause-said
returns-in-Err-Syntax-clause-said c =
    let e = c.in-Err-Syntax in
    refused (SaysVolume c.args.text.now) (RefusesVolume c.args.text.now) e.field-0 (not_syntax e.field-0 e.field-0-is)
    e.ensures.only

pub returns-in-Err-Missing-clause-said : goal.returns-in-Err-Missing-clause-said
returns-in-Err-Missing-clause-said c =
    let e = c.in-Err-Missing in
    refused (SaysVolume c.args.text.now) (RefusesVolume c.args.text.now) e.field-0 (not_missing e.field-0 e.field-0-0 e.field-0-is)
    e.ensures.only

pub returns-in-Err-Backing-clause-said : goal.returns-in-Err-Backing-clause-said
returns-in-Err-Backing-clause-said c =
    let e = c.in-Err-Backing in
    refused (SaysVolume c.args.text.now) (RefusesVolume c.args.text.now) e.field-0 (not_backing e.field-0 e.field-0-is)
    e.ensures.only
