use Rattle.chain_meta.specs.DiskMetas.{SaysDisk}
use Rattle.folder_checks.proofs.MetaLemmas.{said_of}
use Rattle.folder_checks.proofs.metas.read_disk.Goals as goal

pub returns-in_ok-disk_in-in-Some-clause-told : goal.returns-in_ok-disk_in-in-Some-clause-told
returns-in_ok-disk_in-in-Some-clause-told g c =
    said_of SaysDisk c.args.shelf c.args.file.now (g.S.Shelves.holds c.args.shelves.now) c.in_ok-read_short.field-0 c.in-Some.text
    c.as_slice.result.now c.in_ok-disk_in-in-Some.field-0 c.in-Some.is c.as_slice.ensures.value c.in_ok-read_short.ensures.bytes
    c.in_ok-disk_in-in-Some.ensures
