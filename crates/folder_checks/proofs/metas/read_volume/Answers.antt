use Rattle.chain_meta.specs.VolumeMetas.{SaysVolume}
use Rattle.folder_names.specs.Files.{volume_file}
use Rattle.folder_checks.proofs.MetaLemmas.{said_of}
use Rattle.folder_checks.proofs.metas.read_volume.Goals as goal

pub returns-in_ok-volume_in-in-Some-clause-told : goal.returns-in_ok-volume_in-in-Some-clause-told
returns-in_ok-volume_in-in-Some-clause-told g c =
    said_of SaysVolume c.args.shelf volume_file (g.S.Shelves.holds c.args.shelves.now) c.in_ok-read_short.field-0 c.in-Some.text
    c.as_slice.result.now c.in_ok-volume_in-in-Some.field-0 c.in-Some.is c.as_slice.ensures.value c.in_ok-read_short.ensures.bytes
    c.in_ok-volume_in-in-Some.ensures.said
