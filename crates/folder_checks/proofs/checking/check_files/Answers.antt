use Rattle.std.proofs.Common.{◌/◌, string_bytes}
use Rattle.vol_units.specs.declared.size.TheConstants.{BLOCK_BYTES}
use Rattle.folder_checks.proofs.FolderLemmas.{volume_fault}
use Rattle.folder_checks.proofs.checking.check_files.Goals as goal

pub returns-in-None-clause-told : goal.returns-in-None-clause-told
returns-in-None-clause-told g c =
    volume_fault (g.S.Shelves.holds c.args.shelves.now) c.args.shelf c.args.size (c.args.size / BLOCK_BYTES)
    (string_bytes c.in_ok-file-in-None.file) c.in_ok-read_volume.field-0 c.in-None.is c.in_ok-file-in-None.ensures.ok
    c.in_ok-read_volume.ensures.told
