use Rattle.std.proofs.Common.{rules}
use Rattle.std.specs.Str.{IsUtf8}
use Rattle.vol_units.proofs.NameLemmas.{IsUtf8-name}
use Rattle.folder_checks.proofs.listing.name_text.Goals as goal

pub unwrap-requires : goal.unwrap-requires
unwrap-requires c =
    let text : IsUtf8 c.args.name.now = IsUtf8-name c.args.name.now c.requires in
    search rules
