use Rattle.std.proofs.Common.{rules}
use Rattle.std.specs.Str.{IsUtf8}
use Rattle.vol_units.proofs.NameLemmas.{IsUtf8-name}
use Rattle.vol_units.proofs.chars.Chars.as_str.Goals as goal

pub unwrap-requires : goal.unwrap-requires
unwrap-requires c =
    let text : IsUtf8 c.as_bytes.result.now = rw c.as_bytes.ensures (IsUtf8-name _ c.requires) in
    search rules
