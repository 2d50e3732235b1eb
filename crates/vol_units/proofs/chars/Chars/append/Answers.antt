use Rattle.std.proofs.Common.{◌≤◌, ◌+◌, length, ap, arith}
use Rattle.vol_units.specs.Chars.{length-take_padded}
use Rattle.vol_units.proofs.CharsLemmas.{IsPadded-append}
use Rattle.vol_units.proofs.chars.Chars.append.Goals as goal

pub invariant_of-self : goal.invariant_of-self
invariant_of-self c =
    let chars = c.self.inside in
    let room : chars.len + length c.args.bytes.now ≤ 64 =
    omega (arith, ap length c.self.view_is, length-take_padded chars.places chars.len c.self.invariant) in
    rw c.copy_from_slice.ensures.after
    (IsPadded-append _ _ _ _ c.self.invariant room (omega arith))
