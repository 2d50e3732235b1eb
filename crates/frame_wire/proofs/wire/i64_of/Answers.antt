use Rattle.std.proofs.Common.{rules, ◌≡◌, ℕ, ℤ, ◌<◌, ◌^◌, refl}
use Rattle.std.specs.Int.{w64, from_le_bytes, cast_signed, cast_unsigned}
use Rattle.std.proofs.lemmas.Nat.{le_bytes_8}
use Rattle.std.proofs.lemmas.Int.{of_z-to_z}
use Rattle.frame_wire.proofs.wire.i64_of.Goals as goal

-- a signed number made of an unsigned one gives it back
given_back : (n : ℕ) (z : ℤ) → n < 2 ^ 64 → z ≡ cast_signed w64 n → cast_unsigned w64 (cast_signed w64 (cast_unsigned w64 z)) ≡ n
given_back n z fits is = let once : cast_unsigned w64 (cast_signed w64 n) ≡ n = of_z-to_z w64 n fits in rw (is, once, once) refl

pub returns : goal.returns
returns c =
    let fits : from_le_bytes w64 c.args.bytes < 2 ^ 64 = search rules in
    le_bytes_8 c.args.bytes _ (search rules) (search rules) (given_back _ _ fits c.from_le_bytes.ensures)
