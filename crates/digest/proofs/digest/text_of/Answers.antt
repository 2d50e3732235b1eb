use Rattle.std.proofs.Common.{◌≡◌, length, take, sym, ap, ◌∙◌, arith, rules, Result, Ok, Err}
use Rattle.std.specs.List.{list_all}
use Rattle.std.specs.Prelude.{IsOk, OnOk}
use Rattle.std.proofs.lemmas.List.{length-take-le}
use Rattle.hex.specs.Hex.{encode_with, lower_digits}
use Rattle.digest.specs.Digest.{digest_digits, is_lower_digit}
use Rattle.digest.proofs.HalfDigits.{encode_with-take}
use Rattle.digest.proofs.DigestLemmas.{encode_lower_digits, list_all-take}
use Rattle.digest.proofs.digest.text_of.Goals as goal

-- what follows from success holds
on_ok_holds : {T E P : Type 0} (r : Result T E) → IsOk r → OnOk r P → P
on_ok_holds (Ok x) ok holds = holds
on_ok_holds (Err e) ok holds = absurd (search rules)

pub returns-clause-value : goal.returns-clause-value
returns-clause-value c =
    let half : length (take 32 c.args.hash.now) ≡ 32 = length-take-le 32 c.args.hash.now (omega (arith, c.told-hash)) in
    let room = c.encode_to_slice.ensures.fits.1 (omega (arith, half)) in
    on_ok_holds _ room c.encode_to_slice.ensures.written
    ∙ sym (encode_with-take lower_digits 32 c.args.hash.now (omega (arith, c.told-hash)))

pub returns-clause-digits : goal.returns-clause-digits
returns-clause-digits c =
    let text = encode_with lower_digits c.args.hash.now in
    record {
      size = omega arith;
      digits =
          ap (list_all is_lower_digit) (returns-clause-value c)
          ∙ list_all-take is_lower_digit digest_digits text (encode_lower_digits c.args.hash.now c.fits-hash);
    }
