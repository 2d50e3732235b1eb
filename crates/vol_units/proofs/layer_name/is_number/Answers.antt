use Rattle.std.proofs.Common.{◌≡◌, length, sym, ◌∙◌, arith}
use Rattle.std.proofs.lemmas.Bool.{false≢true}
use Rattle.std.proofs.lemmas.Bool.Decides.{nat_tests}
use Rattle.vol_units.proofs.NameLemmas.{IsPlainNumeral-from_number, IsNumber-from_digits, IsNumber-zero}
use Rattle.vol_units.proofs.layer_name.is_number.Goals as goal

pub returns-then-is_empty : goal.returns-then-is_empty
returns-then-is_empty c =
    (λ e. absurd (false≢true e), λ n. let some = (IsPlainNumeral-from_number _ n).some in absurd (grind (arith, nat_tests)))

pub returns-then-text-gt10 : goal.returns-then-text-gt10
returns-then-text-gt10 c =
    (λ e. absurd (false≢true e), λ n. absurd (omega (arith, (IsPlainNumeral-from_number _ n).most)))

pub returns-then-text-eq48 : goal.returns-then-text-eq48
returns-then-text-eq48 c = (
  λ e. let one : length c.args.text.now ≡ 1 = grind (arith, nat_tests) in
      IsNumber-zero _ (grind (arith, nat_tests)) one,
  λ n. let lead = (IsPlainNumeral-from_number _ n).lead in
      grind (arith, nat_tests),
)

pub returns : goal.returns
returns c = (
  λ e. IsNumber-from_digits _ record {
    some = grind (arith, nat_tests);
    most = omega arith;
    lead =
        λ zero. absurd (omega arith);
    digits = sym c.are_digits.ensures ∙ e;
  },
  λ n. c.are_digits.ensures
      ∙ (IsPlainNumeral-from_number _ n).digits,
)
