-- What was found is one.
use Rattle.std.proofs.Common.{◌≡◌, Option, Some, sym, ◌∙◌}

pub same_value : {A : Type 0} {x y : A} (found : Option A) → found ≡ Some x → found ≡ Some y → x ≡ y
same_value found is too = values (sym is ∙ too)
  where
    values : {A : Type 0} {x y : A} → Some x ≡ Some y → x ≡ y
    values same = cc
