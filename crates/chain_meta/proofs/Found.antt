-- What was found is one, or nothing.
use Rattle.std.proofs.Common.{◌≡◌, Option, Some, None, sym, ◌∙◌}

pub same_value : {A : Type 0} {x y : A} (found : Option A) → found ≡ Some x → found ≡ Some y → x ≡ y
same_value found is too = values (sym is ∙ too)
  where
    values : {A : Type 0} {x y : A} → Some x ≡ Some y → x ≡ y
    values same = cc

-- nothing is no value
pub no_value : {A : Type 0} {x : A} (found : Option A) → found ≡ None → found ≡ Some x → ⊥
no_value found none is = differ (sym none ∙ is)
  where
    differ : {A : Type 0} {x : A} → None ≡ Some x → ⊥
    differ same = cc
