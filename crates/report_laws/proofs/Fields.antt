-- A number, an offset, bytes and a name that stand first in two texts are equal, and so is what is behind them.
use Rattle.std.proofs.Common.{◌≡◌, ℕ, ◌≤◌, ℤ, List, ◌∷◌, ◌++◌, ap}
use Rattle.std.specs.Prelude.{FitsSigned}
use Rattle.std.specs.Int.{w64}
use Rattle.std.specs.Fmt.{decimal, signed_decimal}
use Rattle.std.proofs.lemmas.Fmt.{decimal_injective, signed_decimal_injective}
use Rattle.image_runs.specs.Runs.{runs_text}
use Rattle.image_runs.proofs.TextTells.{runs_text_injective}
use Rattle.vol_units.specs.Name.{IsName}
use Rattle.report_laws.specs.Fits.{Fits64, AreBytes}
use Rattle.report_laws.proofs.Words.{cut, IsWord-decimal, IsWord-signed, IsWord-runs, IsWord-name}

-- the first of two texts is that of the second, and what is behind it too
pub record AreOne {A : Type 0} (a b : A) (xs ys : List ℕ) : Type 0 where
  pub same : a ≡ b
  pub rest : xs ≡ ys

-- by the byte behind: a space or the end of the line
module _ (s : ℕ) (stop : s ≤ 32) (xs ys : List ℕ) where
  pub number : (m n : ℕ) → Fits64 m → Fits64 n → decimal m ++ s ∷ xs ≡ decimal n ++ s ∷ ys → AreOne m n xs ys
  number m n p q e =
      let c = cut (decimal m) (decimal n) s s xs ys (IsWord-decimal m) (IsWord-decimal n) stop stop e in
      record { same = decimal_injective m n p q c.word; rest = c.rest }

  pub offset : (y z : ℤ) → FitsSigned w64 y → FitsSigned w64 z → signed_decimal y ++ s ∷ xs ≡ signed_decimal z ++ s ∷ ys
      → AreOne y z xs ys
  offset y z p q e =
      let c = cut (signed_decimal y) (signed_decimal z) s s xs ys (IsWord-signed y) (IsWord-signed z) stop stop e in
      record { same = signed_decimal_injective y z p.sfits q.sfits c.word; rest = c.rest }

  pub bytes : (us vs : List ℕ) → AreBytes us → AreBytes vs → runs_text us ++ s ∷ xs ≡ runs_text vs ++ s ∷ ys → AreOne us vs xs ys
  bytes us vs p q e =
      let c = cut (runs_text us) (runs_text vs) s s xs ys (IsWord-runs us) (IsWord-runs vs) stop stop e in
      record { same = runs_text_injective us vs p.each q.each p.few q.few c.word; rest = c.rest }

  pub name : (us vs : List ℕ) → IsName us → IsName vs → us ++ s ∷ xs ≡ vs ++ s ∷ ys → AreOne us vs xs ys
  name us vs p q e =
      let c = cut us vs s s xs ys (IsWord-name us p) (IsWord-name vs q) stop stop e in
      record { same = c.word; rest = c.rest }

-- what is made of one field, or of two that follow one another, is equal too
pub one_by : {A B : Type 0} {a b : A} {xs ys : List ℕ} (f : A → B) → AreOne a b xs ys → AreOne (f a) (f b) xs ys
one_by f one = record { same = ap f one.same; rest = one.rest }

pub two_by : {A B C : Type 0} {a b : A} {c d : B} {us vs xs ys : List ℕ} (f : A → B → C) → AreOne a b us vs
    → (us ≡ vs → AreOne c d xs ys) → AreOne (f a c) (f b d) xs ys
two_by f first behind =
    let one = behind first.rest in
    let front = first.same in
    let back = one.same in
    record { same = cc; rest = one.rest }
