-- What reading tells, joined.
use Rattle.std.proofs.Common.{◌≡◌, Option, Some, None, Result, Ok, Err, subst}
use Rattle.std.specs.Prelude.{MatchResult, MatchOption}
use Rattle.shelf_traits.specs.Files.{Files}
use Rattle.folder_checks.specs.Told.{Told}

pub told_map : (a : Option Files) (P Q : Files → Type 0) → Told a P → ((files : Files) → P files → Q files) → Told a Q
told_map None P Q p f = tt
told_map (Some files) P Q p f = f files p

pub told_two : (a : Option Files) (P Q R : Files → Type 0) → Told a P → Told a Q
    → ((files : Files) → P files → Q files → R files) → Told a R
told_two None P Q R p q f = tt
told_two (Some files) P Q R p q f = f files p q

pub told_back : (a b : Option Files) (P : Files → Type 0) → b ≡ a → Told b P → Told a P
told_back a b P same t = subst (λ x. Told x P) same t

-- ---- what is told of an answer, in one of its cases

pub found_is : {V : Type 0} (o : Option V) (v : V) (a : Option Files) (N : Files → Type 0) (S : Files → V → Type 0) → o ≡ Some v
    → Told a (λ files. MatchOption o (N files) (S files)) → Told a (λ files. S files v)
found_is o v a N S e t = subst (λ x. Told a (λ files. MatchOption x (N files) (S files))) e t

pub bad_is : {V W : Type 0} (o : Result V W) (w : W) (a : Option Files) (P : Files → V → Type 0) (Q : Files → W → Type 0) → o ≡ Err w
    → Told a (λ files. MatchResult o (P files) (Q files)) → Told a (λ files. Q files w)
bad_is o w a P Q e t = subst (λ x. Told a (λ files. MatchResult x (P files) (Q files))) e t

pub good_is : {V W : Type 0} (o : Result V W) (v : V) (a : Option Files) (P : Files → V → Type 0) (Q : Files → W → Type 0) → o ≡ Ok v
    → Told a (λ files. MatchResult o (P files) (Q files)) → Told a (λ files. P files v)
good_is o v a P Q e t = subst (λ x. Told a (λ files. MatchResult x (P files) (Q files))) e t
