-- What a giver's list and a base come to.
use Rattle.std.proofs.Common.{◌≡◌, ℕ, ◌*◌, ◌<◌, Bool, List, length, get_or, Option, None, Some, Result, Ok, Err, IfOk}
use Rattle.std.proofs.Common.{refl, sym, ap, subst, ◌∙◌, arith}
use Rattle.std.specs.Prelude.{IfSome}
use Rattle.target_traits.specs.Objects.{Objects}
use Rattle.backup_units.specs.Blocks.{page_bytes}
use Rattle.backup_make.specs.Giving.{Copies, HasCopy, Stays, Covers, CoversDisk, Drops}
use Rattle.backup_make.specs.Making.{KeptElse, IsBaseIf, IsStart, listed_in}
use Rattle.backup_make.specs.declared.giver.Pages.{Pages}
use Rattle.backup_make.specs.declared.giver.Pages.TheVariants.{All, Above}
use Rattle.backup_make.proofs.StartLemmas.{start_kept}

abbrev Listed : Type 0
Listed = List (Option (List ℕ))

copy_of : (o : Option (List ℕ)) (bytes : ℕ) → HasCopy o bytes → (disk : List ℕ) × (o ≡ Some disk) × (length disk ≡ bytes)
copy_of None bytes has = absurd has
copy_of (Some disk) bytes has = (disk, refl, has)

pub live : (f g : Copies) (a b disk : List ℕ) → Stays f g a b → f a ≡ Some disk → g b ≡ Some disk
live f g a b disk stays is = ap g stays.name ∙ stays.copy ∙ is

-- the copy has the size of the list still
pub copy_stays : (f g : Copies) (a b : List ℕ) (count : ℕ) (blocks : Listed) → Stays f g a b
    → HasCopy (f a) (count * page_bytes) → length blocks ≡ count
    → IfSome (g b) (λ disk. length disk ≡ length blocks * page_bytes)
copy_stays f g a b count blocks stays has size =
    let copy = copy_of (f a) (count * page_bytes) has in
    subst (λ o. IfSome o (λ disk. length disk ≡ length blocks * page_bytes)) (sym (live f g a b copy.0 stays copy.1))
    (copy.2 ∙ ap (λ n. n * page_bytes) (sym size))

covered : (new : Copies) (name : Option (List ℕ)) (disk : List ℕ) (pages : Pages) (count : ℕ) → CoversDisk new name disk pages
    → length disk ≡ count * page_bytes → (i : ℕ) → i < length (listed_in pages) → get_or (listed_in pages) i 0 < count
covered new name disk (All pages) count covers size i low = omega (arith, covers.0 i low, size)
covered new None disk (Above pages) count covers size i low = absurd covers
covered new (Some base) disk (Above pages) count covers size i low = omega (arith, covers.0 i low, size)

pub pages_within : (f g : Copies) (a b : List ℕ) (name : Option (List ℕ)) (pages : Pages) (count : ℕ) (wanted : List ℕ)
    (blocks : Listed) → Stays f g a b → HasCopy (f a) (count * page_bytes) → Covers g b name pages
    → wanted ≡ listed_in pages → length blocks ≡ count → (i : ℕ) → i < length wanted → get_or wanted i 0 < length blocks
pages_within f g a b name pages count wanted blocks stays has covers is size =
    let copy = copy_of (f a) (count * page_bytes) has in
    let there = covers copy.0 (live f g a b copy.0 stays copy.1) in
    subst (λ xs. (i : ℕ) → i < length xs → get_or xs i 0 < length blocks) (sym is)
    (λ i low. omega (arith, covered g name copy.0 pages count there copy.2 i low, size))

pub gathered : (tells : Bool) (objects : Objects) (volume disk : List ℕ) (f g : Copies) (a b : List ℕ)
    (name : Option (List ℕ)) (base : Option Listed) (pages : Pages) (count : ℕ) (wanted : List ℕ) (blocks : Listed)
    → Stays f g a b → HasCopy (f a) (count * page_bytes) → Drops name f g → Covers g b name pages
    → IsBaseIf tells objects volume f name base → IsStart pages base count blocks → wanted ≡ listed_in pages
    → f a ≡ Some disk → KeptElse tells objects volume disk blocks 0 wanted
gathered tells objects volume disk f g a b name base pages count wanted blocks stays has drops covers is start same there =
    let size : length disk ≡ count * page_bytes = subst (λ o. HasCopy o (count * page_bytes)) there has in
    let covered_disk = covers disk (live f g a b disk stays there) in
    subst (λ xs. KeptElse tells objects volume disk blocks 0 xs) (sym same)
    (start_kept tells objects volume disk f g name base pages count blocks size start drops is covered_disk)

pub weaker : {T E : Type 0} (P Q : T → Type 0) (r : Result T E) → ((x : T) → P x → Q x) → IfOk r P → IfOk r Q
weaker P Q (Ok x) f h = f x h
weaker P Q (Err e) f h = tt
