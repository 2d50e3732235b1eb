-- The images of snapshots in turn.
use Rattle.std.proofs.Common.{◌≡◌, ◌⊎◌, ⊎_elim, ℕ, ◌+◌, ◌<◌, List, [], ◌∷◌, ◌++◌, length, get_or, Option, None}
use Rattle.std.proofs.Common.{sym, ap, subst, ◌∙◌, arith, length-append, below_more}
use Rattle.std.proofs.Math.Seq.{get_or-append_seam}
use Rattle.std.proofs.lemmas.List.{get_or_append_left, map-append, length-map}
use Rattle.std.proofs.lemmas.List.Elements.{All-push}
use Rattle.shelf_traits.specs.Files.{Files}
use Rattle.chain_meta.specs.ImageNames.{snapshot_file}
use Rattle.chain_meta.specs.declared.disk_meta.DiskMeta.{DiskMeta}
use Rattle.folder_checks.specs.Told.{Told}
use Rattle.folder_checks.specs.Images.{IsGoodImage, ImageFault}
use Rattle.folder_checks.specs.Snapshots.{name_at, told_at, metas_of}
use Rattle.folder_checks.specs.Checks.{AreGood, HasBadSnapshot, IsMapped}
use Rattle.folder_checks.specs.Finding.{IsKnownImage, AreKnownImages}
use Rattle.folder_checks.specs.declared.parts.ImageParts.{ImageParts}
use Rattle.folder_checks.specs.declared.parts.ImageCheck.{ImageCheck}
use Rattle.folder_checks.specs.declared.parts.ImageCheck.TheVariants as check
use Rattle.folder_checks.proofs.ToldLemmas.{told_two, told_back}

at_push : {X : Type 0} (xs : List X) (x d : X) (k : ℕ) → k ≡ length xs → get_or (xs ++ x ∷ []) k d ≡ x
at_push xs x d k is = ap (λ n. get_or (xs ++ x ∷ []) n d) is ∙ get_or-append_seam xs x [] d

by_order : (k place : ℕ) → k < place + 1 → (k ≡ place) ⊎ (k < place)
by_order k place less = grind arith

-- ---- what is told

good_pushed : (files : Files) (shelf size blocks : ℕ) (names : List (List ℕ)) (place : ℕ) (all : List ImageParts) (parts : ImageParts)
    → AreGood (files shelf) size blocks names place all
    → IsGoodImage (files shelf) size blocks (snapshot_file (name_at names place)) None parts
    → AreGood (files shelf) size blocks names (place + 1) (all ++ parts ∷ [])
good_pushed files shelf size blocks names place all parts was one = record {
  count_is = omega (arith, was.count_is, length-append all (parts ∷ []));
  good = λ k d less. ⊎_elim
      (λ (now : k ≡ place). subst (IsGood k) (sym (at_push all parts d k (now ∙ sym was.count_is)))
      (subst (λ n. IsGood n parts) (sym now) one))
      (λ (older : k < place). subst (IsGood k) (sym (get_or_append_left all (parts ∷ []) d k (omega (arith, was.count_is, older))))
      (was.good k d older))
      (by_order k place less);
}
  where
    IsGood : ℕ → ImageParts → Type 0
    IsGood k = IsGoodImage (files shelf) size blocks (snapshot_file (name_at names k)) None

pub good_more : (a b : Option Files) (shelf size blocks : ℕ) (names : List (List ℕ)) (place : ℕ) (name : List ℕ)
    (all new : List ImageParts) (parts : ImageParts) → b ≡ a → name_at names place ≡ name → new ≡ all ++ parts ∷ []
    → Told a (λ files. AreGood (files shelf) size blocks names place all)
    → Told b (λ files. IsGoodImage (files shelf) size blocks (snapshot_file name) None parts)
    → Told a (λ files. AreGood (files shelf) size blocks names (place + 1) new)
good_more a b shelf size blocks names place name all new parts same is pushed had here =
    told_two a (λ files. AreGood (files shelf) size blocks names place all)
    (λ files. IsGoodImage (files shelf) size blocks (snapshot_file name) None parts) _ had (told_back a b _ same here)
    (λ files was one. subst (AreGood (files shelf) size blocks names (place + 1)) (sym pushed)
    (good_pushed files shelf size blocks names place all parts was
    (subst (λ n. IsGoodImage (files shelf) size blocks (snapshot_file n) None parts) (sym is) one)))

pub fault_at : (a b : Option Files) (shelf size blocks : ℕ) (names : List (List ℕ)) (place : ℕ) (name file : List ℕ) (bad_at : ℕ)
    (all : List ImageParts) → b ≡ a → place < length names → name_at names place ≡ name
    → Told a (λ files. AreGood (files shelf) size blocks names place all)
    → Told b (λ files. ImageFault (files shelf) size blocks (snapshot_file name) None file bad_at)
    → Told a (λ files. HasBadSnapshot (files shelf) size blocks names file bad_at)
fault_at a b shelf size blocks names place name file bad_at all same within is had here =
    told_two a (λ files. AreGood (files shelf) size blocks names place all)
    (λ files. ImageFault (files shelf) size blocks (snapshot_file name) None file bad_at) _ had (told_back a b _ same here)
    (λ files was bad. record {
      at = place;
      within = within;
      parts = all;
      before = was;
      fault = subst (λ n. ImageFault (files shelf) size blocks (snapshot_file n) None file bad_at) (sym is) bad;
    })

-- ---- what is known

known_pushed : (blocks : ℕ) (names : List (List ℕ)) (place : ℕ) (all : List ImageParts) (parts : ImageParts)
    → parts.meta.name ≡ snapshot_file (name_at names place) → IsMapped blocks parts
    → AreKnownImages blocks names place all → AreKnownImages blocks names (place + 1) (all ++ parts ∷ [])
known_pushed blocks names place all parts named mapped was = record {
  count_is = omega (arith, was.count_is, length-append all (parts ∷ []));
  named = below_more _ _
      (λ k less. ap (λ m. m.name) (told_left k (omega (arith, size, less))) ∙ was.named k less)
      (ap (λ m. m.name) (told_last place (sym size)) ∙ named);
  mapped = All-push (IsMapped blocks) all parts was.mapped mapped;
}
  where
    metas : List DiskMeta
    metas = metas_of all

    size : length metas ≡ place
    size = length-map all (λ (p : ImageParts). p.meta) ∙ was.count_is

    pushed : metas_of (all ++ parts ∷ []) ≡ metas ++ parts.meta ∷ []
    pushed = map-append (λ (p : ImageParts). p.meta) all (parts ∷ [])

    told_left : (k : ℕ) → k < length metas → told_at (metas_of (all ++ parts ∷ [])) k ≡ told_at metas k
    told_left k less = ap (λ l. told_at l k) pushed ∙ get_or_append_left metas (parts.meta ∷ []) _ k less

    told_last : (k : ℕ) → k ≡ length metas → told_at (metas_of (all ++ parts ∷ [])) k ≡ parts.meta
    told_last k is = ap (λ l. told_at l k) pushed ∙ at_push metas parts.meta _ k is

pub known_more : (blocks : ℕ) (names : List (List ℕ)) (place : ℕ) (name : List ℕ) (all new : List ImageParts) (parts : ImageParts)
    (found : ImageCheck) → name_at names place ≡ name → new ≡ all ++ parts ∷ [] → found ≡ check.Good parts
    → IsKnownImage blocks (snapshot_file name) None found → AreKnownImages blocks names place all
    → AreKnownImages blocks names (place + 1) new
known_more blocks names place name all new parts found is pushed good known was =
    let here = subst (IsKnownImage blocks (snapshot_file name) None) good known in
    subst (AreKnownImages blocks names (place + 1)) (sym pushed)
    (known_pushed blocks names place all parts (here.0.named ∙ ap snapshot_file (sym is)) here.1 was)
