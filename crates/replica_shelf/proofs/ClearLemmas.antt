-- Which files change, and how those of images go.
use Rattle.std.proofs.Common.{◌≡◌, ◌≢◌, inl, inr, ℕ, ◌+◌, ◌≤◌, List, [], length, get_or, Bool, true, false}
use Rattle.std.proofs.Common.{Option, Some, None, refl, sym, ap, subst, ◌∙◌, arith, below_more}
use Rattle.std.specs.Prelude.{is_some, Contains}
use Rattle.std.specs.Str.{bytes_eq}
use Rattle.std.proofs.lemmas.List.{get_or_default}
use Rattle.std.proofs.lemmas.Slice.Eq.{bytes_eq-Decides}
use Rattle.shelf_traits.specs.Files.{Files, Both, OthersStay, Lists}
use Rattle.chain_meta.specs.ImageNames.{IsImageName}
use Rattle.folder_names.specs.Files.{IsOfAnImage, IsFileOf}
use Rattle.replica_shelf.specs.Saving.{OnlyImages, OtherImagesStay, PartChanges, ClearsFirst, IsClear}
use Rattle.replica_shelf.proofs.CallLemmas.{both_then, both_map}

-- a file of an image alone changes
only_at : (shelf : ℕ) (file : List ℕ) (x y : Files) → IsOfAnImage file → OthersStay shelf file x y → OnlyImages shelf x y
only_at shelf file x y of others s f (inl other) = others s f (inl other)
only_at shelf file x y of others s f (inr not) = others s f (inr (λ e. not (subst IsOfAnImage (sym e) of)))

part_at : (shelf : ℕ) (image file : List ℕ) (x y : Files) → IsFileOf image file → OthersStay shelf file x y
    → OtherImagesStay shelf image x y
part_at shelf image file x y is others s f (inl other) = others s f (inl other)
part_at shelf image file x y is others s f (inr not) = others s f (inr (λ e. not (subst (IsFileOf image) (sym e) is)))

pub only_of : (shelf : ℕ) (file : List ℕ) (a b : Option Files) → IsOfAnImage file → Both a b (OthersStay shelf file)
    → Both a b (OnlyImages shelf)
only_of shelf file a b of p = both_map a b _ _ p (λ x y others. only_at shelf file x y of others)

pub part_of : (shelf : ℕ) (image file : List ℕ) (a b : Option Files) → IsImageName image → IsFileOf image file
    → Both a b (OthersStay shelf file) → Both a b (PartChanges shelf image)
part_of shelf image file a b named is p =
    both_map a b _ _ p
    (λ x y others. record {
      others = part_at shelf image file x y is others;
      only = only_at shelf file x y (image, named, is) others;
    })

pub only_then : (shelf : ℕ) (x y z : Files) → OnlyImages shelf x y → OnlyImages shelf y z → OnlyImages shelf x z
only_then shelf x y z p q = λ s f other. q s f other ∙ p s f other

pub part_then : (shelf : ℕ) (image : List ℕ) (a b c : Option Files) → Both a b (PartChanges shelf image)
    → Both b c (PartChanges shelf image) → Both a c (PartChanges shelf image)
part_then shelf image a b c p q =
    both_then a b c _ _ _ p q
    (λ x y z p q. record {
      others = λ s f other. q.others s f other ∙ p.others s f other;
      only = only_then shelf x y z p.only q.only;
    })

-- the files of all images are gone, layers are written, and then a part more
pub only_images : (shelf : ℕ) (image : List ℕ) (a b c d : Option Files) → Both a b (OnlyImages shelf) → Both b c (OnlyImages shelf)
    → Both c d (PartChanges shelf image) → Both a d (OnlyImages shelf)
only_images shelf image a b c d p q r =
    let Only = OnlyImages shelf in
    both_then a c d Only _ Only (both_then a b c Only Only Only p q (only_then shelf)) r
    (λ x y z before changes. only_then shelf x y z before changes.only)

-- ---- the files of images go

-- one name more
pub clears_more : (shelf : ℕ) (names : List (List ℕ)) (place : ℕ) (file : List ℕ) (x y z : Files) → file ≡ get_or names place []
    → ClearsFirst shelf names place x y → (IsOfAnImage file → z shelf file ≡ None) → (y shelf file ≡ None → z shelf file ≡ None)
    → OthersStay shelf file y z → OnlyImages shelf y z → ClearsFirst shelf names (place + 1) x z
clears_more shelf names place file x y z is before gone kept others only = record {
  gone = below_more _ _ (λ k less of. stays (get_or names k []) (before.gone k less of))
      (λ of. ap (λ f. z shelf f) (sym is) ∙ gone (subst IsOfAnImage (sym is) of));
  kept = λ f none. stays f (before.kept f none);
  others = only_then shelf x y z before.others only;
}
  where
    stays : (f : List ℕ) → y shelf f ≡ None → z shelf f ≡ None
    stays f none = by_test (bytes_eq f file) refl
      where
        by_test : (t : Bool) → bytes_eq f file ≡ t → z shelf f ≡ None
        by_test true e =
            let same : f ≡ file = grind (arith, bytes_eq-Decides, e) in
            ap (λ f. z shelf f) same ∙ kept (ap (λ f. y shelf f) (sym same) ∙ none)
        by_test false e =
            let other : f ≢ file = grind (arith, bytes_eq-Decides, e) in
            others shelf f (inr other) ∙ none

-- all names
pub clear_is : (shelf : ℕ) (names : List (List ℕ)) (count : ℕ) (x y : Files) → length names ≤ count → Lists shelf names x
    → ClearsFirst shelf names count x y → IsClear (y shelf)
clear_is shelf names count x y all lists before f of = by_file (x shelf f) refl
  where
    by_file : (o : Option (List ℕ)) → x shelf f ≡ o → y shelf f ≡ None
    by_file None e = before.kept f e
    by_file (Some held) e =
        let c : Contains names f = lists.all f (ap is_some e) in
        let same : get_or names c.0 [] ≡ f = get_or_default names c.0 [] f c.1 ∙ c.2 in
        ap (λ f. y shelf f) (sym same) ∙ before.gone c.0 (omega (arith, c.1)) (subst IsOfAnImage (sym same) of)
