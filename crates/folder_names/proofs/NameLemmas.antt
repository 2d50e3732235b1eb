-- The files of two images differ.
use Rattle.std.proofs.Common.{◌≡◌, ◌≢◌, ℕ, List, ◌∷◌, ◌++◌, inl, inr, codes}
use Rattle.std.proofs.Common.{refl, sym, ap, subst, ◌∙◌, arith, lit<, ◌<◌}
use Rattle.std.proofs.lemmas.List.{append_cancel_left, append_cancel_right, reverse-append}
use Rattle.std.specs.Prelude.{reverse}
use Rattle.chain_meta.specs.ImageNames.{head_file, snapshot_file, head_digits, IsImageName}
use Rattle.folder_names.specs.Files.{IsFileOf, IsImage, IsMap, IsMeta, IsOfAnImage, meta_of, map_of, volume_file}

-- what an image's name ends with
pub data Ends (file : List ℕ) : Type 0 where
  IsEnd : (front : List ℕ) → file ≡ front ++ codes ".img" → Ends file

same_end : (a b x y : List ℕ) → a ++ x ≡ b ++ y → reverse x ++ reverse a ≡ reverse y ++ reverse b
same_end a b x y e = sym (reverse-append a x) ∙ ap reverse e ∙ reverse-append b y

first_differ : (a b : ℕ) (xs ys : List ℕ) → a < b → a ∷ xs ≡ b ∷ ys → ⊥
first_differ a b xs ys less e = let same : a ≡ b = cc in omega arith

img_map : (a b : List ℕ) → a ++ codes ".img" ≡ b ++ codes ".map" → ⊥
img_map a b e = first_differ 103 112 _ _ (lit< tt) (same_end a b (codes ".img") (codes ".map") e)

img_meta : (a b : List ℕ) → a ++ codes ".img" ≡ b ++ codes ".meta" → ⊥
img_meta a b e = first_differ 97 103 _ _ (lit< tt) (sym (same_end a b (codes ".img") (codes ".meta") e))

map_meta : (a b : List ℕ) → a ++ codes ".map" ≡ b ++ codes ".meta" → ⊥
map_meta a b e = first_differ 97 112 _ _ (lit< tt) (sym (same_end a b (codes ".map") (codes ".meta") e))

no_map : (a b : List ℕ) → Ends a → a ≡ map_of b → ⊥
no_map a b (IsEnd front is) e = img_map front b (sym is ∙ e)

no_meta : (a b : List ℕ) → Ends a → a ≡ meta_of b → ⊥
no_meta a b (IsEnd front is) e = img_meta front b (sym is ∙ e)

-- a file is one of one image
pub one_image : (a b f : List ℕ) → Ends a → Ends b → IsFileOf a f → IsFileOf b f → a ≡ b
one_image a b f p q (IsImage x) (IsImage y) = sym x ∙ y
one_image a b f p q (IsImage x) (IsMap y) = absurd (no_map a b p (sym x ∙ y))
one_image a b f p q (IsImage x) (IsMeta y) = absurd (no_meta a b p (sym x ∙ y))
one_image a b f p q (IsMap x) (IsImage y) = absurd (no_map b a q (sym y ∙ x))
one_image a b f p q (IsMap x) (IsMap y) = append_cancel_right a b (codes ".map") (sym x ∙ y)
one_image a b f p q (IsMap x) (IsMeta y) = absurd (map_meta a b (sym x ∙ y))
one_image a b f p q (IsMeta x) (IsImage y) = absurd (no_meta b a q (sym y ∙ x))
one_image a b f p q (IsMeta x) (IsMap y) = absurd (map_meta b a (sym y ∙ x))
one_image a b f p q (IsMeta x) (IsMeta y) = append_cancel_right a b (codes ".meta") (sym x ∙ y)

-- the volume's metadata is no file of an image
pub data Begins (f : List ℕ) : Type 0 where
  IsBegin : (rest : List ℕ) → f ≡ codes "volume-" ++ rest → Begins f

begins : (image : List ℕ) → IsImageName image → Begins image
begins image (inl (n, is)) = IsBegin (codes "head-" ++ (head_digits n ++ codes ".img")) is.1
begins image (inr (name, is)) = IsBegin (codes "snap-" ++ (name ++ codes ".img")) is.1

longer : (image more f : List ℕ) → Begins image → f ≡ image ++ more → Begins f
longer image more f (IsBegin rest is) e = IsBegin (rest ++ more) (e ∙ ap (λ l. l ++ more) is)

pub begins_file : (image f : List ℕ) → Begins image → IsFileOf image f → Begins f
begins_file image f b (IsImage e) = subst Begins (sym e) b
begins_file image f b (IsMap e) = longer image (codes ".map") f b e
begins_file image f b (IsMeta e) = longer image (codes ".meta") f b e

pub no_volume : Begins volume_file → ⊥
no_volume (IsBegin rest e) =
    first_differ 45 46 _ _ (lit< tt) (sym (append_cancel_left (codes "volume") (codes ".meta") (codes "-" ++ rest) e))

pub volume_is_not_ours : IsOfAnImage volume_file → ⊥
volume_is_not_ours (image, named, file) = no_volume (begins_file image volume_file (begins image named) file)

pub image_not_volume : (f : List ℕ) → IsOfAnImage f → f ≢ volume_file
image_not_volume f of e = volume_is_not_ours (subst IsOfAnImage e of)

pub snapshots_differ : (a b : List ℕ) → snapshot_file a ≡ snapshot_file b → a ≡ b
snapshots_differ a b e = append_cancel_right a b (codes ".img") (append_cancel_left (codes "volume-snap-") _ _ e)

pub head_no_snapshot : (n : ℕ) (name : List ℕ) → head_file n ≡ snapshot_file name → ⊥
head_no_snapshot n name e =
    first_differ 104 115 _ _ (lit< tt)
    (append_cancel_left (codes "volume-") (codes "head-" ++ (head_digits n ++ codes ".img")) (codes "snap-" ++ (name ++ codes ".img")) e)

-- ---- what is told by parts

pub of_image : (f : List ℕ) → IsImageName f → IsOfAnImage f
of_image f named = (f, named, IsImage refl)

pub of_map : (f : List ℕ) → ((image : List ℕ) × IsImageName image × (f ≡ map_of image)) → IsOfAnImage f
of_map f (image, named, e) = (image, named, IsMap e)

pub of_meta : (f : List ℕ) → ((image : List ℕ) × IsImageName image × (f ≡ meta_of image)) → IsOfAnImage f
of_meta f (image, named, e) = (image, named, IsMeta e)

pub only_meta : (f : List ℕ) → (IsImageName f → ⊥) → (((image : List ℕ) × IsImageName image × (f ≡ map_of image)) → ⊥)
    → IsOfAnImage f → (image : List ℕ) × IsImageName image × (f ≡ meta_of image)
only_meta f no_image no_map (image, named, IsImage e) = absurd (no_image (subst IsImageName (sym e) named))
only_meta f no_image no_map (image, named, IsMap e) = absurd (no_map (image, named, e))
only_meta f no_image no_map (image, named, IsMeta e) = (image, named, e)

pub one_front : (f back a b : List ℕ) → f ≡ a ++ back → f ≡ b ++ back → a ≡ b
one_front f back a b p q = append_cancel_right a b back (sym p ∙ q)
