-- The first thing of an image that is not good.
use Rattle.std.proofs.Common.{◌≡◌, ℕ, List, Option, Some, None, sym, subst, ◌∙◌}
use Rattle.shelf_traits.specs.Files.{Files}
use Rattle.image_maps.specs.declared.span.BlockSpan.{BlockSpan}
use Rattle.chain_meta.specs.declared.disk_meta.DiskMeta.{DiskMeta}
use Rattle.chain_meta.specs.declared.volume_meta.VolumeMeta.{VolumeMeta}
use Rattle.folder_names.specs.Files.{meta_of, map_of}
use Rattle.folder_checks.specs.Told.{Told}
use Rattle.folder_checks.specs.Images.{IsBadMap, IsMapThere, HasOtherLength, ImageFault, BadMeta, BadMap, BadLength}
use Rattle.folder_checks.specs.Finding.{IsGoodFound}
use Rattle.folder_checks.proofs.ToldLemmas.{told_map, told_two, told_back}

pub meta_fault : (a : Option Files) (shelf size blocks : ℕ) (image file : List ℕ) (head : Option VolumeMeta) (found : Option DiskMeta)
    → found ≡ None → Told a (λ files. IsGoodFound (files shelf) image head found) → file ≡ meta_of image
    → Told a (λ files. ImageFault (files shelf) size blocks image head file 0)
meta_fault a shelf size blocks image file head found none told is =
    told_map a (λ files. IsGoodFound (files shelf) image head None) _
    (subst (λ x. Told a (λ files. IsGoodFound (files shelf) image head x)) none told)
    (λ files no. subst (λ f. ImageFault (files shelf) size blocks image head f 0) (sym is) (BadMeta no))

pub map_fault : (a b : Option Files) (shelf size blocks place : ℕ) (image file : List ℕ) (head : Option VolumeMeta)
    (found : Option DiskMeta) (meta : DiskMeta) → b ≡ a → found ≡ Some meta → Told a (λ files. IsGoodFound (files shelf) image head found)
    → Told b (λ files. IsBadMap (files shelf) image blocks place) → file ≡ map_of image
    → Told a (λ files. ImageFault (files shelf) size blocks image head file place)
map_fault a b shelf size blocks place image file head found meta same some told bad is =
    told_two a (λ files. IsGoodFound (files shelf) image head (Some meta)) (λ files. IsBadMap (files shelf) image blocks place) _
    (subst (λ x. Told a (λ files. IsGoodFound (files shelf) image head x)) some told) (told_back a b _ same bad)
    (λ files good no. subst (λ f. ImageFault (files shelf) size blocks image head f place) (sym is) (BadMap place (meta, good) no))

pub length_fault : (a b c : Option Files) (shelf size blocks place : ℕ) (image file : List ℕ) (head : Option VolumeMeta)
    (found : Option DiskMeta) (meta : DiskMeta) (spans : List BlockSpan) → b ≡ a → c ≡ b → found ≡ Some meta
    → Told a (λ files. IsGoodFound (files shelf) image head found) → Told b (λ files. IsMapThere (files shelf) image blocks spans)
    → Told c (λ files. HasOtherLength (files shelf) image size place) → file ≡ image
    → Told a (λ files. ImageFault (files shelf) size blocks image head file place)
length_fault a b c shelf size blocks place image file head found meta spans same next some told map_told other is =
    told_two a (λ files. IsGoodFound (files shelf) image head (Some meta))
    (λ files. IsMapThere (files shelf) image blocks spans × HasOtherLength (files shelf) image size place) _
    (subst (λ x. Told a (λ files. IsGoodFound (files shelf) image head x)) some told)
    (told_two a (λ files. IsMapThere (files shelf) image blocks spans) (λ files. HasOtherLength (files shelf) image size place) _
    (told_back a b _ same map_told) (told_back a c _ (next ∙ same) other) (λ files p q. (p, q)))
    (λ files good rest. subst (λ f. ImageFault (files shelf) size blocks image head f place) (sym is)
    (BadLength place (meta, good) (spans, rest.0) rest.1))
