-- What is found of a folder, joined.
use Rattle.std.proofs.Common.{◌≡◌, ℕ, ◌/◌, ◌<◌, List, length, map, All, Option, Some, None, string_bytes, Contains}
use Rattle.std.proofs.Common.{sym, subst, ◌∙◌}
use Rattle.std.proofs.lemmas.List.{length-map}
use Rattle.shelf_traits.specs.Files.{Files}
use Rattle.vol_units.specs.Name.{IsName}
use Rattle.vol_units.specs.declared.size.TheConstants.{BLOCK_BYTES}
use Rattle.chain_meta.specs.ImageNames.{head_file}
use Rattle.chain_meta.specs.VolumeMetas.{SaysVolume}
use Rattle.chain_meta.specs.declared.volume_meta.VolumeMeta.{VolumeMeta}
use Rattle.folder_names.specs.Files.{volume_file}
use Rattle.folder_checks.specs.Told.{Told, IsToldAlone, FileTells}
use Rattle.folder_checks.specs.Images.{IsRight, ImageFault, IsGoodImage}
use Rattle.folder_checks.specs.Snapshots.{AreRising, AreSnapshots}
use Rattle.folder_checks.specs.Checks.{IsUnflagged, IsCleanVolume, IsMapped, AreKnown}
use Rattle.folder_checks.specs.Checks.{AreGood, HasBadSnapshot, FolderFault, BadVolume, BadHead, BadSnapshot, AreAllGood}
use Rattle.folder_checks.specs.Finding.{IsGiven, IsKnownImage, AreKnownImages}
use Rattle.folder_checks.specs.declared.parts.ImageParts.{ImageParts}
use Rattle.folder_checks.specs.declared.parts.FolderParts.{FolderParts}
use Rattle.folder_checks.specs.declared.parts.ImageCheck.{ImageCheck}
use Rattle.folder_checks.specs.declared.parts.ImageCheck.TheVariants as check
use Rattle.folder_checks.proofs.ToldLemmas.{told_map, told_two, told_back}

-- ---- what is told

pub volume_fault : (a : Option Files) (shelf size blocks : ℕ) (file : List ℕ) (found : Option VolumeMeta)
    → found ≡ None → file ≡ volume_file
    → Told a (λ files. IsToldAlone (files shelf) volume_file SaysVolume found)
    → Told a (λ files. FolderFault (files shelf) size blocks file 0)
volume_fault a shelf size blocks file found none is told =
    told_map a (λ files. IsToldAlone {T = VolumeMeta} (files shelf) volume_file SaysVolume None) _
    (subst (λ x. Told a (λ files. IsToldAlone (files shelf) volume_file SaysVolume x)) none told)
    (λ files no. subst (λ f. FolderFault (files shelf) size blocks f 0) (sym is) (BadVolume no))

clean_volume : (a : Option Files) (shelf size : ℕ) (v : VolumeMeta) → IsUnflagged size v
    → Told a (λ files. FileTells (files shelf) volume_file SaysVolume v) → Told a (λ files. IsCleanVolume (files shelf) size v)
clean_volume a shelf size v unflagged told = told_map a _ _ told (λ files t. record { told = t; clean = unflagged })

pub head_fault : (a : Option Files) (shelf size blocks : ℕ) (image : List ℕ) (v : VolumeMeta) (file : List ℕ) (place : ℕ)
    → image ≡ head_file v.head → IsGiven size blocks v → Told a (λ files. FileTells (files shelf) volume_file SaysVolume v)
    → Told a (λ files. ImageFault (files shelf) size blocks image (Some v) file place)
    → Told a (λ files. FolderFault (files shelf) size (size / BLOCK_BYTES) file place)
head_fault a shelf size blocks image v file place is given told bad =
    told_two a (λ files. IsCleanVolume (files shelf) size v) (λ files. ImageFault (files shelf) size blocks image (Some v) file place) _
    (clean_volume a shelf size v given.unflagged told) bad
    (λ files p q. subst (λ n. FolderFault (files shelf) size n file place) given.count
    (BadHead file place v p (subst (λ i. ImageFault (files shelf) size blocks i (Some v) file place) is q)))

pub head_good : (a : Option Files) (shelf size blocks : ℕ) (image : List ℕ) (v : VolumeMeta) (head : ImageParts)
    → image ≡ head_file v.head → IsGiven size blocks v → Told a (λ files. FileTells (files shelf) volume_file SaysVolume v)
    → Told a (λ files. IsGoodImage (files shelf) size blocks image (Some v) head)
    → Told a (λ files. IsCleanVolume (files shelf) size v × IsGoodImage (files shelf) size blocks (head_file v.head) (Some v) head)
head_good a shelf size blocks image v head is given told good =
    told_two a (λ files. IsCleanVolume (files shelf) size v) (λ files. IsGoodImage (files shelf) size blocks image (Some v) head) _
    (clean_volume a shelf size v given.unflagged told) good
    (λ files p q. (p, subst (λ i. IsGoodImage (files shelf) size blocks i (Some v) head) is q))

pub snapshot_fault : (a b c : Option Files) (shelf size blocks : ℕ) (v : VolumeMeta) (head : ImageParts) (names : List (List ℕ))
    (file : List ℕ) (place : ℕ) → b ≡ a → c ≡ b → blocks ≡ size / BLOCK_BYTES
    → Told a (λ files. IsCleanVolume (files shelf) size v × IsGoodImage (files shelf) size blocks (head_file v.head) (Some v) head)
    → Told b (λ files. AreSnapshots (files shelf) names) → Told c (λ files. HasBadSnapshot (files shelf) size blocks names file place)
    → Told a (λ files. FolderFault (files shelf) size (size / BLOCK_BYTES) file place)
snapshot_fault a b c shelf size blocks v head names file place same next count good listed bad =
    told_two a (λ files. IsCleanVolume (files shelf) size v × IsGoodImage (files shelf) size blocks (head_file v.head) (Some v) head)
    (λ files. AreSnapshots (files shelf) names × HasBadSnapshot (files shelf) size blocks names file place) _ good
    (told_two a (λ files. AreSnapshots (files shelf) names) (λ files. HasBadSnapshot (files shelf) size blocks names file place) _
    (told_back a b _ same listed) (told_back a c _ (next ∙ same) bad) (λ files p q. (p, q)))
    (λ files p q. subst (λ n. FolderFault (files shelf) size n file place) count (BadSnapshot file place v head names p.0 p.1 q.0 q.1))

pub all_good : (a b c : Option Files) (shelf size blocks count : ℕ) (v : VolumeMeta) (head : ImageParts) (names : List (List ℕ))
    (parts : List ImageParts) → b ≡ a → c ≡ b → count ≡ length names → blocks ≡ size / BLOCK_BYTES
    → Told a (λ files. IsCleanVolume (files shelf) size v × IsGoodImage (files shelf) size blocks (head_file v.head) (Some v) head)
    → Told b (λ files. AreSnapshots (files shelf) names) → Told c (λ files. AreGood (files shelf) size blocks names count parts)
    → Told a (λ files. AreAllGood (files shelf) size (size / BLOCK_BYTES) v head names parts)
all_good a b c shelf size blocks count v head names parts same next all count_is good listed fine =
    told_two a (λ files. IsCleanVolume (files shelf) size v × IsGoodImage (files shelf) size blocks (head_file v.head) (Some v) head)
    (λ files. AreSnapshots (files shelf) names × AreGood (files shelf) size blocks names count parts) _ good
    (told_two a (λ files. AreSnapshots (files shelf) names) (λ files. AreGood (files shelf) size blocks names count parts) _
    (told_back a b _ same listed) (told_back a c _ (next ∙ same) fine) (λ files p q. (p, q)))
    (λ files p q. subst (λ n. AreAllGood (files shelf) size n v head names parts) count_is (record {
      volume = p.0;
      head_good = p.1;
      listed = q.0;
      good = subst (λ n. AreGood (files shelf) size blocks names n parts) all q.1;
    }))

-- ---- what is known

pub all_known : (size blocks : ℕ) (image : List ℕ) (found : ImageCheck) (parts : FolderParts) → IsGiven size blocks parts.volume
    → image ≡ head_file parts.volume.head → found ≡ check.Good parts.head → IsKnownImage blocks image (Some parts.volume) found
    → ((name : List ℕ) → Contains (map string_bytes parts.names.items) name → IsName name)
    → AreRising (map string_bytes parts.names.items)
    → AreKnownImages blocks (map string_bytes parts.names.items) (length parts.names.items) parts.snapshots.items → AreKnown size parts
all_known size blocks image found parts given is good known spelled rising snapshots =
    let here = subst (IsKnownImage blocks image (Some parts.volume)) good known in
    let count = length-map parts.names.items string_bytes in
    record {
      volume = given.unflagged;
      low = given.low;
      head = subst (λ i. IsRight i (Some parts.volume) parts.head.meta) is here.0;
      listed = record {
        count = length-map parts.snapshots.items (λ (p : ImageParts). p.meta) ∙ snapshots.count_is ∙ sym count;
        spelled = spelled;
        rising = rising;
        named = λ place less. snapshots.named place (subst (λ n. place < n) count less);
      };
      mapped = subst (λ n. IsMapped n parts.head × All (IsMapped n) parts.snapshots.items) given.count (here.1, snapshots.mapped);
    }
