-- What metadata says.
use Rattle.std.proofs.Common.{◌≡◌, ◌≢◌, ◌⊎◌, ⊎_elim, ℕ, ◌≤◌, List, Option, Some, None, Result, Ok, Err, sym, ap, subst, ◌∙◌}
use Rattle.std.specs.Prelude.{MatchResult, MatchOption, codes, Vec}
use Rattle.std.specs.Global.{Global}
use Rattle.shelf_traits.specs.Files.{Files}
use Rattle.serde_json.specs.Data.{Data}
use Rattle.serde_json.specs.Find.{get}
use Rattle.chain_meta.specs.declared.error.MetaError.{MetaError}
use Rattle.chain_meta.specs.declared.error.MetaError.TheVariants.{NoMemory, Syntax, Missing, Backing}
use Rattle.chain_meta.specs.declared.error.MetaMember.{MetaMember}
use Rattle.chain_meta.specs.Kinds.{HasKind, IsHead, largest_head, largest_meta}
use Rattle.chain_meta.specs.DiskMetas.{SaysDisk}
use Rattle.chain_meta.specs.VolumeMetas.{SaysVolume}
use Rattle.chain_meta.specs.declared.disk_meta.DiskMeta.{DiskMeta}
use Rattle.chain_meta.specs.declared.volume_meta.VolumeMeta.{VolumeMeta}
use Rattle.folder_names.specs.Files.{Folder, meta_of}
use Rattle.folder_checks.specs.Told.{Told, IsShortFile, IsSaid, IsToldAlone, FileTells}
use Rattle.folder_checks.specs.Finding.{IsGoodFound, KeepsRight}
use Rattle.folder_checks.proofs.ToldLemmas.{told_map, found_is}

-- ---- what bytes say

pub refused : {T : Type 0} (Says : T → Type 0) (Refuses : MetaError → Type 0) (e : MetaError) → e ≢ NoMemory
    → ((other : Result T MetaError) → other ≢ Err NoMemory → MatchResult other Says Refuses
    → (◌≡◌ {A = Result T MetaError} (Err e) other) ⊎ (◌≡◌ {A = Result T MetaError} (Err e) (Err NoMemory)))
    → (m : T) → Says m → ⊥
refused {T} Says Refuses e not only m says =
    ⊎_elim (λ (p : ◌≡◌ {A = Result T MetaError} (Err e) (Ok m)). absurd (cc))
    (λ (p : ◌≡◌ {A = Result T MetaError} (Err e) (Err NoMemory)). not (cc))
    (only (Ok m) (λ (p : ◌≡◌ {A = Result T MetaError} (Ok m) (Err NoMemory)). absurd (cc)) says)

pub only_one : {T : Type 0} (Says : T → Type 0) (Refuses : MetaError → Type 0) (a : T)
    → ((other : Result T MetaError) → other ≢ Err NoMemory → MatchResult other Says Refuses
    → (◌≡◌ {A = Result T MetaError} (Ok a) other) ⊎ (◌≡◌ {A = Result T MetaError} (Ok a) (Err NoMemory)))
    → (m : T) → Says m → m ≡ a
only_one {T} Says Refuses a only m says =
    ⊎_elim (λ (p : ◌≡◌ {A = Result T MetaError} (Ok a) (Ok m)). cc)
    (λ (p : ◌≡◌ {A = Result T MetaError} (Ok a) (Err NoMemory)). absurd (cc))
    (only (Ok m) (λ (p : ◌≡◌ {A = Result T MetaError} (Ok m) (Err NoMemory)). absurd (cc)) says)

pub not_syntax : (e : MetaError) → e ≡ Syntax → e ≢ NoMemory
not_syntax e p q = cc

pub not_missing : (e : MetaError) (m : MetaMember) → e ≡ Missing m → e ≢ NoMemory
not_missing e m p q = cc

pub not_backing : (e : MetaError) → e ≡ Backing → e ≢ NoMemory
not_backing e p q = cc

-- ---- the number of the head

low_kind : (d : Option Data) (n : ℕ) → HasKind IsHead d (Some n) → n ≤ largest_head
low_kind None n kind = absurd kind
low_kind (Some d) n kind = kind.3

-- the head of a volume's metadata has a number that is opened
pub low_head : (text : List ℕ) (v : VolumeMeta) → SaysVolume text v → v.head ≤ largest_head
low_head text v (m, (d, object, members), tells) =
    low_kind (get (codes "Head") d) v.head (subst (HasKind IsHead (get (codes "Head") d)) tells.head members.head)

-- ---- what files say

one_text : (most : ℕ) (file : Option (List ℕ)) (a b : List ℕ) → IsShortFile most file a → IsShortFile most file b → b ≡ a
one_text most file a b p q = some_is (sym q.there ∙ p.there)
  where
    some_is : Some b ≡ Some a → b ≡ a
    some_is e = cc

said_told : {T : Type 0} (Says : List ℕ → T → Type 0) (shelf : ℕ) (file : List ℕ) (a : Option Files) (text : List ℕ)
    (found : Option T) → Told a (λ files. IsShortFile largest_meta (files shelf file) text) → IsSaid Says text found
    → Told a (λ files. IsToldAlone (files shelf) file Says found)
said_told {T} Says shelf file a text found short said = told_map a _ _ short (λ files here. by_found files here found said)
  where
    says_here : (files : Files) → IsShortFile largest_meta (files shelf file) text → (m : T)
        → FileTells (files shelf) file Says m → Says text m
    says_here files here m tells =
        subst (λ t. Says t m) (one_text largest_meta (files shelf file) text tells.text here tells.short) tells.says

    by_found : (files : Files) → IsShortFile largest_meta (files shelf file) text → (found : Option T) → IsSaid Says text found
        → IsToldAlone (files shelf) file Says found
    by_found files here None said = λ m tells. said m (says_here files here m tells)
    by_found files here (Some m) said =
        (record { text = text; short = here; says = said.0 }, (λ other tells. said.1 other (says_here files here other tells)))

-- what is said of a file, where it was read
pub said_of : {T : Type 0} (Says : List ℕ → T → Type 0) (shelf : ℕ) (file : List ℕ) (a : Option Files) (read : Option (Vec ℕ Global))
    (bytes : Vec ℕ Global) (text : List ℕ) (found : Option T) → read ≡ Some bytes → text ≡ bytes.items
    → Told a (λ files. MatchOption read ((b : List ℕ) → IsShortFile largest_meta (files shelf file) b → ⊥)
    (λ b. IsShortFile largest_meta (files shelf file) b.items))
    → IsSaid Says text found → Told a (λ files. IsToldAlone (files shelf) file Says found)
said_of Says shelf file a read bytes text found some is told said =
    said_told Says shelf file a bytes.items found
    (found_is read bytes a (λ files. (b : List ℕ) → IsShortFile largest_meta (files shelf file) b → ⊥)
    (λ files b. IsShortFile largest_meta (files shelf file) b.items) some told)
    (subst (λ t. IsSaid Says t found) is said)

-- ---- the metadata of one image

pub good_found : (folder : Folder) (image : List ℕ) (head : Option VolumeMeta) (found kept : Option DiskMeta)
    → IsToldAlone folder (meta_of image) SaysDisk found → KeepsRight image head found kept → IsGoodFound folder image head kept
good_found folder image head None None told keeps = λ good. told good.0 good.1.told
good_found folder image head (Some m) None told keeps =
    λ good. keeps good.0 (ap Some (sym (told.1 good.0 good.1.told))) good.1.right
good_found folder image head None (Some k) told keeps = absurd (none_some keeps.0)
  where
    none_some : ◌≡◌ {A = Option DiskMeta} None (Some k) → ⊥
    none_some e = cc
good_found folder image head (Some m) (Some k) told keeps =
    let same : m ≡ k = some_is keeps.0 in
    record { told = subst (FileTells folder (meta_of image) SaysDisk) same told.0; right = keeps.1 }
  where
    some_is : ◌≡◌ {A = Option DiskMeta} (Some m) (Some k) → m ≡ k
    some_is e = cc
