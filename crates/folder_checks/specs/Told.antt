-- What reading tells of files, where shelves tell what they hold. Reading changes nothing, so one moment is enough.
use Rattle.std.specs.Prelude.{◌≡◌, ◌≤◌, ⊤, ℕ, List, length, Option, Some, None}
use Rattle.shelf_traits.specs.Files.{Files}
use Rattle.chain_meta.specs.Kinds.{largest_meta}
use Rattle.folder_names.specs.Files.{Folder}

-- that is true of what they hold, where they tell it
abbrev pub Told : Option Files → (Files → Type 0) → Type 0
Told None Says = ⊤
Told (Some files) Says = Says files

-- a file of at most so many bytes is there, with these
pub record IsShortFile (most : ℕ) (file : Option (List ℕ)) (bytes : List ℕ) : Type 0 where
  pub there : file ≡ Some bytes
  pub few : length bytes ≤ most

-- the bytes say this alone, or nothing
abbrev pub IsSaid : {T : Type 0} → (List ℕ → T → Type 0) → List ℕ → Option T → Type 0
IsSaid {T} Says bytes None = (m : T) → Says bytes m → ⊥
IsSaid {T} Says bytes (Some m) = Says bytes m × ((other : T) → Says bytes other → other ≡ m)

-- a file of metadata is there, short enough to be read, and says this
pub record FileTells {T : Type 0} (folder : Folder) (file : List ℕ) (Says : List ℕ → T → Type 0) (meta : T) : Type 0 where
  pub text : List ℕ
  pub short : IsShortFile largest_meta (folder file) text
  pub says : Says text meta

-- it says this alone, or there is none that says anything
abbrev pub IsToldAlone : {T : Type 0} → Folder → List ℕ → (List ℕ → T → Type 0) → Option T → Type 0
IsToldAlone {T} folder file Says None = (m : T) → FileTells folder file Says m → ⊥
IsToldAlone {T} folder file Says (Some m) = FileTells folder file Says m × ((other : T) → FileTells folder file Says other → other ≡ m)
