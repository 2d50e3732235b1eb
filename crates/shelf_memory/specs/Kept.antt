-- The files that shelves in memory keep.
use Rattle.std.specs.Prelude.{◌≡◌, ℕ, ◌<◌, Bool, true, false, ◌&&◌, ◌==◌, if◌then◌else◌, IsTrue}
use Rattle.std.specs.Prelude.{List, [], ◌∷◌, ◌++◌, length, slice_index_or, Contains, Some, None, is_some, unwrap_or}
use Rattle.std.specs.Str.{bytes_eq}
use Rattle.shelf_traits.specs.Files.{Files, AreDistinct}

-- a file: the number of its shelf, its name, and what it holds
pub record Kept : Type 0 where
  pub shelf : ℕ
  pub name : List ℕ
  pub held : List ℕ

-- it has the name that it had, on the same shelf
abbrev pub SameName : Kept → Kept → Type 0
SameName old new = (new.shelf ≡ old.shelf) × (new.name ≡ old.name)

-- it is the file of that name on that shelf
abbrev pub is_file : ℕ → List ℕ → Kept → Bool
is_file shelf name k = (k.shelf == shelf) && bytes_eq k.name name

-- what they hold: of two files of one name the first counts
unfoldable pub files_of : List Kept → Files
files_of [] shelf name = None
files_of (k ∷ ks) shelf name = if is_file shelf name k then Some k.held else files_of ks shelf name

-- the file at a place
abbrev pub kept_at : List Kept → ℕ → Kept
kept_at files place = slice_index_or files place (record { shelf = 0; name = []; held = [] })

-- the first file of that name on that shelf stands at that place
pub record IsAt (files : List Kept) (shelf : ℕ) (name : List ℕ) (place : ℕ) : Type 0 where
  pub within : place < length files
  pub named : is_file shelf name (kept_at files place) ≡ true
  pub first : (k : ℕ) → k < place → is_file shelf name (kept_at files k) ≡ false

-- the file is there, with what it held, or empty where it was not there
abbrev pub Makes : ℕ → List ℕ → Files → Files → Type 0
Makes shelf name old new = new shelf name ≡ Some (unwrap_or (old shelf name) [])

-- the name of the file is among these, where it stands on that shelf: it was there, or comes last
pub data AddsName (shelf : ℕ) (k : Kept) (old : List (List ℕ)) : List (List ℕ) → Type 0 where
  Stays : (k.shelf ≡ shelf → Contains old k.name) → AddsName shelf k old old
  Grows : k.shelf ≡ shelf → (Contains old k.name → ⊥) → AddsName shelf k old (old ++ k.name ∷ [])

-- the names are those of files of the shelf, each once, and those of the first files are among them
pub record ListsFirst (shelf : ℕ) (names : List (List ℕ)) (files : List Kept) (count : ℕ) : Type 0 where
  pub there : (file : List ℕ) → Contains names file → IsTrue (is_some (files_of files shelf file))
  pub all : (k : ℕ) → k < count → (kept_at files k).shelf ≡ shelf → Contains names (kept_at files k).name
  pub once : AreDistinct names
