-- Which names the objects of a folder have, and where they lie in it.
use Rattle.std.specs.Prelude.{◌≡◌, ◌≢◌, ◌==◌, ℕ, Bool, true, false, nat_eq, List, [], ◌++◌, All, codes, String, string_bytes}
use Rattle.std.specs.List.{slice_split, starts_with, ends_with}
use Rattle.std.specs.declared.alloc.Global.{Global}
use Rattle.std.specs.Path.{slash}

-- a part of a path that does not lead out of its folder
pub record IsPart (part : List ℕ) : Type 0 where
  pub named : part ≢ []
  pub not_itself : part ≢ codes "."
  pub not_above : part ≢ codes ".."

-- a path: such parts, with a slash between any two
abbrev pub IsPath : List ℕ → Type 0
IsPath name = All IsPart (slice_split (λ b. b == slash) name)

-- it begins so
abbrev pub Begins : List ℕ → List ℕ → Type 0
Begins prefix name = starts_with nat_eq name prefix ≡ true

-- the name of the file beside an object, to which its next bytes are written
abbrev pub beside_of : List ℕ → List ℕ
beside_of name = name ++ codes ".tmp"

-- it may be the name of a file beside an object: it ends as they do
abbrev pub is_beside : List ℕ → Bool
is_beside name = ends_with nat_eq name (codes ".tmp")

-- the name of an object: a path in the store, and not that of a file beside one
pub record IsObjectName (name : List ℕ) : Type 0 where
  pub stored : Begins (codes "backupstore/") name
  pub path : IsPath name
  pub whole : is_beside name ≡ false

-- the name of an object that begins so
pub record IsListed (prefix name : List ℕ) : Type 0 where
  pub named : IsObjectName name
  pub begins : Begins prefix name

-- the same of each of these
abbrev pub AreListed : List ℕ → List (String Global) → Type 0
AreListed prefix names = All (λ name. IsListed prefix (string_bytes name)) names
