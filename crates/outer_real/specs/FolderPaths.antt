-- Where the files of shelves lie: below one base, in a folder for each shelf.
use Rattle.std.specs.Prelude.{◌≢◌, ℕ, ◌<◌, List, [], ◌∷◌, ◌++◌, length, slice_index, codes, decimal}
use Rattle.std.specs.Path.{slash}

-- the name of an entry of a folder: a path that ends in it does not lead out of the folder
pub record IsPlain (name : List ℕ) : Type 0 where
  pub named : name ≢ []
  pub not_itself : name ≢ codes "."
  pub not_above : name ≢ codes ".."
  pub no_slash : (k : ℕ) → k < length name → slice_index name k ≢ slash

-- the folder of a shelf; the base ends in a slash
abbrev pub folder_at : List ℕ → ℕ → List ℕ
folder_at base shelf = base ++ codes "r" ++ decimal shelf

-- a file of a shelf
abbrev pub file_at : List ℕ → ℕ → List ℕ → List ℕ
file_at base shelf name = folder_at base shelf ++ slash ∷ name
