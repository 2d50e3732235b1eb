-- Which pages are copied, as bits: one for each page of each frozen layer, layer by layer.
use Rattle.std.specs.Prelude.{◌≡◌, ℕ, suc, ◌+◌, ◌*◌, ◌<◌, ◌≤◌, Bool, true, false, ◌&&◌, nat_lt, List, [], ◌∷◌, length}
use Rattle.std.specs.Prelude.{slice_index_or, if◌then◌else◌}
use Rattle.std.specs.Str.{bytes_eq}

-- whether the page at a place is listed
abbrev pub flag_at : List Bool → ℕ → Bool
flag_at bits place = slice_index_or bits place false

-- so many of the first are
abbrev pub AreListed : List Bool → ℕ → Type 0
AreListed bits count = (place : ℕ) → place < count → flag_at bits place ≡ true

-- the first that is not listed
pub record IsFirstLeft (bits : List Bool) (place : ℕ) : Type 0 where
  pub within : place < length bits
  pub left : flag_at bits place ≡ false
  pub before : AreListed bits place

-- all before that place are listed, and the one there is not
pub record IsSought (bits : List Bool) (first : ℕ) : Type 0 where
  pub within : first ≤ length bits
  pub before : AreListed bits first
  pub left : first < length bits → flag_at bits first ≡ false

-- ---- layers and pages

-- the place of the first layer of the name, and past their end where none has it
unfoldable pub place_of : List (List ℕ) → List ℕ → ℕ
place_of [] name = 0
place_of (x ∷ xs) name = if bytes_eq name x then 0 else suc (place_of xs name)

-- whether the page of the layer of the name is listed, where each layer has so many pages
abbrev pub is_listed_in : List (List ℕ) → ℕ → List Bool → List ℕ → ℕ → Bool
is_listed_in frozen pages bits name page = nat_lt page pages && flag_at bits (place_of frozen name * pages + page)
