-- The grammar of names, as lists of bytes.
use Rattle.std.specs.Prelude.{◌≡◌, ◌⊎◌, ℕ, ◌^◌, ◌<◌, ◌≤◌, Bool, true, false, ◌||◌, ◌==◌, List, ◌++◌, length, slice_index, nat_eq, codes}
use Rattle.std.specs.List.{list_all, list_any, starts_with}
use Rattle.std.specs.Char.{is_ascii_alphanumeric}
use Rattle.std.specs.Fmt.{decimal}

-- a letter, a digit, or one of . _ -
abbrev pub is_name_byte : ℕ → Bool
is_name_byte c = is_ascii_alphanumeric c || list_any (λ mark. c == mark) (codes "._-")

-- 1 to 64 such bytes
pub record IsName (name : List ℕ) : Type 0 where
  pub some : 1 ≤ length name
  pub most : length name ≤ 64
  pub bytes : list_all is_name_byte name ≡ true

-- it begins as the engine's own names do
abbrev pub begins_sys : List ℕ → Bool
begins_sys name = starts_with nat_eq name (codes "sys-")

-- a name of a snapshot that a user takes
pub record IsSnapName (name : List ℕ) : Type 0 where
  pub spelled : IsName name
  pub user : begins_sys name ≡ false

-- a name of a volume or a backup: it begins with a letter or a digit
pub record IsPlainName (name : List ℕ) : Type 0 where
  pub spelled : IsName name
  pub first : is_ascii_alphanumeric (slice_index name 0) ≡ true

-- a number of at most ten digits, in decimal without leading zeros
abbrev pub IsNumber : List ℕ → Type 0
IsNumber text = (number : ℕ) × (number < 10 ^ 10) × (text ≡ decimal number)

-- the engine's name for the snapshot that closes the head of that number
abbrev pub sys_name : ℕ → List ℕ
sys_name number = codes "sys-" ++ decimal number

-- such a name, of a number of at most ten digits
abbrev pub IsSysName : List ℕ → Type 0
IsSysName name = (number : ℕ) × (number < 10 ^ 10) × (name ≡ sys_name number)

-- a name of a layer below the head, as texts give it: a user's or the engine's own
abbrev pub IsLayerName : List ℕ → Type 0
IsLayerName name = IsSnapName name ⊎ IsSysName name

-- such a name, of whatever number a head has come to
abbrev pub IsOwnName : List ℕ → Type 0
IsOwnName name = (number : ℕ) × (number < 2 ^ 64) × (name ≡ sys_name number)

-- a name that a layer has
abbrev pub IsNameOfLayer : List ℕ → Type 0
IsNameOfLayer name = IsSnapName name ⊎ IsOwnName name
