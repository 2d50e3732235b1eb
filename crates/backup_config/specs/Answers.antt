-- What bytes say as a cfg, and in which order they are refused.
use Rattle.std.specs.Prelude.{◌≡◌, ◌≢◌, ◌⊎◌, ◌≤◌, ℕ, true, List, length, Some, Result, Ok, Err, IsUtf8, is_some}
use Rattle.serde_json.specs.Data.{Data}
use Rattle.serde_json.specs.Errors.{IsMemory}
use Rattle.serde_json.specs.Find.{as_object}
use Rattle.serde_json.specs.Read.{read}
use Rattle.serde_json.specs.declared.error.Error.{Error}
use Rattle.backup_config.specs.declared.error.CfgError.{CfgError}
use Rattle.backup_config.specs.declared.error.CfgError.TheVariants.{Syntax, Missing, Compressed, Backing, NoMemory}

-- the most bytes of a cfg
abbrev pub largest_cfg : ℕ
largest_cfg = 1048576

-- the refusal that an error of reading JSON becomes
abbrev pub IsRefusalOf : Error → CfgError → Type 0
IsRefusalOf fault Syntax = ¬ IsMemory fault
IsRefusalOf fault (Missing m) = ⊥
IsRefusalOf fault Compressed = ⊥
IsRefusalOf fault Backing = ⊥
IsRefusalOf fault NoMemory = IsMemory fault

-- what is found, as contracts see it, has this value, or there is none; memory alone is free
abbrev pub FindsAs : {T S : Type 0} → (T → S) → (S → Type 0) → Result T CfgError → Type 0
FindsAs seen Has (Ok value) = Has (seen value)
FindsAs {T} {S} seen Has (Err Syntax) = (value : S) → Has value → ⊥
FindsAs seen Has (Err (Missing m)) = ⊥
FindsAs seen Has (Err Compressed) = ⊥
FindsAs seen Has (Err Backing) = ⊥
FindsAs seen Has (Err NoMemory) = Unit {0}

-- the same of what contracts see as it is
abbrev pub Finds : {T : Type 0} → (T → Type 0) → Result T CfgError → Type 0
Finds = FindsAs (λ value. value)

-- the answer is this one, or want of memory
abbrev pub IsOrNoMemory : {T : Type 0} → Result T CfgError → Result T CfgError → Type 0
IsOrNoMemory expected result = result ≢ Err NoMemory → result ≡ expected

-- the bytes are UTF-8, at most 1 MiB, and have this object for their value
pub record IsObject (bytes : List ℕ) (d : Data) : Type 0 where
  pub most : length bytes ≤ largest_cfg
  pub text : IsUtf8 bytes
  pub value : read bytes ≡ Some d
  pub object : is_some (as_object d) ≡ true

-- A cfg T, and its members M, of which some may be missing: which members an object has where each is of the kind that
-- it may have, and the answer that members give.
module _ {M T : Type 0} (Has : Data → M → Type 0) (answer : M → Result T CfgError) where
  -- the bytes are an object, each member of the kind that it may have, and these are its members
  abbrev pub AreMembers : List ℕ → M → Type 0
  AreMembers bytes m = (d : Data) × IsObject bytes d × Has d m

  -- the bytes have members, and these give that answer
  abbrev pub Gives : List ℕ → Result T CfgError → Type 0
  Gives bytes result = (m : M) × AreMembers bytes m × (answer m ≡ result)

  -- the answer is true of the bytes: they have no members, and it is a refusal by syntax, or it is that of their members;
  -- want of memory is free
  abbrev pub Says : List ℕ → Result T CfgError → Type 0
  Says bytes (Ok cfg) = Gives bytes (Ok cfg)
  Says bytes (Err Syntax) = (m : M) → AreMembers bytes m → ⊥
  Says bytes (Err (Missing n)) = Gives bytes (Err (Missing n))
  Says bytes (Err Compressed) = Gives bytes (Err Compressed)
  Says bytes (Err Backing) = Gives bytes (Err Backing)
  Says bytes (Err NoMemory) = Unit {0}

  -- but for want of memory no other answer is true of the bytes
  abbrev pub IsOnlyAnswer : List ℕ → Result T CfgError → Type 0
  IsOnlyAnswer bytes result = (other : Result T CfgError) → other ≢ Err NoMemory
      → Says bytes other → (result ≡ other) ⊎ (result ≡ Err NoMemory)
