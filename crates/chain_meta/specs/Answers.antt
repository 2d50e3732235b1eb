-- What bytes say as metadata, and why they say nothing.
use Rattle.std.specs.Prelude.{◌≡◌, ◌≢◌, ◌⊎◌, ℕ, Bool, true, List, Option, Some, None, Result, Ok, Err}
use Rattle.std.specs.Prelude.{MatchResult, IsUtf8, is_some}
use Rattle.serde_json.specs.Data.{Data}
use Rattle.serde_json.specs.Errors.{IsMemory}
use Rattle.serde_json.specs.Find.{as_object}
use Rattle.serde_json.specs.Read.{read}
use Rattle.serde_json.specs.declared.error.Error.{Error}
use Rattle.chain_meta.specs.declared.error.MetaError.{MetaError}
use Rattle.chain_meta.specs.declared.error.MetaError.TheVariants.{Syntax, Missing, Backing, NoMemory}
use Rattle.chain_meta.specs.declared.error.MetaMember.{MetaMember}

-- the refusal that an error of reading JSON becomes
abbrev pub IsRefusalOf : Error → MetaError → Type 0
IsRefusalOf fault Syntax = ¬ IsMemory fault
IsRefusalOf fault (Missing m) = ⊥
IsRefusalOf fault Backing = ⊥
IsRefusalOf fault NoMemory = IsMemory fault

-- what is found has this value, or none; memory alone is free
abbrev pub Finds : {T : Type 0} → (T → Type 0) → Result T MetaError → Type 0
Finds Has (Ok value) = Has value
Finds {T} Has (Err Syntax) = (value : T) → Has value → ⊥
Finds Has (Err (Missing m)) = ⊥
Finds Has (Err Backing) = ⊥
Finds Has (Err NoMemory) = Unit {0}

-- the bytes are UTF-8, and have this object for their value
pub record IsObject (bytes : List ℕ) (d : Data) : Type 0 where
  pub text : IsUtf8 bytes
  pub value : read bytes ≡ Some d
  pub object : is_some (as_object d) ≡ true

-- Metadata T, and its members M, of which some may be missing: which members an object has where each is of the
-- kind that it may have, the first that is missing, whether a backing file is named, and what all of them tell.
module _ {M T : Type 0} (Has : Data → M → Type 0) (missing : M → Option MetaMember) (backed : M → Bool)
    (Tells : M → T → Type 0) where
  -- the bytes are an object, each member of the kind that it may have, and these are its members
  abbrev pub HasMembers : List ℕ → M → Type 0
  HasMembers bytes m = (d : Data) × IsObject bytes d × Has d m

  -- the answer that members give
  abbrev pub Completes : M → Result T MetaError → Type 0
  Completes m (Ok meta) = Tells m meta
  Completes m (Err Syntax) = ⊥
  Completes m (Err (Missing n)) = missing m ≡ Some n
  Completes m (Err Backing) = (missing m ≡ None) × (backed m ≡ true)
  Completes m (Err NoMemory) = ⊥

  -- the bytes say this
  abbrev pub Says : List ℕ → T → Type 0
  Says bytes meta = (m : M) × HasMembers bytes m × Tells m meta

  -- Why bytes are refused. Kinds come first, then what is missing, then a backing file; want of memory is free.
  abbrev pub Refuses : List ℕ → MetaError → Type 0
  Refuses bytes Syntax = (m : M) → HasMembers bytes m → ⊥
  Refuses bytes (Missing n) = (m : M) × HasMembers bytes m × (missing m ≡ Some n)
  Refuses bytes Backing = (m : M) × HasMembers bytes m × (missing m ≡ None) × (backed m ≡ true)
  Refuses bytes NoMemory = Unit {0}

  -- the answer is true of the bytes
  abbrev pub Answers : List ℕ → Result T MetaError → Type 0
  Answers bytes result = MatchResult result (Says bytes) (Refuses bytes)

  -- but for want of memory no other answer is true of the bytes
  abbrev pub IsOnlyAnswer : List ℕ → Result T MetaError → Type 0
  IsOnlyAnswer bytes result = (other : Result T MetaError) → other ≢ Err NoMemory
      → Answers bytes other → (result ≡ other) ⊎ (result ≡ Err NoMemory)
