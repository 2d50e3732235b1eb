-- Members of an object of JSON, each missing or of the kind that it may have.
use Rattle.std.specs.Prelude.{◌≡◌, ◌⊎◌, ℕ, ◌<◌, ◌≤◌, ◌^◌, decimal, Bool, true, false, ◌||◌, is_some}
use Rattle.std.specs.Prelude.{List, [], ◌∷◌, codes, Option, Some, None, option_and_then, option_map}
use Rattle.serde_json.specs.Data.{Data}
use Rattle.serde_json.specs.Find.{get, as_bool, as_str, as_null, as_object, as_number, as_u64}
use Rattle.vol_units.specs.Time.{IsTimeText}
use Rattle.chain_meta.specs.ImageNames.{IsImageName, IsHeadFile}

-- the member is missing, or is there and of that kind
abbrev pub HasKind : {A : Type 0} → (Data → A → Type 0) → Option Data → Option A → Type 0
HasKind Is None None = Unit {0}
HasKind Is None (Some a) = ⊥
HasKind Is (Some d) None = ⊥
HasKind Is (Some d) (Some a) = Is d a

-- the value of a member, or what stands for it where it is missing
abbrev pub or_missing : {A : Type 0} → A → (Data → Option A) → Option Data → Option A
or_missing missing f None = Some missing
or_missing missing f (Some d) = f d

-- a text that is not empty
abbrev pub is_filled : Option (List ℕ) → Bool
is_filled None = false
is_filled (Some []) = false
is_filled (Some (c ∷ cs)) = true

-- true or false
abbrev pub IsFlag : Data → Bool → Type 0
IsFlag d flag = as_bool d ≡ Some flag

-- the file name of an image
abbrev pub IsImage : Data → List ℕ → Type 0
IsImage d file = (as_str d ≡ Some file) × IsImageName file

-- an image's file name, or the empty text for none
abbrev pub IsParent : Data → Option (List ℕ) → Type 0
IsParent d None = as_str d ≡ Some []
IsParent d (Some file) = IsImage d file

-- the largest number of a head that is opened
abbrev pub largest_head : ℕ
largest_head = 999999

-- the most bytes of metadata that are read
abbrev pub largest_meta : ℕ
largest_meta = 1048576

-- the file of the head of that number, which is one that is opened
abbrev pub IsHead : Data → ℕ → Type 0
IsHead d n = (file : List ℕ) × (as_str d ≡ Some file) × IsHeadFile n file × (n ≤ largest_head)

-- a whole number, or the decimal text of one
abbrev pub IsSize : Data → ℕ → Type 0
IsSize d size = (option_and_then as_u64 (as_number d) ≡ Some size)
    ⊎ ((as_str d ≡ Some (decimal size)) × (size < 2 ^ 64))

-- whether an error is told: a text, which is empty where the member is missing
abbrev pub HasError : Option Data → Bool → Type 0
HasError found failed = option_map (λ text. is_filled (Some text)) (or_missing [] as_str found) ≡ Some failed

-- the time at which a layer was made, empty where it is missing
abbrev pub HasCreated : Option Data → List ℕ → Type 0
HasCreated found text = (or_missing [] as_str found ≡ Some text) × IsTimeText text

-- true or false, and false where it is missing
abbrev pub HasFlagOrFalse : Option Data → Bool → Type 0
HasFlagOrFalse found flag = or_missing false as_bool found ≡ Some flag

-- labels: missing, null or an object
abbrev pub are_labels : Option Data → Bool
are_labels None = true
are_labels (Some d) = is_some (as_null d) || is_some (as_object d)

-- a backing file is named
abbrev pub has_backing : Data → Bool
has_backing d = is_filled (option_and_then as_str (get (codes "BackingFilePath") d))
    || is_filled (option_and_then as_str (get (codes "BackingFileName") d))
